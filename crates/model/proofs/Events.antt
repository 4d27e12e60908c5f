-- What the call at a place is to one index: a snapshot, a cure, a settlement, or nothing.
use Rattle.std.proofs.Common.{◌≡◌, ℕ, Bool, true, false, eqb, List, [], ◌∷◌, ℤ, Some, None, Ok, Err, Option, sym, refl, ap, ◌∙◌, subst, ⊎_elim, arith}
use Rattle.std.proofs.lemmas.Bool.{cond-false, ne_eqb, cases_eq}
use Rattle.std.specs.List.{slice_get}
use Rattle.terms.specs.declared.refusal.Refusal.{Refusal}
use Rattle.terms.specs.declared.mark.Mark.{Mark}
use Rattle.delta.specs.Sources.{Source}
use Rattle.cover.specs.Covers.{Amounts}
use Rattle.index.specs.Calls.{rule_of, judged_by, settled_by, cover_in}
use Rattle.index.specs.Sweeps.{swept}
use Rattle.index.specs.Days.{no_day, day_after, cured_day}
use Rattle.index.specs.declared.calls.Rule.{Rule}
use Rattle.index.specs.declared.day.Day.{Day}
use Rattle.index.specs.declared.calls.Rule.TheVariants as rule
use Rattle.index.specs.declared.mark.MarkRow.{MarkRow}
use Rattle.terms.specs.Causes.{Verdict, unless}
use Rattle.model.specs.Causes.{Answer, cause_in}
use Rattle.model.specs.Opening.{Terms, terms_of}
use Rattle.model.specs.State.{State, Marks, at}
use Rattle.model.specs.Readings.{reading_at}
use Rattle.model.specs.Indices.{round_of}
use Rattle.model.specs.Calls.{Call, post, entry, confirm, snapshot, cure, settle, set_limit, close, closed_table, of_call, verdict, number, done, decided}
use Rattle.model.specs.Runs.{Run, before, after, next, refusal_of, answer_of, answer_at, Accepted}
use Rattle.model.proofs.Places.{terms_stay}
use Rattle.model.proofs.Ban.{at_same}

at_other : {A : Type 0} (k : ℕ) (a : A) (f : ℕ → A) (j : ℕ) → (j ≡ k → ⊥) → at k a f j ≡ f j
at_other k a f j h = cond-false (eqb j k) a (f j) (ne_eqb j k h)

-- ---- what an accepted call passed

accepted_verdict : (v : Verdict) (n : ℤ) (old new : State) → cause_in (decided v n old new).0 ≡ None → v ≡ Ok tt
accepted_verdict (Ok tt) n old new e = refl
accepted_verdict (Err why) n old new e = let z : ◌≡◌ {A = ℕ} 0 1 = cc in absurd (omega arith)

-- no cause of a table holds
abbrev pub Clear : List (Bool × Refusal) → Type 0
Clear [] = Unit {0}
Clear ((holds, why) ∷ more) = (holds ≡ false) × Clear more

-- none does where a call is let through
pub cleared : (t : List (Bool × Refusal)) (v : Verdict) → unless t v ≡ Ok tt → Clear t × (v ≡ Ok tt)
cleared [] v e = (tt, e)
cleared ((false, why) ∷ t) v e = let h = cleared t v e in ((refl, h.0), h.1)
cleared ((true, why) ∷ t) v e = let z : ◌≡◌ {A = ℕ} 0 1 = cc in absurd (omega arith)

pub verdict_of_accepted : (r : Run) (k : ℕ) (c : Call) → Accepted r k c → of_call (before r k).terms.listing (before r k).ledger c ≡ Ok tt
verdict_of_accepted r k c a =
    let s = before r k in
    (cleared (closed_table s.terms) (of_call s.terms.listing s.ledger c)
    (accepted_verdict (verdict s.terms s.ledger c) (number s c) s (done s c) (sym (ap (refusal_of s) a.holds) ∙ a.passed))).1

-- what it is answered
answered : (v : Verdict) (n : ℤ) (old new : State) → cause_in (decided v n old new).0 ≡ None → (decided v n old new).0 ≡ Ok n
answered (Ok tt) n old new e = refl
answered (Err why) n old new e = let z : ◌≡◌ {A = ℕ} 0 1 = cc in absurd (omega arith)

pub answer_of_accepted : (r : Run) (k : ℕ) (c : Call) → Accepted r k c → answer_at r k ≡ Some (Ok (number (before r k) c))
answer_of_accepted r k c a =
    let s = before r k in
    ap (answer_of s) a.holds
    ∙ ap Some (answered (verdict s.terms s.ledger c) (number s c) s (done s c) (sym (ap (refusal_of s) a.holds) ∙ a.passed))

-- ---- one call at a place
pub one_call : (r : Run) (k : ℕ) (c c' : Call) → Accepted r k c → Accepted r k c' → c ≡ c'
one_call r k c c' a b = inj (sym a.holds ∙ b.holds)
  where
    inj : Some c ≡ Some c' → c ≡ c'
    inj e = cc

-- a call of the day of the index u
abbrev pub is_about : ℕ → Call → Bool
is_about u (snapshot v d) = eqb v u
is_about u (cure v d) = eqb v u
is_about u (settle v a) = eqb v u
is_about u other = false

-- ---- what an accepted call makes of the rows and the day of the index u

-- the rows of an index after a snapshot or a cure, and after a settlement
abbrev pub watched_rows : Terms → State → Rule → ℕ → Source → ℕ → Mark → MarkRow
watched_rows t s which u d = swept t.listing.entities (judged_by which t.limits d.price (reading_at t.listing u d s.ledger.book.at)) (s.marks u)

abbrev pub settled_rows : Terms → State → ℕ → Amounts → ℕ → Mark → MarkRow
settled_rows t s u a = swept t.listing.entities (settled_by t.limits (cover_in a u)) (s.marks u)

data Turn (s s' : State) (u : ℕ) (c : Call) : Type 0 where
  snaps : (d : Source) → c ≡ snapshot u d → s'.marks u ≡ watched_rows s.terms s (rule_of (round_of d)) u d → s'.ledger.days u ≡ day_after (round_of d) d.minute (s.ledger.days u) → Turn s s' u c
  cures : (d : Source) → c ≡ cure u d → s'.marks u ≡ watched_rows s.terms s rule.Cure u d → s'.ledger.days u ≡ cured_day d.minute (s.ledger.days u) → Turn s s' u c
  settles : (a : Amounts) → c ≡ settle u a → s'.marks u ≡ settled_rows s.terms s u a → s'.ledger.days u ≡ no_day → Turn s s' u c
  rests : is_about u c ≡ false → s'.marks u ≡ s.marks u → s'.ledger.days u ≡ s.ledger.days u → Turn s s' u c

-- a call on the index v: what it is to that one it is to u where they are equal, and otherwise u's rows and day rest
turn_of_index : (s : State) (u v : ℕ) (c : Call) (rows : ℕ → Mark → MarkRow) (day : Day) → is_about u c ≡ eqb v u → (done s c).marks ≡ at v rows s.marks → (done s c).ledger.days ≡ at v day s.ledger.days → Turn s (done s c) v c → Turn s (done s c) u c
turn_of_index s u v c rows day about marks days here = ⊎_elim hit miss (cases_eq u v)
  where
    hit : u ≡ v → Turn s (done s c) u c
    hit q = subst (λ (w : ℕ). Turn s (done s c) w c) (sym q) here

    miss : (u ≡ v → ⊥) → Turn s (done s c) u c
    miss q =
        rests (about ∙ ne_eqb v u (λ e. q (sym e))) (ap (λ (f : Marks). f u) marks ∙ at_other v rows s.marks u q)
        (ap (λ (f : ℕ → Day). f u) days ∙ at_other v day s.ledger.days u q)

turn : (s : State) (u : ℕ) (c : Call) → Turn s (done s c) u c
turn s u (post e c x) = rests refl refl refl
turn s u (entry k d) = rests refl refl refl
turn s u (confirm k) = rests refl refl refl
turn s u (set_limit v f ds) = rests refl refl refl
turn s u (close v two d) = rests refl refl refl
turn s u (snapshot v d) =
    turn_of_index s u v (snapshot v d) (watched_rows s.terms s (rule_of (round_of d)) v d) (day_after (round_of d) d.minute (s.ledger.days v)) refl refl refl
    (snaps d refl (at_same v _ s.marks) (at_same v _ s.ledger.days))
turn s u (cure v d) =
    turn_of_index s u v (cure v d) (watched_rows s.terms s rule.Cure v d) (cured_day d.minute (s.ledger.days v)) refl refl refl
    (cures d refl (at_same v _ s.marks) (at_same v _ s.ledger.days))
turn s u (settle v a) =
    turn_of_index s u v (settle v a) (settled_rows s.terms s v a) no_day refl refl refl
    (settles a refl (at_same v _ s.marks) (at_same v _ s.ledger.days))

-- the same of a place of a run
pub data Event (r : Run) (k u : ℕ) : Type 0 where
  snaps_at : (d : Source) → Accepted r k (snapshot u d) → (after r k).marks u ≡ watched_rows (terms_of r.opening) (before r k) (rule_of (round_of d)) u d → (after r k).ledger.days u ≡ day_after (round_of d) d.minute ((before r k).ledger.days u) → Event r k u
  cures_at : (d : Source) → Accepted r k (cure u d) → (after r k).marks u ≡ watched_rows (terms_of r.opening) (before r k) rule.Cure u d → (after r k).ledger.days u ≡ cured_day d.minute ((before r k).ledger.days u) → Event r k u
  settles_at : (a : Amounts) → Accepted r k (settle u a) → (after r k).marks u ≡ settled_rows (terms_of r.opening) (before r k) u a → (after r k).ledger.days u ≡ no_day → Event r k u
  rests_at : ((c : Call) → Accepted r k c → is_about u c ≡ false) → (after r k).marks u ≡ (before r k).marks u → (after r k).ledger.days u ≡ (before r k).ledger.days u → Event r k u

module _ (r : Run) (k u : ℕ) where
  of_turn : (c : Call) → Accepted r k c → Turn (before r k) (after r k) u c → Event r k u
  of_turn c a (snaps d q m p) = snaps_at d (subst (Accepted r k) q a) (m ∙ ap (λ (t : Terms). watched_rows t (before r k) (rule_of (round_of d)) u d) (terms_stay r k)) p
  of_turn c a (cures d q m p) = cures_at d (subst (Accepted r k) q a) (m ∙ ap (λ (t : Terms). watched_rows t (before r k) rule.Cure u d) (terms_stay r k)) p
  of_turn c a (settles v q m p) = settles_at v (subst (Accepted r k) q a) (m ∙ ap (λ (t : Terms). settled_rows t (before r k) u v) (terms_stay r k)) p
  of_turn c a (rests z m p) = rests_at (λ c' b. ap (is_about u) (one_call r k c' c b a) ∙ z) m p

  -- nothing was accepted
  nothing : ((c : Call) → Accepted r k c → ⊥) → after r k ≡ before r k → Event r k u
  nothing n p = rests_at (λ c a. absurd (n c a)) (ap (λ (x : State). x.marks u) p) (ap (λ (x : State). x.ledger.days u) p)

  of_verdict : (c : Call) → slice_get r.calls k ≡ Some c → (v : Verdict) → verdict (before r k).terms (before r k).ledger c ≡ v → Event r k u
  of_verdict c e (Ok tt) q =
      let told = ap (λ (v : Verdict). decided v (number (before r k) c) (before r k) (done (before r k) c)) q in
      let here : Accepted r k c = record { holds = e; passed = ap (refusal_of (before r k)) e ∙ ap (λ (p : Answer × State). cause_in p.0) told } in
      of_turn c here (subst (λ (x : State). Turn (before r k) x u c) (sym (ap (next (before r k)) e ∙ ap (λ (p : Answer × State). p.1) told)) (turn (before r k) u c))
  of_verdict c e (Err why) q =
      let told = ap (λ (v : Verdict). decided v (number (before r k) c) (before r k) (done (before r k) c)) q in
      nothing (λ c' a.
      let w : Some why ≡ None = sym (ap (refusal_of (before r k)) e ∙ ap (λ (p : Answer × State). cause_in p.0) told) ∙ a.passed in
      let z : ◌≡◌ {A = ℕ} 0 1 = cc in omega arith) (ap (next (before r k)) e ∙ ap (λ (p : Answer × State). p.1) told)

  place : (x : Option Call) → slice_get r.calls k ≡ x → Event r k u
  place None e = nothing (λ c a. let w : None ≡ Some c = sym e ∙ a.holds in let z : ◌≡◌ {A = ℕ} 0 1 = cc in omega arith) (ap (next (before r k)) e)
  place (Some c) e = of_verdict c e (verdict (before r k).terms (before r k).ledger c) refl

  pub event : Event r k u
  event = place (slice_get r.calls k) refl
