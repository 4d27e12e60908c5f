-- The index's day over runs: a cure is owed exactly while a regular snapshot waits for it, and minutes are small.
use Rattle.std.proofs.Common.{◌≡◌, ℕ, zero, suc, ◌+◌, ◌<◌, ◌≤◌, ◌↔◌, ◌⊎◌, Bool, true, false, is_some, Some, None, Option, sym, refl, ap, ◌∙◌, subst, inl, inr, ⊎_elim, le_refl, arith}
use Rattle.std.proofs.lemmas.Bool.{eq-eqb, eqb-true, ltb-true, not-false, both_ways, and_parts, cases_eq, false≢true}
use Rattle.std.proofs.lemmas.Bool.Decides.{nat_tests}
use Rattle.delta.specs.Sources.{Source}
use Rattle.cover.specs.Covers.{Amounts}
use Rattle.index.specs.declared.day.Day.{Day}
use Rattle.index.specs.declared.day.Round.{Round}
use Rattle.index.specs.declared.day.Round.TheVariants.{Regular, Final}
use Rattle.index.specs.Bounds.{last_minute, cure_minutes}
use Rattle.index.specs.declared.day.Due.{Due}
use Rattle.index.specs.declared.day.Due.TheVariants as due
use Rattle.index.specs.Days.{round_at, is_later, is_cure_time, awaits_snapshot, owes_cure, is_complete, owed_by}
use Rattle.terms.specs.declared.kind.Underlying.TheVariants as kind
use Rattle.terms.specs.Causes.{unless}
use Rattle.model.specs.Causes.{kind_table}
use Rattle.model.specs.Opening.{Listing}
use Rattle.model.specs.Indices.{snapshot_table, cure_table, of_reading, round_in}
use Rattle.model.specs.Calls.{Call, snapshot, cure, settle}
use Rattle.model.specs.Runs.{Run, before, after, Accepted}
use Rattle.model.specs.Breaches.{LastSnapshot, Uncured, Unsettled, Owed}
use Rattle.model.proofs.Events.{cleared, verdict_of_accepted, one_call, is_about, Event, snaps_at, cures_at, settles_at, rests_at, event}

-- ---- a day waits for one thing
pub not_snapshot_and_cure : (x : Due) → awaits_snapshot x ≡ true → owes_cure x ≡ true → ⊥
not_snapshot_and_cure due.Snapshot p q = false≢true q
not_snapshot_and_cure due.Cure p q = false≢true p
not_snapshot_and_cure due.Settlement p q = false≢true p

pub not_snapshot_and_settlement : (x : Due) → awaits_snapshot x ≡ true → is_complete x ≡ true → ⊥
not_snapshot_and_settlement due.Snapshot p q = false≢true q
not_snapshot_and_settlement due.Cure p q = false≢true p
not_snapshot_and_settlement due.Settlement p q = false≢true p

pub not_cure_and_settlement : (x : Due) → owes_cure x ≡ true → is_complete x ≡ true → ⊥
not_cure_and_settlement due.Snapshot p q = false≢true p
not_cure_and_settlement due.Cure p q = false≢true q
not_cure_and_settlement due.Settlement p q = false≢true p

-- ---- which call

sort : Call → ℕ
sort (snapshot u d) = 1
sort (cure u d) = 2
sort (settle u a) = 3
sort other = 0

source_in : Source → Call → Source
source_in z (snapshot u d) = d
source_in z (cure u d) = d
source_in z other = z

cover_in : Amounts → Call → Amounts
cover_in z (settle u a) = a
cover_in z other = z

which : Option Round → ℕ
which None = 0
which (Some Regular) = 1
which (Some Final) = 2

-- no snapshot is both regular and final
pub differ : Some Final ≡ Some Regular → ⊥
unfolding which
differ e = let p : ◌≡◌ {A = ℕ} 2 1 = ap which e in omega arith

module _ (r : Run) (k u : ℕ) where
  -- no other call of the day is where one is
  pub snapshot_or_cure : (d d' : Source) → Accepted r k (snapshot u d) → Accepted r k (cure u d') → ⊥
  unfolding sort
  snapshot_or_cure d d' a b = let p : ◌≡◌ {A = ℕ} 1 2 = ap sort (one_call r k (snapshot u d) (cure u d') a b) in omega arith

  pub snapshot_or_settlement : (d : Source) (c : Amounts) → Accepted r k (snapshot u d) → Accepted r k (settle u c) → ⊥
  unfolding sort
  snapshot_or_settlement d c a b = let p : ◌≡◌ {A = ℕ} 1 3 = ap sort (one_call r k (snapshot u d) (settle u c) a b) in omega arith

  pub cure_or_settlement : (d : Source) (c : Amounts) → Accepted r k (cure u d) → Accepted r k (settle u c) → ⊥
  unfolding sort
  cure_or_settlement d c a b = let p : ◌≡◌ {A = ℕ} 2 3 = ap sort (one_call r k (cure u d) (settle u c) a b) in omega arith

  pub one_snapshot : (d d' : Source) → Accepted r k (snapshot u d) → Accepted r k (snapshot u d') → d ≡ d'
  unfolding source_in
  one_snapshot d d' a b = ap (source_in d) (one_call r k (snapshot u d) (snapshot u d') a b)

  pub one_cure : (d d' : Source) → Accepted r k (cure u d) → Accepted r k (cure u d') → d ≡ d'
  unfolding source_in
  one_cure d d' a b = ap (source_in d) (one_call r k (cure u d) (cure u d') a b)

  pub one_settlement : (c c' : Amounts) → Accepted r k (settle u c) → Accepted r k (settle u c') → c ≡ c'
  unfolding cover_in
  one_settlement c c' a b = ap (cover_in c) (one_call r k (settle u c) (settle u c') a b)

  -- none is where none of the index's day is
  module _ (rests : (c : Call) → Accepted r k c → is_about u c ≡ false) where
    pub no_snapshot : (d : Source) → Accepted r k (snapshot u d) → ⊥
    no_snapshot d a = false≢true (sym (rests (snapshot u d) a) ∙ eq-eqb u u refl)

    pub no_cure : (d : Source) → Accepted r k (cure u d) → ⊥
    no_cure d a = false≢true (sym (rests (cure u d) a) ∙ eq-eqb u u refl)

    pub no_settlement : (c : Amounts) → Accepted r k (settle u c) → ⊥
    no_settlement c a = false≢true (sym (rests (settle u c) a) ∙ eq-eqb u u refl)

  -- ---- what an accepted snapshot and an accepted cure say of the day
  abbrev pub day : Day
  day = (before r k).ledger.days u

  abbrev listing : Listing
  listing = (before r k).terms.listing

  pub at_snapshot : (d : Source) → Accepted r k (snapshot u d) → (awaits_snapshot day.due ≡ true) × (is_some (round_at d.minute) ≡ true) × (is_later day.last d.minute ≡ true)
  at_snapshot d a =
      let v = of_reading listing (before r k).ledger u d in
      let e = cleared (kind_table listing kind.Index u) (unless (snapshot_table day d) v) (verdict_of_accepted r k (snapshot u d) a) in
      let p = (cleared (snapshot_table day d) v e.1).0 in
      let t = and_parts (is_some (round_at d.minute)) (is_later day.last d.minute) (not-false _ p.1.0) in
      (not-false _ p.0, t.0, t.1)

  pub at_cure_is : (d : Source) → Accepted r k (cure u d) → (owes_cure day.due ≡ true) × (is_cure_time day.last d.minute ≡ true)
  at_cure_is d a =
      let v = of_reading listing (before r k).ledger u d in
      let e = cleared (kind_table listing kind.Index u) (unless (cure_table day d) v) (verdict_of_accepted r k (cure u d) a) in
      let p = (cleared (cure_table day d) v e.1).0 in
      (not-false _ p.0, not-false _ p.1.0)

  -- a snapshot that was accepted is a regular one or the final one
  pub which_round : (d : Source) → Accepted r k (snapshot u d) → (round_at d.minute ≡ Some Regular) ⊎ (round_at d.minute ≡ Some Final)
  which_round d a = go (round_at d.minute) (at_snapshot d a).1
    where
      go : (o : Option Round) → is_some o ≡ true → (o ≡ Some Regular) ⊎ (o ≡ Some Final)
      go None e = absurd (false≢true e)
      go (Some Regular) e = inl refl
      go (Some Final) e = inr refl

  -- ---- from place k to the next
  pub snapshot_on : (j : ℕ) (d : Source) → LastSnapshot r k u j d → ((d' : Source) → Accepted r k (snapshot u d') → ⊥) → LastSnapshot r (suc k) u j d
  snapshot_on j d l n = record {
    earlier = let h = l.earlier in omega arith;
    accepted = l.accepted;
    last = λ i d' a b x. ⊎_elim (λ q. n d' (subst (λ (p : ℕ). Accepted r p (snapshot u d')) q x)) (λ q. l.last i d' a (omega arith) x) (cases_eq i k);
  }

  pub snapshot_back : (j : ℕ) (d : Source) → LastSnapshot r (suc k) u j d → ((d' : Source) → Accepted r k (snapshot u d') → ⊥) → LastSnapshot r k u j d
  snapshot_back j d l n = record {
    earlier = ⊎_elim (λ q. absurd (n d (subst (λ (p : ℕ). Accepted r p (snapshot u d)) q l.accepted))) (λ q. let h = l.earlier in omega arith) (cases_eq j k);
    accepted = l.accepted;
    last = λ i d' a b x. l.last i d' a (omega arith) x;
  }

  -- the last snapshot is at place k, if there is one there
  pub last_here : (j : ℕ) (d d' : Source) → Accepted r k (snapshot u d) → LastSnapshot r (suc k) u j d' → j ≡ k
  last_here j d d' a l = ⊎_elim (λ q. q) (λ q. let h = l.earlier in absurd (l.last k d (omega arith) (le_refl (suc k)) a)) (cases_eq j k)

  pub unsettled_on : (j : ℕ) → Unsettled r u j k → ((c : Amounts) → Accepted r k (settle u c) → ⊥) → Unsettled r u j (suc k)
  unsettled_on j h n i c a b x = ⊎_elim (λ q. n c (subst (λ (p : ℕ). Accepted r p (settle u c)) q x)) (λ q. h i c a (omega arith) x) (cases_eq i k)

  pub unsettled_back : (j : ℕ) → Unsettled r u j (suc k) → Unsettled r u j k
  unsettled_back j h i c a b x = h i c a (omega arith) x

  uncured_on : (j : ℕ) → Uncured r u j k → ((d : Source) → Accepted r k (cure u d) → ⊥) → Uncured r u j (suc k)
  uncured_on j h n i d a b x = ⊎_elim (λ q. n d (subst (λ (p : ℕ). Accepted r p (cure u d)) q x)) (λ q. h i d a (omega arith) x) (cases_eq i k)

  -- what is owed at place k is owed after a call that is none of the index's day, and the other way round
  pub owed_on : ((c : Call) → Accepted r k c → is_about u c ≡ false) → (j : ℕ) (d : Source) → Owed r k u j d → Owed r (suc k) u j d
  owed_on rests j d o = record {
    last = snapshot_on j d o.last (no_snapshot rests);
    regular = o.regular;
    uncured = uncured_on j o.uncured (no_cure rests);
    unsettled = unsettled_on j o.unsettled (no_settlement rests);
  }

  pub owed_back : ((d' : Source) → Accepted r k (snapshot u d') → ⊥) → (j : ℕ) (d : Source) → Owed r (suc k) u j d → Owed r k u j d
  owed_back n j d o = record {
    last = snapshot_back j d o.last n;
    regular = o.regular;
    uncured = λ i d' a b x. o.uncured i d' a (omega arith) x;
    unsettled = unsettled_back j o.unsettled;
  }

  -- just after a regular snapshot its cure is owed
  pub owed_here : (d : Source) → Accepted r k (snapshot u d) → round_at d.minute ≡ Some Regular → Owed r (suc k) u k d
  owed_here d a g = record {
    last = record { earlier = le_refl (suc k); accepted = a; last = λ i d' p q x. absurd (omega arith) };
    regular = g;
    uncured = λ i d' p q x. absurd (omega arith);
    unsettled = λ i c p q x. absurd (omega arith);
  }

  -- after a final snapshot, a cure or a settlement none is
  pub none_after_final : (d : Source) → Accepted r k (snapshot u d) → round_at d.minute ≡ Some Final → (j : ℕ) (d' : Source) → Owed r (suc k) u j d' → ⊥
  none_after_final d a g j d' o =
      let q = last_here j d d' a o.last in
      let s = one_snapshot d d' a (subst (λ (p : ℕ). Accepted r p (snapshot u d')) q o.last.accepted) in
      differ (sym g ∙ ap (λ (x : Source). round_at x.minute) s ∙ o.regular)

  pub none_after_cure : (d : Source) → Accepted r k (cure u d) → (j : ℕ) (d' : Source) → Owed r (suc k) u j d' → ⊥
  none_after_cure d a j d' o =
      let b = snapshot_back j d' o.last (λ d'' x. snapshot_or_cure d'' d x a) in
      o.uncured k d b.earlier (le_refl (suc k)) a

  pub none_after_settlement : (c : Amounts) → Accepted r k (settle u c) → (j : ℕ) (d' : Source) → Owed r (suc k) u j d' → ⊥
  none_after_settlement c a j d' o =
      let b = snapshot_back j d' o.last (λ d'' x. snapshot_or_settlement d'' c x a) in
      o.unsettled k c b.earlier (le_refl (suc k)) a

-- ---- a cure is owed exactly while a regular snapshot waits for it
abbrev IsOwed : Run → ℕ → ℕ → Type 0
IsOwed r k u = (j : ℕ) × (d : Source) × Owed r k u j d

abbrev says_owed : Run → ℕ → ℕ → Bool
says_owed r k u = owes_cure ((before r k).ledger.days u).due

none_owed : (b : Bool) (P : Type 0) → b ≡ false → (P → ⊥) → (b ≡ true) ↔ P
none_owed b P e n = (λ t. absurd (both_ways b e t), λ p. absurd (n p))

module _ (r : Run) (u k : ℕ) where
  abbrev Owes : ℕ → Type 0
  Owes i = (says_owed r i u ≡ true) ↔ IsOwed r i u

  after_day : (x : Day) → (after r k).ledger.days u ≡ x → says_owed r (suc k) u ≡ owes_cure x.due
  after_day x e = ap (λ (y : Day). owes_cure y.due) e

  after_snapshot : (d : Source) → Accepted r k (snapshot u d) → says_owed r (suc k) u ≡ owes_cure (owed_by (round_in (round_at d.minute))) → Owes (suc k)
  after_snapshot d a p = ⊎_elim regular final (which_round r k u d a)
    where
      regular : round_at d.minute ≡ Some Regular → Owes (suc k)
      regular g = (λ t. (k, d, owed_here r k u d a g), λ h. p ∙ ap (λ (x : Option Round). owes_cure (owed_by (round_in x))) g)

      final : round_at d.minute ≡ Some Final → Owes (suc k)
      final g = none_owed _ _ (p ∙ ap (λ (x : Option Round). owes_cure (owed_by (round_in x))) g) (λ h. none_after_final r k u d a g h.0 h.1 h.2)

  owed_next : Owes k → Event r k u → Owes (suc k)
  owed_next ih (snaps_at d a m p) = after_snapshot d a (after_day _ p)
  owed_next ih (cures_at d a m p) = none_owed _ _ (after_day _ p) (λ h. none_after_cure r k u d a h.0 h.1 h.2)
  owed_next ih (settles_at c a m p) = none_owed _ _ (after_day _ p) (λ h. none_after_settlement r k u c a h.0 h.1 h.2)
  owed_next ih (rests_at n m p) = (
    λ t. let o = ih.0 (sym (after_day _ p) ∙ t) in (o.0, o.1, owed_on r k u n o.0 o.1 o.2),
    λ h. after_day _ p ∙ ih.1 (h.0, h.1, owed_back r k u (no_snapshot r k u n) h.0 h.1 h.2),
  )

pub owed_is : (r : Run) (u k : ℕ) → (says_owed r k u ≡ true) ↔ IsOwed r k u
owed_is r u zero = none_owed _ _ refl (λ p. let h = p.2.last.earlier in absurd (omega arith))
owed_is r u (suc k) = owed_next r u k (owed_is r u k) (event r k u)

-- ---- minutes are small

-- the minute of the day's last snapshot or cure, 0 before the first
abbrev pub minute_in : Option ℕ → ℕ
minute_in None = 0
minute_in (Some minute) = minute

-- no minute is later than a cure of the last one at which a snapshot may be; while a cure is owed it is that of a snapshot
abbrev latest : ℕ
latest = last_minute + cure_minutes

round_minutes : (m : ℕ) → is_some (round_at m) ≡ true → (1 ≤ m) × (m ≤ last_minute)
round_minutes m e = grind (arith, nat_tests)

pub cure_minute : (last : Option ℕ) (m : ℕ) → is_cure_time last m ≡ true → m ≡ minute_in last + cure_minutes
cure_minute None m e = absurd (false≢true e)
cure_minute (Some l) m e = eqb-true m (l + cure_minutes) e

pub snapshot_minute : (last : Option ℕ) (m : ℕ) → is_later last m ≡ true → is_some (round_at m) ≡ true → minute_in last < m
snapshot_minute None m e h = (round_minutes m h).0
snapshot_minute (Some l) m e h = ltb-true l m e

abbrev pub Small : Day → Type 0
Small x = (minute_in x.last ≤ latest) × (owes_cure x.due ≡ true → minute_in x.last ≤ last_minute)

minutes_next : (r : Run) (u k : ℕ) → Small ((before r k).ledger.days u) → Event r k u → Small ((after r k).ledger.days u)
minutes_next r u k ih (snaps_at d a m p) = let t = round_minutes d.minute (at_snapshot r k u d a).1 in subst Small (sym p) (omega (arith, t.1), λ e. t.1)
minutes_next r u k ih (cures_at d a m p) =
    let t = at_cure_is r k u d a in
    let h = ih.1 t.0 in
    let e = cure_minute ((before r k).ledger.days u).last d.minute t.1 in
    subst Small (sym p) (omega (arith, h, e), λ e. absurd (false≢true e))
minutes_next r u k ih (settles_at c a m p) = subst Small (sym p) (omega arith, λ e. omega arith)
minutes_next r u k ih (rests_at n m p) = subst Small (sym p) ih

pub minutes : (r : Run) (u k : ℕ) → Small ((before r k).ledger.days u)
minutes r u zero = (omega arith, λ e. omega arith)
minutes r u (suc k) = minutes_next r u k (minutes r u k) (event r k u)
