-- Who does not move in a ban is charged at none of its closes.
use Rattle.std.proofs.Common.{◌≡◌, ℕ, zero, suc, ◌<◌, ◌≤◌, Bool, true, false, cond, not, ◌&&◌, eqb, ltb, ◌⊎◌, length, ℤ, Some, None, Ok, Err, Option, sym, refl, ap, ◌∙◌, subst, inl, inr, ⊎_elim, le_refl, arith}
use Rattle.std.proofs.lemmas.Bool.{eqb-true, ne_eqb, cond-true, cond-false, cases_eq, cases_Bool, not-true, and_right, and_parts}
use Rattle.std.specs.List.{slice_get}
use Rattle.terms.specs.Bounds.{most_contracts}
use Rattle.delta.specs.Sources.{Source}
use Rattle.reading.specs.Sheets.{within, contract_at}
use Rattle.rules.specs.Violation.{violation}
use Rattle.rules.specs.Charge.{charge_of}
use Rattle.stock.specs.Close.{in_force, turn_of, obeys, violated_by}
use Rattle.terms.specs.Causes.{Verdict}
use Rattle.model.specs.Causes.{cause_in}
use Rattle.model.specs.Opening.{Listing, Terms}
use Rattle.model.specs.State.{State, Ledger, Stock}
use Rattle.model.specs.Readings.{weights, net_at}
use Rattle.model.specs.Stocks.{base_after}
use Rattle.model.specs.Calls.{Call, post, entry, confirm, snapshot, cure, settle, set_limit, close, verdict, number, done, decided, step}
use Rattle.model.specs.Runs.{Run, before, after, listing_of, next, refusal_of, book_at, old_base, new_base, Accepted, Banned, BanStart, CloseOf, charge_after}
use Rattle.model.specs.Handbook.{Unmoved, UnmovedIsFree}
use Rattle.model.proofs.Signs.{self_free}
use Rattle.model.proofs.Places.{terms_stay, after_accepted}
use Rattle.model.proofs.Ban.{ban_begins, ban_ends, net_same, closed_charge_is, closed_free, stock_after}

-- whether a ban is in force afterwards
forced : (ban begins ends : Bool) → in_force (turn_of ban begins ends) ≡ cond ban (not ends) begins
forced true begins true = refl
forced true begins false = refl
forced false true ends = refl
forced false false ends = refl

-- a contract is of one underlying only
other_stock : (l : Listing) (u v c : ℕ) → (v ≡ u → ⊥) → within l.contracts u c ≡ true → within l.contracts v c ≡ false
other_stock l u v c q w =
    and_right (ltb c most_contracts) (rest v)
    (and_right (ltb c (length l.contracts)) (eqb (contract_at l.contracts c).underlying v)
    (ne_eqb (contract_at l.contracts c).underlying v (λ p. q (sym p ∙ is_u))))
  where
    rest : ℕ → Bool
    rest x = ltb c (length l.contracts) && eqb (contract_at l.contracts c).underlying x

    is_u : (contract_at l.contracts c).underlying ≡ u
    is_u = eqb-true (contract_at l.contracts c).underlying u (and_parts (ltb c (length l.contracts)) (eqb (contract_at l.contracts c).underlying u) (and_parts (ltb c most_contracts) (ltb c (length l.contracts) && eqb (contract_at l.contracts c).underlying u) w).1).1

-- base changes in the contracts of u only at an accepted close of u
base_turns : (s : State) (u : ℕ) (v : Verdict) (n : ℤ) (c : Call) →
    ((two : Source) × (d : Source) × (c ≡ close u two d) × (cause_in (decided v n s (done s c)).0 ≡ None))
    ⊎ ((e k : ℕ) → within s.terms.listing.contracts u k ≡ true → (decided v n s (done s c)).1.ledger.base e k ≡ s.ledger.base e k)
base_turns s u (Err why) n c = inr (λ e k w. refl)
base_turns s u (Ok ok) n (post e c x) = inr (λ e k w. refl)
base_turns s u (Ok ok) n (entry k d) = inr (λ e k w. refl)
base_turns s u (Ok ok) n (confirm k) = inr (λ e k w. refl)
base_turns s u (Ok ok) n (snapshot v d) = inr (λ e k w. refl)
base_turns s u (Ok ok) n (cure v d) = inr (λ e k w. refl)
base_turns s u (Ok ok) n (settle v c) = inr (λ e k w. refl)
base_turns s u (Ok ok) n (set_limit v f ds) = inr (λ e k w. refl)
base_turns s u (Ok ok) n (close v two d) =
    ⊎_elim (λ (q : v ≡ u). inl (two, d, ap (λ (i : ℕ). close i two d) q, refl))
    (λ (q : v ≡ u → ⊥). inr (λ e k w.
    cond-false (ltb e s.terms.listing.entities && within s.terms.listing.contracts v k) _ _
    (and_right (ltb e s.terms.listing.entities) (within s.terms.listing.contracts v k) (other_stock s.terms.listing u v k q w))))
    (cases_eq v u)

module _ (r : Run) (u s e : ℕ) (is_in_range : ltb e (listing_of r).entities ≡ true) where
  abbrev Kept : ℕ → Type 0
  Kept i = (c : ℕ) → within r.opening.contracts u c ≡ true → old_base r i e c ≡ book_at r s e c

  ban_after : (i : ℕ) (two d : Source) → Accepted r i (close u two d) → ((after r i).ledger.stocks u).ban ≡ cond ((before r i).ledger.stocks u).ban (not (ban_ends (listing_of r) (before r i).ledger u d)) (ban_begins (listing_of r) (before r i).ledger u d)
  ban_after i two d a = ap (λ (x : Stock). x.ban) (stock_after r u i two d a) ∙ forced ((before r i).ledger.stocks u).ban (ban_begins (listing_of r) (before r i).ledger u d) (ban_ends (listing_of r) (before r i).ledger u d)

  base_after_is : (i : ℕ) (two d : Source) → Accepted r i (close u two d) → (c : ℕ) → new_base r i e c ≡ base_after (listing_of r) (before r i).ledger u two d e c
  base_after_is i two d a c = ap (λ (l : Ledger). l.base e c) (after_accepted r i (close u two d) a)

  -- the close that begins the ban takes the book
  at_start : BanStart r u s → Kept (suc s)
  at_start b c w = base_after_is s b.two b.closing b.accepted c ∙ taken
    where
      free : ((before r s).ledger.stocks u).ban ≡ false
      free = ⊎_elim (λ t. absurd (b.free t)) (λ f. f) (cases_Bool ((before r s).ledger.stocks u).ban)

      begun : ban_begins (listing_of r) (before r s).ledger u b.closing ≡ true
      begun = sym (cond-false ((before r s).ledger.stocks u).ban _ _ free) ∙ sym (ban_after s b.two b.closing b.accepted) ∙ b.begun

      taken : base_after (listing_of r) (before r s).ledger u b.two b.closing e c ≡ book_at r s e c
      taken = rw (is_in_range, w, free, begun) refl

  -- a later close keeps base or takes the book
  at_close_is : (i : ℕ) (two d : Source) → CloseOf r u s i two d → Banned r (suc i) u → ((c : ℕ) → within r.opening.contracts u c ≡ true → book_at r i e c ≡ book_at r s e c) → Kept i → Kept (suc i)
  at_close_is i two d h b m ih c w = base_after_is i two d h.accepted c ∙ go (obeys (weights (listing_of r) u two) (old_base r i) (book_at r i) e) refl
    where
      ban : Banned r i u
      ban = h.in_force i h.later (le_refl i)

      on : ban_ends (listing_of r) (before r i).ledger u d ≡ false
      on = not-true (ban_ends (listing_of r) (before r i).ledger u d) (sym (cond-true ((before r i).ledger.stocks u).ban _ _ ban) ∙ sym (ban_after i two d h.accepted) ∙ b)

      go : (z : Bool) → obeys (weights (listing_of r) u two) (old_base r i) (book_at r i) e ≡ z → base_after (listing_of r) (before r i).ledger u two d e c ≡ book_at r s e c
      go true q = rw (is_in_range, w, ban, on, q) (m c w)
      go false q = rw (is_in_range, w, ban, on, q) (ih c w)

  kept : (j : ℕ) → BanStart r u s → ((i : ℕ) → s < i → i ≤ j → Banned r i u) → ((i : ℕ) (two d : Source) → i < j → CloseOf r u s i two d → (c : ℕ) → within r.opening.contracts u c ≡ true → book_at r i e c ≡ book_at r s e c) → s < j → Kept j
  kept zero b f m l = absurd (omega arith)
  kept (suc i) b f m l = ⊎_elim first (later (kept i b (λ j p q. f j p (omega arith)) (λ j two d p h. m j two d (omega arith) h))) (cases_eq i s)
    where
      first : i ≡ s → Kept (suc i)
      first q = subst (λ (x : ℕ). Kept (suc x)) (sym q) (at_start b)

      later : (s < i → Kept i) → (i ≡ s → ⊥) → Kept (suc i)
      later ih q = place (slice_get r.calls i) refl
        where
          lt : s < i
          lt = omega arith

          x : State
          x = before r i

          place : (y : Option Call) → slice_get r.calls i ≡ y → Kept (suc i)
          place None n = λ c w. ap (λ (z : Option Call). (next (before r i) z).ledger.base e c) n ∙ ih lt c w
          place (Some y) n = ⊎_elim turn stay (base_turns (before r i) u (verdict (before r i).terms (before r i).ledger y) (number (before r i) y) y)
            where
              turn : ((two : Source) × (d : Source) × (y ≡ close u two d) × (cause_in (step (before r i) y).0 ≡ None)) → Kept (suc i)
              turn t = at_close_is i t.0 t.1 here (f (suc i) l (le_refl (suc i))) (m i t.0 t.1 (le_refl (suc i)) here) (ih lt)
                where
                  here : CloseOf r u s i t.0 t.1
                  here = record { start = b; later = lt; accepted = record { holds = n ∙ ap Some t.2; passed = ap (refusal_of (before r i)) n ∙ t.3 }; in_force = λ j p q. f j p (omega arith) }

              stay : ((e k : ℕ) → within (before r i).terms.listing.contracts u k ≡ true → (step (before r i) y).1.ledger.base e k ≡ (before r i).ledger.base e k) → Kept (suc i)
              stay g c w =
                  ap (λ (z : Option Call). (next (before r i) z).ledger.base e c) n
                  ∙ g e c (ap (λ (t : Terms). within t.listing.contracts u c) (terms_stay r i) ∙ w)
                  ∙ ih lt c w

unmoved_within : (r : Run) (u s k e : ℕ) → ltb e (listing_of r).entities ≡ true → Unmoved r u s k e → (j : ℕ) (two closing : Source) → j ≤ k → CloseOf r u s j two closing → charge_after r j u e ≡ 0
unmoved_within r u s k e is_in_range h j two d l c =
    ap (λ (x : Stock). x.charge e) (stock_after r u j two d c.accepted)
    ∙ closed_charge_is (listing_of r) (before r j).ledger u two d ban e is_in_range
    ∙ ap (λ (v : ℕ). charge_of v d.price) none
  where
    ban : Banned r j u
    ban = c.in_force j c.later (le_refl j)

    base_stays : Kept r u s e is_in_range j
    base_stays = kept r u s e is_in_range j c.start c.in_force (λ i two d p g. h i two d (omega arith) g) c.later

    alike : net_at (listing_of r) u two (old_base r j) e ≡ net_at (listing_of r) u two (book_at r j) e
    alike = net_same (listing_of r) u two (old_base r j) (book_at r j) e (λ i w. base_stays i w ∙ sym (h j two d l c i w))

    none : violated_by (weights (listing_of r) u two) (old_base r j) (book_at r j) e ≡ 0
    none = ap (λ (x : ℤ). violation x (net_at (listing_of r) u two (book_at r j) e)) alike ∙ self_free (net_at (listing_of r) u two (book_at r j) e)

pub unmoved_is_free : UnmovedIsFree
unmoved_is_free r u s k e h j two d l c = among (ltb e (listing_of r).entities) refl
  where
    among : (b : Bool) → ltb e (listing_of r).entities ≡ b → charge_after r j u e ≡ 0
    among false out =
        ap (λ (x : Stock). x.charge e) (stock_after r u j two d c.accepted)
        ∙ closed_free (listing_of r) (before r j).ledger u two d (c.in_force j c.later (le_refl j)) e out
    among true is_in_range = unmoved_within r u s k e is_in_range h j two d l c
