-- The stock's ban over runs.
use Rattle.std.proofs.Common.{◌≡◌, ℕ, ◌<◌, Bool, true, false, cond, eqb, ltb, ℤ, pos, ◌*ℤ◌, sym, refl, ap, ◌∙◌, subst, le_refl}
use mathlib.Core.Path.{fun_ext}
use lib.IntN.{zero-*ℤ, *ℤ-zero}
use Rattle.std.proofs.lemmas.Bool.{eq-eqb, cond-true, lt-ltb}
use Rattle.terms.specs.Bounds.{most_contracts}
use Rattle.delta.specs.Sources.{Source}
use Rattle.reading.specs.Sums.{total_below}
use Rattle.book.specs.Holding.{or_zero}
use Rattle.reading.specs.Sheets.{within, contract_at}
use Rattle.reading.specs.Readings.{net}
use Rattle.rules.specs.Ban.{begins, ends}
use Rattle.rules.specs.Violation.{violation}
use Rattle.rules.specs.Charge.{charge_of}
use Rattle.stock.specs.Close.{judges, obeys, violated_by}
use Rattle.model.specs.Opening.{Listing}
use Rattle.model.specs.State.{Quantities, Ledger, Stock, at}
use Rattle.model.specs.Readings.{weights, net_at, interest_at}
use Rattle.model.specs.Stocks.{limit_in, turn_at, base_after, closed_stock}
use Rattle.model.specs.Calls.{close}
use Rattle.model.specs.Runs.{Run, before, after, listing_of, book_at, old_base, Accepted, charge_after, Between}
use Rattle.model.specs.Handbook.{BaseShrinks, MarketShrinks}
use Rattle.model.proofs.Signs.{total_zero, sum_mono, between_self, between_zero, between_true, no_violation, between_size, free_of_charge}
use Rattle.model.proofs.Places.{after_accepted}

-- market interest is where a ban of the stock begins
abbrev pub ban_begins : Listing → Ledger → ℕ → Source → Bool
ban_begins l s u d = begins (limit_in (s.stocks u)) (interest_at l u d s.book.at)

-- market interest is where a ban of the stock ends
abbrev pub ban_ends : Listing → Ledger → ℕ → Source → Bool
ban_ends l s u d = ends (limit_in (s.stocks u)) (interest_at l u d s.book.at)

-- net reads only the contracts of its underlying
pub net_same : (l : Listing) (u : ℕ) (d : Source) (q q' : Quantities) (e : ℕ) → ((c : ℕ) → within l.contracts u c ≡ true → q e c ≡ q' e c) → net_at l u d q e ≡ net_at l u d q' e
unfolding net
net_same l u d q q' e h = ap (total_below most_contracts) (fun_ext (λ c. go c (within l.contracts u c) (h c)))
  where
    go : (c : ℕ) (b : Bool) → (b ≡ true → q e c ≡ q' e c) → q e c *ℤ cond b (or_zero (d.delta c (contract_at l.contracts c).kind)) (pos 0) ≡ q' e c *ℤ cond b (or_zero (d.delta c (contract_at l.contracts c).kind)) (pos 0)
    go c true f = ap (λ (z : ℤ). z *ℤ or_zero (d.delta c (contract_at l.contracts c).kind)) (f refl)
    go c false f = *ℤ-zero (q e c) ∙ sym (*ℤ-zero (q' e c))

pub net_zero : (l : Listing) (u : ℕ) (d : Source) (q : Quantities) (e : ℕ) → ((c : ℕ) → within l.contracts u c ≡ true → q e c ≡ pos 0) → net_at l u d q e ≡ pos 0
unfolding net
net_zero l u d q e h = total_zero most_contracts _ (λ c. go c (within l.contracts u c) (h c))
  where
    go : (c : ℕ) (b : Bool) → (b ≡ true → q e c ≡ pos 0) → q e c *ℤ cond b (or_zero (d.delta c (contract_at l.contracts c).kind)) (pos 0) ≡ pos 0
    go c true f = ap (λ (z : ℤ). z *ℤ or_zero (d.delta c (contract_at l.contracts c).kind)) (f refl) ∙ zero-*ℤ (or_zero (d.delta c (contract_at l.contracts c).kind))
    go c false f = *ℤ-zero (q e c)

module _ (t : Listing) (s : Ledger) (u : ℕ) (two d : Source) (ban : (s.stocks u).ban ≡ true) where
  base_ends : (e c : ℕ) → ltb e t.entities ≡ true → ban_ends t s u d ≡ true → within t.contracts u c ≡ true → base_after t s u two d e c ≡ pos 0
  base_ends e c l p w = rw (l, w, ban, p) refl

  base_holds : (e c : ℕ) (z : Bool) → ltb e t.entities ≡ true → ban_ends t s u d ≡ false → obeys (weights t u two) s.base s.book.at e ≡ z → within t.contracts u c ≡ true → base_after t s u two d e c ≡ cond z (s.book.at e c) (s.base e c)
  base_holds e c z l p q w = rw (l, w, ban, p, q) refl

  pub closed_between : (e : ℕ) → Between (net_at t u two s.base e) (net_at t u two (base_after t s u two d) e)
  closed_between e = among (ltb e t.entities) refl
    where
      X : ℤ
      X = net_at t u two s.base e

      go : (en z : Bool) → ltb e t.entities ≡ true → ban_ends t s u d ≡ en → obeys (weights t u two) s.base s.book.at e ≡ z → Between X (net_at t u two (base_after t s u two d) e)
      go true z l p q = subst (Between X) (sym (net_zero t u two (base_after t s u two d) e (λ c w. base_ends e c l p w))) (between_zero X)
      go false true l p q =
          subst (Between X) (sym (net_same t u two (base_after t s u two d) s.book.at e (λ c w. base_holds e c true l p q w)))
          (between_true X (net_at t u two s.book.at e) q)
      go false false l p q = subst (Between X) (sym (net_same t u two (base_after t s u two d) s.base e (λ c w. base_holds e c false l p q w))) (between_self X)

      among : (b : Bool) → ltb e t.entities ≡ b → Between X (net_at t u two (base_after t s u two d) e)
      among true l = go (ban_ends t s u d) (obeys (weights t u two) s.base s.book.at e) l refl refl
      among false l = subst (Between X) (sym (net_same t u two (base_after t s u two d) s.base e (λ c w. rw l refl))) (between_self X)

  -- in a ban everybody is judged
  judged : judges (turn_at t s u d) ≡ true
  judged = go (ban_ends t s u d) refl
    where
      go : (b : Bool) → ban_ends t s u d ≡ b → judges (turn_at t s u d) ≡ true
      go true p = rw (ban, p) refl
      go false p = rw (ban, p) refl

  pub closed_charge_is : (e : ℕ) → ltb e t.entities ≡ true → (closed_stock t s u two d).charge e ≡ charge_of (violated_by (weights t u two) s.base s.book.at e) d.price
  closed_charge_is e l = rw (l, judged) refl

  pub closed_free : (e : ℕ) → ltb e t.entities ≡ false → (closed_stock t s u two d).charge e ≡ 0
  closed_free e l = rw l refl

pub at_same : {A : Type 0} (k : ℕ) (a : A) (f : ℕ → A) → at k a f k ≡ a
at_same k a f = cond-true (eqb k k) a (f k) (eq-eqb k k refl)

-- what stands of the stock after an accepted close
pub stock_after : (r : Run) (u k : ℕ) (two d : Source) → Accepted r k (close u two d) → (after r k).ledger.stocks u ≡ closed_stock (listing_of r) (before r k).ledger u two d
stock_after r u k two d a =
    ap (λ (l : Ledger). l.stocks u) (after_accepted r k (close u two d) a)
    ∙ at_same u (closed_stock (listing_of r) (before r k).ledger u two d) (before r k).ledger.stocks

pub base_shrinks : BaseShrinks
base_shrinks r u s k two d c e =
    subst (λ (q : Quantities). Between (net_at (listing_of r) u two (old_base r k) e) (net_at (listing_of r) u two q e))
    (sym (ap (λ (l : Ledger). l.base) (after_accepted r k (close u two d) c.accepted)))
    (closed_between (listing_of r) (before r k).ledger u two d (c.in_force k c.later (le_refl k)) e)

pub market_shrinks : MarketShrinks
market_shrinks r u s k two d c free =
    sum_mono r.opening.book.entities _ _
    (λ e l. between_size (x e) (y e) (no_violation (x e) (y e) (free_of_charge (violation (x e) (y e)) d.price (sym (is e l) ∙ free e l))))
  where
    x : ℕ → ℤ
    x e = net_at (listing_of r) u two (old_base r k) e

    y : ℕ → ℤ
    y e = net_at (listing_of r) u two (book_at r k) e

    is : (e : ℕ) → e < r.opening.book.entities → charge_after r k u e ≡ charge_of (violated_by (weights (listing_of r) u two) (old_base r k) (book_at r k) e) d.price
    is e l =
        ap (λ (x : Stock). x.charge e) (stock_after r u k two d c.accepted)
        ∙ closed_charge_is (listing_of r) (before r k).ledger u two d (c.in_force k c.later (le_refl k)) e (lt-ltb e r.opening.book.entities l)
