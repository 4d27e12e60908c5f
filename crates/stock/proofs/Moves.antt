-- One entity more, and one contract more: the step of each loop, over any quantities.
use Rattle.std.proofs.Common.{◌≡◌, ℕ, ◌+◌, ◌<◌, ◌≤◌, Bool, true, false, cond, not, ◌&&◌, eqb, ltb, List, length, get_or, set, replicate, ℤ, is_some, Some, None, Option, sym, refl, ap, ◌∙◌, ap₂, arith}
use mathlib.Core.Path.{fun_ext}
use mir.Val.{bool_byte}
use Rattle.std.proofs.lemmas.List.{get_or-set_same, get_or-set_other}
use Rattle.std.proofs.lemmas.Bool.{cond_both}
use Rattle.std.proofs.lemmas.Bool.Decides.{nat_tests}
use Rattle.terms.specs.Bounds.{most_contracts}
use Rattle.book.specs.Holding.{put}
use Rattle.reading.specs.Sums.{total_below, count_below}
use Rattle.reading.specs.Readings.{part, net}
use Rattle.reading.proofs.Sums.{sum_more, sum_small}
use Rattle.rules.specs.Charge.{charge_of}
use Rattle.rules.specs.Violation.{between, violation}
use Rattle.stock.specs.declared.violation.Violation.{Violation}
use Rattle.stock.specs.declared.turn.Turn.{Turn}
use Rattle.stock.specs.Close.{judges, obeys, new_pair, closed_base, closed_violated, closed_charge, quantity_or_zero, charge_or_zero}
use Rattle.stock.specs.Steps.{with_row, found}
use Rattle.stock.proofs.Cells.{alike}

-- ---- the contracts of one entity
module _ (s : ℕ → Bool) (e : ℕ) (row : ℕ → ℤ) (old : ℕ → ℕ → ℤ) where
  abbrev pub upto : ℕ → ℕ → ℕ → ℤ
  upto i = with_row (λ c. ltb c i && s c) e row old

  -- none of them yet
  none_at : (f k : ℕ) → old f k ≡ upto 0 f k
  none_at f k = grind (arith, nat_tests)

  pub none : old ≡ upto 0
  none = fun_ext (λ f. fun_ext (none_at f))

  -- one more
  one_at : (i : ℕ) → s i ≡ true → (f k : ℕ) → put (upto i) e i (row i) f k ≡ upto (i + 1) f k
  one_at i t f k = grind (arith, nat_tests)

  pub one : (i : ℕ) (q r : ℕ → ℕ → ℤ) (b : Bool) → q ≡ upto i → b ≡ s i → b ≡ true → r ≡ put q e i (row i) → r ≡ upto (i + 1)
  one i q r b h k t g =
      g
      ∙ (ap (λ (q : ℕ → ℕ → ℤ). put q e i (row i)) h ∙ fun_ext (λ f. fun_ext (one_at i (sym k ∙ t) f)))

  -- one that is not the stock's
  skip_at : (i : ℕ) → s i ≡ false → (f k : ℕ) → upto i f k ≡ upto (i + 1) f k
  skip_at i t f k = grind (arith, nat_tests)

  pub skip : (i : ℕ) (q : ℕ → ℕ → ℤ) (b : Bool) → q ≡ upto i → b ≡ s i → b ≡ false → q ≡ upto (i + 1)
  skip i q b h k t = h ∙ fun_ext (λ f. fun_ext (skip_at i (sym k ∙ t) f))

  -- all of them, where those of the stock are below i
  ended_at : (i : ℕ) → ((k : ℕ) → s k ≡ true → k < i) → (f k : ℕ) → upto i f k ≡ with_row s e row old f k
  ended_at i h f k = let l = h k in grind (arith, nat_tests)

  pub ended : (i : ℕ) (q : ℕ → ℕ → ℤ) → q ≡ upto i → ((k : ℕ) → s k ≡ true → k < i) → q ≡ with_row s e row old
  ended i q g h = g ∙ fun_ext (λ f. fun_ext (ended_at i h f))

-- ---- one entity judged
pub obeyed : (t : Turn) (x y : ℤ) (price : ℕ) → between x y ≡ true → None ≡ found t x y price
obeyed t x y price h = grind arith

pub violating : (t : Turn) (x y : ℤ) (price v k : ℕ) → judges t ≡ true → between x y ≡ false → v ≡ violation x y → k ≡ charge_of v price → Some (record { quantity = v; charge = k }) ≡ found t x y price
violating t x y price v k j h e f = grind arith

-- ---- the entities of a stock
-- a row of what each of the first i entities violates and is charged
module _ (v : ℕ → Option Violation) where
  abbrev pub below : ℕ → ℕ → Option Violation
  below i e = cond (ltb e i) (v e) None

  no_row_at : (e : ℕ) → None ≡ below 0 e
  no_row_at e = grind (arith, nat_tests)

  pub no_row : (n : ℕ) → (λ e. get_or (replicate n None) e None) ≡ below 0
  no_row n = fun_ext (λ e. alike None n e ∙ no_row_at e)

  row_at : (l : List (Option Violation)) (i : ℕ) (x : Option Violation) → i < length l → x ≡ v i → (e : ℕ) → get_or l e None ≡ below i e → get_or (set l i x) e None ≡ below (i + 1) e
  row_at l i x h g e r = grind (arith, nat_tests, get_or-set_same, get_or-set_other)

  pub row_more : (l : List (Option Violation)) (i : ℕ) (x : Option Violation) → i < length l → x ≡ v i → (λ e. get_or l e None) ≡ below i → (λ e. get_or (set l i x) e None) ≡ below (i + 1)
  row_more l i x h g r = fun_ext (λ e. row_at l i x h g e (ap (λ (f : ℕ → Option Violation). f e) r))

-- what is read of a row: zero where nobody is judged
quantity_at : (a j b : Bool) (m price : ℕ) → quantity_or_zero (cond a (cond (j && not b) (Some (record { quantity = cond b 0 m; charge = charge_of (cond b 0 m) price })) None) None) ≡ cond (a && j) (cond b 0 m) 0
quantity_at a j b m price = grind arith

charge_at : (a j b : Bool) (m price : ℕ) → charge_or_zero (cond a (cond (j && not b) (Some (record { quantity = cond b 0 m; charge = charge_of (cond b 0 m) price })) None) None) ≡ cond (a && j) (charge_of (cond b 0 m) price) 0
charge_at a j b m price = grind arith

-- whether a violation was found
is_found : (c : Bool) (v : Violation) → is_some (cond c (Some v) None) ≡ c
is_found c v = grind arith

module _ (t : Turn) (w : ℕ → ℤ) (old book : ℕ → ℕ → ℤ) (price : ℕ) where
  abbrev pub each : ℕ → Option Violation
  each e = found t (net w old e) (net w book e) price

  pub quantities : (n : ℕ) → (λ e. quantity_or_zero (below each n e)) ≡ closed_violated n t w old book
  quantities n = fun_ext (λ e. quantity_at (ltb e n) (judges t) (between (net w old e) (net w book e)) _ price)

  pub charges : (n : ℕ) → (λ e. charge_or_zero (below each n e)) ≡ closed_charge n t w old book price
  charges n = fun_ext (λ e. charge_at (ltb e n) (judges t) (between (net w old e) (net w book e)) _ price)

  pub charged : (e : ℕ) → is_some (each e) ≡ (judges t && not (obeys w old book e))
  charged e = is_found _ _

-- where nobody is judged, it makes no difference whether an entity obeys
settled : (t : Turn) (ok : Bool) (x y : ℤ) → new_pair t (not (judges t && not ok)) x y ≡ new_pair t ok x y
settled t ok x y = grind arith

-- entity i more has what r says
more_at : (s : ℕ → Bool) (i : ℕ) (r old : ℕ → ℕ → ℤ) (e c : ℕ) → cond (eqb e i && s c) (r i c) (cond (ltb e i && s c) (r e c) (old e c)) ≡ cond (ltb e (i + 1) && s c) (r e c) (old e c)
more_at s i r old e c = grind (arith, nat_tests)

module _ (s : ℕ → Bool) (t : Turn) (w : ℕ → ℤ) (old book : ℕ → ℕ → ℤ) where
  abbrev pub closed : ℕ → ℕ → ℕ → ℤ
  closed i = closed_base i s t w old book

  no_base_at : (e c : ℕ) → old e c ≡ closed 0 e c
  no_base_at e c = grind (arith, nat_tests)

  pub no_base : old ≡ closed 0
  no_base = fun_ext (λ e. fun_ext (no_base_at e))

  -- an entity that is not reached yet is as it was
  unreached_at : (i c : ℕ) → closed i i c ≡ old i c
  unreached_at i c = grind (arith, nat_tests)

  module _ (i : ℕ) (q : ℕ → ℕ → ℤ) (h : q ≡ closed i) where
    unreached : q i ≡ old i
    unreached = ap (λ (q : ℕ → ℕ → ℤ). q i) h ∙ fun_ext (unreached_at i)

    net_same : net w q i ≡ net w old i
    unfolding net
    net_same = ap (λ (row : ℕ → ℤ). total_below most_contracts (λ c. part (row c) (w c))) unreached

    -- so it is judged by the base at the start
    pub found_same : (price : ℕ) → found t (net w q i) (net w book i) price ≡ found t (net w old i) (net w book i) price
    found_same price = ap (λ n. found t n (net w book i) price) net_same

    -- and its base becomes what the close of one entity more makes of it
    pub base_more : (b : Bool) (r : ℕ → ℕ → ℤ) → b ≡ (judges t && not (obeys w old book i)) → r ≡ with_row s i (λ c. new_pair t (not b) (book i c) (q i c)) q → r ≡ closed (i + 1)
    base_more b r g k =
        k
        ∙ (ap₂ (λ (b : Bool) (q : ℕ → ℕ → ℤ). with_row s i (λ c. new_pair t (not b) (book i c) (q i c)) q) g h
        ∙ fun_ext (λ e. fun_ext (λ c.
        ap (λ x. cond (eqb e i && s c) x (closed i e c))
        (ap (new_pair t _ (book i c)) (unreached_at i c) ∙ settled t (obeys w old book i) (book i c) (old i c))
        ∙ more_at s i (λ e c. new_pair t (obeys w old book e) (book e c) (old e c)) old e c)))

-- ---- how many are charged
pub charged_more : (p : ℕ → Bool) (i n m : ℕ) → n ≡ count_below i p → m ≡ bool_byte (p i) → n + m ≡ count_below (i + 1) p
charged_more p i n m g h = rw (sum_more (λ k. cond (p k) 1 0) i) (ap₂ (λ a b. a + b) g (h ∙ byte (p i)))
  where
    byte : (b : Bool) → bool_byte b ≡ cond b 1 0
    byte true = refl
    byte false = refl

pub charged_few : (p : ℕ → Bool) (n : ℕ) → count_below n p ≤ n
charged_few p n =
    omega (arith, sum_small (λ k. cond (p k) 1 0) 1 (λ k. cond_both (p k) 1 0 (λ m. m ≤ 1) (λ _. omega arith) (λ _. omega arith)) n)

pub byte_le : (b : Bool) → bool_byte b ≤ 1
byte_le b = grind arith
