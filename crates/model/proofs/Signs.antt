-- Sums over the numbers below n, and signed numbers between others.
use Rattle.std.proofs.Common.{◌≡◌, ℕ, zero, suc, ◌<◌, ◌≤◌, Bool, true, false, cond, ◌&&◌, eqb, ℤ, pos, ◌+ℤ◌, ◌-ℤ◌, nat_abs, sym, refl, ◌∙◌, ap₂, inl, inr, ⊎_elim, arith}
use lib.Signed.{le_z}
use Rattle.std.proofs.lemmas.Int.{ints, by_lt_z}
use Rattle.std.proofs.lemmas.Bool.{or_cases, and_parts, or_left, or_right, and_from, cond-true, cond-false, cases_Bool, eqb-true}
use Rattle.reading.specs.Sums.{sum_below, total_below}
use Rattle.rules.specs.Violation.{between, opposite, violation}
use Rattle.rules.specs.Charge.{charge_of}
use Rattle.model.specs.Runs.{Between}

pub sum_mono : (n : ℕ) (f g : ℕ → ℕ) → ((i : ℕ) → i < n → f i ≤ g i) → sum_below n f ≤ sum_below n g
sum_mono zero f g h = omega arith
sum_mono (suc n) f g h = omega (arith, sum_mono n f g (λ i l. h i (omega arith)), h n (omega arith))

pub total_zero : (n : ℕ) (f : ℕ → ℤ) → ((i : ℕ) → f i ≡ pos 0) → total_below n f ≡ pos 0
total_zero zero f h = refl
total_zero (suc n) f h = ap₂ ◌+ℤ◌ (total_zero n f h) (h n)

pub between_self : (x : ℤ) → Between x x
between_self x = by_lt_z x (pos 0) (λ l. inr (omega (arith, ints), omega (arith, ints))) (λ l. inl (omega (arith, ints), omega (arith, ints)))

pub between_zero : (x : ℤ) → Between x (pos 0)
between_zero x = by_lt_z x (pos 0) (λ l. inr (omega (arith, ints), omega (arith, ints))) (λ l. inl (omega (arith, ints), omega (arith, ints)))

pub between_true : (x y : ℤ) → between x y ≡ true → Between x y
between_true x y h = ⊎_elim left right (or_cases (le_z (pos 0) y && le_z y x) (le_z x y && le_z y (pos 0)) h)
  where
    left : (le_z (pos 0) y && le_z y x) ≡ true → Between x y
    left t = let p = and_parts (le_z (pos 0) y) (le_z y x) t in inl (omega (arith, ints), omega (arith, ints))

    right : (le_z x y && le_z y (pos 0)) ≡ true → Between x y
    right t = let p = and_parts (le_z x y) (le_z y (pos 0)) t in inr (omega (arith, ints), omega (arith, ints))

pub no_violation : (x y : ℤ) → violation x y ≡ 0 → Between x y
no_violation x y h = go (between x y) (opposite x y) refl h
  where
    go : (b o : Bool) → between x y ≡ b → cond b 0 (cond o (nat_abs y) (nat_abs (y -ℤ x))) ≡ 0 → Between x y
    go true o t z = between_true x y t
    go false true t z = by_lt_z x (pos 0) (λ l. inr (omega (arith, ints), omega (arith, ints))) (λ l. inl (omega (arith, ints), omega (arith, ints)))
    go false false t z = by_lt_z x (pos 0) (λ l. inr (omega (arith, ints), omega (arith, ints))) (λ l. inl (omega (arith, ints), omega (arith, ints)))

pub between_same : (x : ℤ) → between x x ≡ true
between_same x =
    by_lt_z x (pos 0)
    (λ l. or_right (le_z (pos 0) x && le_z x x) (le_z x x && le_z x (pos 0)) (and_from (le_z x x) (le_z x (pos 0)) (grind (arith, ints)) (grind (arith, ints))))
    (λ l. or_left (le_z (pos 0) x && le_z x x) (le_z x x && le_z x (pos 0)) (and_from (le_z (pos 0) x) (le_z x x) (grind (arith, ints)) (grind (arith, ints))))

pub self_free : (x : ℤ) → violation x x ≡ 0
self_free x = cond-true (between x x) 0 _ (between_same x)

pub between_size : (x y : ℤ) → Between x y → nat_abs y ≤ nat_abs x
between_size x y (inl h) = omega (arith, ints, h.0, h.1)
between_size x y (inr h) = omega (arith, ints, h.0, h.1)

-- whoever is charged nothing violates nothing
pub free_of_charge : (v p : ℕ) → charge_of v p ≡ 0 → v ≡ 0
free_of_charge v p h = ⊎_elim (λ t. eqb-true v 0 t) (λ f. let z = sym (cond-false (eqb v 0) 0 _ f) ∙ h in absurd (omega arith)) (cases_Bool (eqb v 0))
