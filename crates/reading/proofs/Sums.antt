-- Sums over the numbers below n: one number more, and how large they are.
use Rattle.std.proofs.Common.{◌≡◌, ℕ, zero, suc, ◌+◌, ◌*◌, ◌≤◌, map, sum, ℤ, pos, negsuc, ◌+ℤ◌, ◌-ℤ◌, nat_abs, refl, ap, ap₂, ◌∙◌, add-one, arith}
use mathlib.Core.Path.{fun_ext}
use Rattle.std.specs.List.{range_with_len}
use Rattle.std.proofs.lemmas.List.Sums.{sum_by-cons}
use Rattle.std.proofs.lemmas.Int.{ints}
use Rattle.reading.specs.Sums.{sum_below, total_below}
use Rattle.terms.specs.Bounds.{most_contracts}
use Rattle.reading.specs.Readings.{part, up, down, net, long, short}

pub sum_more : (f : ℕ → ℕ) (n : ℕ) → sum_below (n + 1) f ≡ sum_below n f + f n
sum_more f n = rw add-one refl

-- the first number more, in place of the last
sum_first : (f : ℕ → ℕ) (n : ℕ) → sum_below (suc n) f ≡ f 0 + sum_below n (λ i. f (suc i))
sum_first f zero = omega arith
sum_first f (suc n) = let h = sum_first f n in omega arith

-- the sum of the answers at the numbers from a on
sum_from : (f : ℕ → ℕ) (a n : ℕ) → sum (map f (range_with_len a n)) ≡ sum_below n (λ i. f (a + i))
sum_from f a zero = refl
sum_from f a (suc n) =
    let h : sum_below (suc n) (λ i. f (a + i)) ≡ f a + sum_below n (λ i. f (a + 1 + i)) =
    sum_first (λ i. f (a + i)) n ∙ ap₂ (λ x y. x + y) (ap f (omega arith)) (ap (sum_below n) (fun_ext (λ i. ap f (omega arith)))) in
    let k : sum (map f (range_with_len a (suc n))) ≡ f a + sum (map f (range_with_len (a + 1) n)) = sum_by-cons (λ x. x) (f a) (map f (range_with_len (a + 1) n)) in
    omega (arith, h, k, sum_from f (a + 1) n)

pub sum_listed : (f : ℕ → ℕ) (n : ℕ) → sum (map f (range_with_len 0 n)) ≡ sum_below n f
sum_listed f n = sum_from f 0 n ∙ ap (sum_below n) (fun_ext (λ i. ap f (omega arith)))

-- a sum of n numbers, none above b
pub sum_small : (f : ℕ → ℕ) (b : ℕ) → ((i : ℕ) → f i ≤ b) → (n : ℕ) → sum_below n f ≤ n * b
sum_small f b h zero = omega arith
sum_small f b h (suc n) = omega (arith, sum_small f b h n, h n)

pub total_more : (f : ℕ → ℤ) (n : ℕ) → total_below (n + 1) f ≡ total_below n f +ℤ f n
total_more f n = rw add-one refl

-- a sum of n integers, none larger in size than b
pub total_small : (f : ℕ → ℤ) (b : ℕ) → ((i : ℕ) → nat_abs (f i) ≤ b) → (n : ℕ) → nat_abs (total_below n f) ≤ n * b
total_small f b h zero = omega arith
total_small f b h (suc n) = omega (arith, ints, total_small f b h n, h n)

-- an integer by its two sides
pub sides : (z : ℤ) → z ≡ pos (up z) -ℤ pos (down z)
sides (pos n) = omega (arith, ints)
sides (negsuc n) = omega (arith, ints)

-- a sum of integers is the sum of the positive ones less the sum of the sizes of the negative ones
pub balance : (f : ℕ → ℤ) (n : ℕ) → total_below n f ≡ pos (sum_below n (λ i. up (f i))) -ℤ pos (sum_below n (λ i. down (f i)))
balance f zero = refl
balance f (suc n) = omega (arith, ints, balance f n, sides (f n))

-- net is long less short
pub net_is : (w : ℕ → ℤ) (q : ℕ → ℕ → ℤ) (e : ℕ) → net w q e ≡ pos (long w q e) -ℤ pos (short w q e)
unfolding net long short
net_is w q e = balance (λ c. part (q e c) (w c)) most_contracts
