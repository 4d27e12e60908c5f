-- Readings of quantities at weights: q e c is entity e's quantity of contract c, and w c what a unit of contract c weighs.
use Rattle.std.specs.Prelude.{ℕ, suc, ◌+◌, ◌*◌, ℤ, pos, negsuc, ◌*ℤ◌, unsigned_abs}
use Rattle.terms.specs.Bounds.{quantity_bound, most_contracts}
use Rattle.delta.specs.Sources.{delta_bound}
use Rattle.reading.specs.Sums.{sum_below, total_below}

-- a contract's part: quantity × weight
abbrev pub part : ℤ → ℤ → ℤ
part q w = q *ℤ w

-- the largest size of a part
abbrev pub part_bound : ℕ
part_bound = quantity_bound * delta_bound

-- the largest size of net, long and short
abbrev pub reading_bound : ℕ
reading_bound = most_contracts * part_bound

-- a number where it is positive, else 0
abbrev pub up : ℤ → ℕ
up (pos n) = n
up (negsuc n) = 0

-- the size of a number where it is negative, else 0
abbrev pub down : ℤ → ℕ
down (pos n) = 0
down (negsuc n) = suc n

-- the sum of an entity's parts
unfoldable pub net : (ℕ → ℤ) → (ℕ → ℕ → ℤ) → ℕ → ℤ
net w q e = total_below most_contracts (λ c. part (q e c) (w c))

-- the sum of the positive ones
unfoldable pub long : (ℕ → ℤ) → (ℕ → ℕ → ℤ) → ℕ → ℕ
long w q e = sum_below most_contracts (λ c. up (part (q e c) (w c)))

-- the sum of the sizes of the negative ones
unfoldable pub short : (ℕ → ℤ) → (ℕ → ℕ → ℤ) → ℕ → ℕ
short w q e = sum_below most_contracts (λ c. down (part (q e c) (w c)))

-- net, long and short together
abbrev pub reading_of : (ℕ → ℤ) → (ℕ → ℕ → ℤ) → ℕ → ℤ × ℤ × ℤ
reading_of w q e = (net w q e, pos (long w q e), pos (short w q e))

-- market open interest: the sum of the sizes of net over the first n entities
abbrev pub interest : ℕ → (ℕ → ℤ) → (ℕ → ℕ → ℤ) → ℕ
interest n w q = sum_below n (λ e. unsigned_abs (net w q e))

-- the sum of long plus short over the first n entities: notional open interest where the weights are notional
abbrev pub gross : ℕ → (ℕ → ℤ) → (ℕ → ℕ → ℤ) → ℕ
gross n w q = sum_below n (λ e. long w q e + short w q e)
