-- How large a part and a reading can be.
use Rattle.std.proofs.Common.{◌≡◌, ℕ, ◌*◌, ◌≤◌, ℤ, pos, negsuc, ◌-ℤ◌, nat_abs, arith}
use Rattle.std.proofs.lemmas.Nat.{mul-le}
use Rattle.std.proofs.lemmas.Int.{ints, unsigned_abs-mul}
use Rattle.terms.specs.Bounds.{quantity_bound, most_contracts}
use Rattle.delta.specs.Sources.{delta_bound}
use Rattle.reading.specs.Sums.{sum_below}
use Rattle.reading.specs.Readings.{part, part_bound, reading_bound, up, down, net, long, short}
use Rattle.reading.proofs.Sums.{sum_small, net_is}

pub part_small : (q w : ℤ) → nat_abs q ≤ quantity_bound → nat_abs w ≤ delta_bound → nat_abs (part q w) ≤ part_bound
part_small q w h k = rw (unsigned_abs-mul q w) (mul-le (nat_abs q) (nat_abs w) quantity_bound delta_bound h k)

pub up_small : (z : ℤ) → up z ≤ nat_abs z
up_small (pos n) = omega arith
up_small (negsuc n) = omega arith

pub down_small : (z : ℤ) → down z ≤ nat_abs z
down_small (pos n) = omega arith
down_small (negsuc n) = omega arith

difference_small : (z : ℤ) (a b n : ℕ) → z ≡ pos a -ℤ pos b → a ≤ n → b ≤ n → nat_abs z ≤ n
difference_small z a b n e h k = omega (arith, ints)

-- ---- sums of parts, at weights and quantities that are small enough
module _ (w : ℕ → ℤ) (q : ℕ → ℕ → ℤ) (light : (c : ℕ) → nat_abs (w c) ≤ delta_bound) (few : (e c : ℕ) → nat_abs (q e c) ≤ quantity_bound) where
  pub here_small : (e c : ℕ) → nat_abs (part (q e c) (w c)) ≤ part_bound
  here_small e c = part_small (q e c) (w c) (few e c) (light c)

  pub ups_small : (e n : ℕ) → sum_below n (λ c. up (part (q e c) (w c))) ≤ n * part_bound
  ups_small e =
      sum_small (λ c. up (part (q e c) (w c))) part_bound
      (λ c. omega (arith, up_small (part (q e c) (w c)), here_small e c))

  pub downs_small : (e n : ℕ) → sum_below n (λ c. down (part (q e c) (w c))) ≤ n * part_bound
  downs_small e =
      sum_small (λ c. down (part (q e c) (w c))) part_bound
      (λ c. omega (arith, down_small (part (q e c) (w c)), here_small e c))

  pub long_small : (e : ℕ) → long w q e ≤ reading_bound
  unfolding long
  long_small e = ups_small e most_contracts

  pub short_small : (e : ℕ) → short w q e ≤ reading_bound
  unfolding short
  short_small e = downs_small e most_contracts

  pub net_small : (e : ℕ) → nat_abs (net w q e) ≤ reading_bound
  net_small e = difference_small (net w q e) (long w q e) (short w q e) reading_bound (net_is w q e) (long_small e) (short_small e)
