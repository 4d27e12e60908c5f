-- A turn of the loops that add up.
use Rattle.std.proofs.Common.{◌≡◌, ℕ, ◌+◌, ◌*◌, ◌^◌, ◌<◌, ◌≤◌, sum, map, ℤ, pos, negsuc, ◌+ℤ◌, ◌-ℤ◌, nat_abs, ap, ◌∙◌, arith, w64, SFits, to_z, of_z}
use Rattle.std.specs.List.{range_with_len}
use Rattle.std.specs.Int.{int_max}
use Rattle.std.proofs.lemmas.Int.{ints, int_max_is}
use Rattle.terms.specs.Bounds.{most_contracts}
use Rattle.book.specs.Holding.{Holding, Sound}
use Rattle.reading.specs.declared.sheet.Sheet.{Sheet}
use Rattle.reading.specs.Sums.{sum_below, total_below}
use Rattle.reading.specs.Readings.{part, part_bound, reading_bound, up, net, long, short}
use Rattle.reading.specs.Views.{weights_of}
use Rattle.reading.proofs.Sums.{sum_listed, sum_more, sum_small, total_more, total_small, net_is}
use Rattle.reading.proofs.Sizes.{here_small, up_small, long_small, short_small, net_small}

-- a sum after a turn: it fits, and is what the numbers come to together
pub record Grown (z t : ℤ) : Type 0 where
  pub fits : SFits w64 z
  pub is : to_z w64 (of_z w64 z) ≡ t

-- what any number of entities come to together
pub tallied : (f : ℕ → ℕ) → ((k : ℕ) → f k ≤ 2 * reading_bound) → (n : ℕ) → n < 2 ^ 64 → sum (map f (range_with_len 0 n)) < 2 ^ 128
tallied f h n l = omega (arith, sum_listed f n, sum_small f (2 * reading_bound) h n)

-- the larger of a part and 0
rise : (z : ℤ) → int_max z (pos 0) ≡ pos (up z)
rise (pos n) = omega (arith, ints, int_max_is (pos n) (pos 0))
rise (negsuc n) = omega (arith, ints, int_max_is (negsuc n) (pos 0))

-- ---- the parts of an entity
module _ (b : Holding) (s : Sheet) (sound : Sound b) (e : ℕ) where
  abbrev pub at : ℕ → ℤ
  at c = part (b.at e c) (weights_of s c)

  part_at_small : (c : ℕ) → nat_abs (at c) ≤ part_bound
  part_at_small = here_small (weights_of s) b.at s.bounded sound.bounded e

  -- a part is the same after it was stored
  stored : (c : ℕ) (p : ℤ) → p ≡ at c → to_z w64 (of_z w64 p) ≡ at c
  stored c p h = let k = part_at_small c in omega (arith, ints)

  -- ---- a turn: a part is added, or a contract that weighs nothing is passed over
  pub net_turn : (c : ℕ) → c < most_contracts → (a p : ℤ) → a ≡ total_below c at → p ≡ at c → Grown (a +ℤ to_z w64 (of_z w64 p)) (total_below (c + 1) at)
  net_turn c l a p h i =
      let n : nat_abs (total_below c at) ≤ 31 * part_bound = omega (arith, total_small at part_bound part_at_small c) in
      let k = part_at_small c in
      let z = stored c p i in
      let m = total_more at c in
      record { fits = omega (arith, ints); is = omega (arith, ints) }

  pub up_turn : (c : ℕ) → c < most_contracts → (a p r : ℤ) → a ≡ pos (sum_below c (λ k. up (at k))) → p ≡ at c → r ≡ int_max (to_z w64 (of_z w64 p)) (pos 0) → Grown (a +ℤ to_z w64 (of_z w64 r)) (pos (sum_below (c + 1) (λ k. up (at k))))
  up_turn c l a p r h i j =
      let n : sum_below c (λ k. up (at k)) ≤ 31 * part_bound = omega (arith, sum_small (λ k. up (at k)) part_bound (λ k. omega (arith, up_small (at k), part_at_small k)) c) in
      let k : up (at c) ≤ part_bound = omega (arith, up_small (at c), part_at_small c) in
      let z : r ≡ pos (up (at c)) = j ∙ ap (λ z. int_max z (pos 0)) (stored c p i) ∙ rise (at c) in
      let m = sum_more (λ k. up (at k)) c in
      record { fits = omega (arith, ints); is = omega (arith, ints) }

  pub net_same : (c : ℕ) (a : ℤ) → a ≡ total_below c at → pos 0 ≡ at c → a ≡ total_below (c + 1) at
  net_same c a h i = let m = total_more at c in omega (arith, ints)

  pub long_same : (c : ℕ) (a : ℤ) → a ≡ pos (sum_below c (λ k. up (at k))) → pos 0 ≡ at c → a ≡ pos (sum_below (c + 1) (λ k. up (at k)))
  long_same c a h i =
      let u : 0 ≡ up (at c) = ap up i in
      let m = sum_more (λ k. up (at k)) c in
      omega (arith, ints)

  -- ---- where the loop ends
  pub nets_end : (c : ℕ) → c ≡ most_contracts → (a : ℤ) → a ≡ total_below c at → a ≡ net (weights_of s) b.at e
  unfolding net
  nets_end c l a h = h ∙ ap (λ n. total_below n at) l

  pub longs_end : (c : ℕ) → c ≡ most_contracts → (a : ℤ) → a ≡ pos (sum_below c (λ k. up (at k))) → a ≡ pos (long (weights_of s) b.at e)
  unfolding long
  longs_end c l a h = h ∙ ap (λ n. pos (sum_below n (λ k. up (at k)))) l

  -- short is what long is above net
  pub shorts_end : (x y : ℤ) → x ≡ net (weights_of s) b.at e → y ≡ pos (long (weights_of s) b.at e) → Grown (y -ℤ x) (pos (short (weights_of s) b.at e))
  shorts_end x y h k =
      let l = long_small (weights_of s) b.at s.bounded sound.bounded e in
      let m = short_small (weights_of s) b.at s.bounded sound.bounded e in
      let n = net_is (weights_of s) b.at e in
      record { fits = omega (arith, ints); is = omega (arith, ints) }

  -- ---- the sizes of its readings
  pub net_at_small : nat_abs (net (weights_of s) b.at e) ≤ reading_bound
  net_at_small = net_small (weights_of s) b.at s.bounded sound.bounded e

  pub both_small : long (weights_of s) b.at e + short (weights_of s) b.at e ≤ 2 * reading_bound
  both_small =
      let l = long_small (weights_of s) b.at s.bounded sound.bounded e in
      let m = short_small (weights_of s) b.at s.bounded sound.bounded e in
      omega arith
