-- Nothing to believe here, only lemmas: every grid is sound, and every list is.
use Rattle.std.specs.Prelude.{ℕ, zero, suc, ◌+◌, ◌*◌, ◌<◌, ◌≤◌, Bool, true, false, cond, not, ◌&&◌, T, List, ℤ, pos, Some, None, Option, nat_lt, slice_index_or, unsigned_abs}
use Rattle.std.proofs.Common.{subst, suc-mul, arith, leb→le}
use Rattle.std.proofs.lemmas.Nat.{mul-add-lt}
use Rattle.std.proofs.lemmas.Bool.{cond-false, cond_both, and_parts, ltb-true}
use Rattle.terms.specs.Bounds.{quantity_bound}
use Rattle.book.specs.Tables.{Table, value_of}
use Rattle.book.specs.Holding.{Sound, count, gridded, is_zero, small, nonzero, nonzeros}
use Rattle.book.specs.Holding.{or_zero}
use Rattle.book.specs.Listed.{proper, listed, Stored}

-- one for a pair that is not zero
abbrev pub bit : ℤ → ℕ
bit z = cond (is_zero z) 0 1

-- it is at most one
pub bit_le : (z : ℤ) → bit z ≤ 1
bit_le z = cond_both (is_zero z) 0 1 (λ n. n ≤ 1) (λ _. omega arith) (λ _. omega arith)

-- no more than n of n values are not zero
pub nonzero_le : (f : ℕ → ℤ) (n : ℕ) → nonzero f n ≤ n
nonzero_le f zero = omega arith
nonzero_le f (suc n) = let h = nonzero_le f n in let k = bit_le (f n) in omega arith

-- no more pairs are not zero than there are
pub nonzeros_le : (f : ℕ → ℕ → ℤ) (e c : ℕ) → nonzeros f e c ≤ e * c
nonzeros_le f zero c = omega arith
nonzeros_le f (suc e) c =
    let h = nonzeros_le f e c in
    let k = nonzero_le (f e) c in
    omega (arith, suc-mul e c)

-- the place of a pair is below the number of places
pub place_lt : (e c i j n : ℕ) → e * c ≤ n → i < e → j < c → i * c + j < n
place_lt e c i j n h l m = omega (arith, mul-add-lt i c j e l m)

-- every grid is sound
pub grid_sound : (e c : ℕ) (cells : List ℤ) → ((k : ℕ) → k < e * c → unsigned_abs (slice_index_or cells k (pos 0)) ≤ quantity_bound) → Sound (gridded e c cells)
unfolding gridded count
grid_sound e c cells h = record {
  bounded = λ i j.
      cond_both (nat_lt i e && nat_lt j c) (slice_index_or cells (i * c + j) (pos 0)) (pos 0) (λ z. unsigned_abs z ≤ quantity_bound)
      (λ t.
      let p = and_parts (nat_lt i e) (nat_lt j c) t in
      h (i * c + j) (place_lt e c i j (e * c) (omega arith) (ltb-true i e p.0) (ltb-true j c p.1)))
      (λ _. omega arith);
  outside = λ i j o. cond-false (nat_lt i e && nat_lt j c) _ _ o;
  few = nonzeros_le (gridded e c cells).at e c;
}

-- every list is sound
pub list_sound : (e c : ℕ) (t : Table ℤ) → Stored e c t → Sound (listed e c t)
unfolding listed count
list_sound e c t s = record {
  bounded = λ i j.
      cond_both (nat_lt i e && nat_lt j c) (or_zero (value_of t (i * c + j))) (pos 0) (λ z. unsigned_abs z ≤ quantity_bound)
      (λ _. bound (value_of t (i * c + j)) (s.each (i * c + j)))
      (λ _. omega arith);
  outside = λ i j o. cond-false (nat_lt i e && nat_lt j c) _ _ o;
  few = subst (λ m. m ≤ t.capacity) s.counted s.room;
}
  where
    left : (a b : Bool) → T (a && b) → T a
    left true b h = tt
    left false b h = h

    bound : (o : Option ℤ) → T (proper o) → unsigned_abs (or_zero o) ≤ quantity_bound
    bound None h = omega arith
    bound (Some q) h = leb→le (unsigned_abs q) quantity_bound (left (small q) (not (is_zero q)) h)
