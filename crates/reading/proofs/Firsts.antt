-- The first number that passes a test, and the first missing delta.
use Rattle.std.proofs.Common.{◌≡◌, ℕ, zero, suc, ◌<◌, ◌≤◌, Bool, true, false, cond, List, length, get_or, take, is_some, Some, None, Option, sym, refl, ap, ap₂, ◌∙◌, subst, inl, inr, arith}
use Rattle.std.specs.List.{position}
use Rattle.std.proofs.lemmas.List.{length-take-le, get_or-take}
use Rattle.std.proofs.lemmas.List.Sums.{position_or_len_is}
use Rattle.std.proofs.lemmas.Bool.{cases_lt, le-ltb, lt-ltb, cond-true, both_ways, false≢true}
use Rattle.terms.specs.Bounds.{most_contracts}
use Rattle.std.specs.Option.{option_or}
use Rattle.reading.specs.Sums.{first_below}
use Rattle.reading.specs.Missing.{first_needing, paired, with_first, missing, Missed, FirstMissing}

-- the scan ends at i
first_at : (p : ℕ → Bool) (i n : ℕ) → i < n → first_below i p ≡ None → p i ≡ true → first_below n p ≡ Some i
first_at p i zero l h t = absurd (omega arith)
first_at p i (suc n) l h t =
    elim (cases_lt i n) [
      | inl m ↦ rw (first_at p i n m h t) refl
      | inr m ↦ let s : n ≡ i = omega arith in rw (s, h, t) refl
    ]

-- only the numbers below n are tested
pub same_below : (n : ℕ) (p q : ℕ → Bool) → ((i : ℕ) → i < n → p i ≡ q i) → first_below n p ≡ first_below n q
same_below zero p q h = refl
same_below (suc n) p q h =
    ap₂ option_or (same_below n p q (λ i l. h i (omega arith))) (ap (λ (b : Bool). cond b (Some n) None) (h n (omega arith)))

-- where a scan came to: no number below n passes, or k does and none below it
abbrev Came : (ℕ → Bool) → ℕ → Option ℕ → Type 0
Came p n None = (k : ℕ) → k < n → p k ≡ false
Came p n (Some k) = (k < n) × (p k ≡ true) × ((j : ℕ) → j < k → p j ≡ false)

step : (p : ℕ → Bool) (n : ℕ) (o : Option ℕ) (b : Bool) → p n ≡ b → Came p n o → Came p (suc n) (option_or o (cond b (Some n) None))
step p n (Some k) b e r = (omega (arith, r.0), r.1, r.2)
step p n None true e r = (omega arith, e, r)
step p n None false e r =
    λ k l. elim (cases_lt k n) [ inl m ↦ r k m | inr m ↦ let s : k ≡ n = omega arith in ap p s ∙ e ]

came : (p : ℕ → Bool) (n : ℕ) → Came p n (first_below n p)
came p zero = λ k l. absurd (omega arith)
came p (suc n) = step p n (first_below n p) (p n) refl (came p n)

-- the first place that passes among the first n of a list
pub first_place : {X : Type 0} (p : X → Bool) (xs : List X) (n : ℕ) (d : X) → n ≤ length xs → position p (take n xs) ≡ first_below n (λ k. p (get_or xs k d))
first_place p xs n d h = go (first_below n (λ k. p (get_or xs k d))) (came (λ k. p (get_or xs k d)) n)
  where
    long : length (take n xs) ≡ n
    long = length-take-le n xs h

    same : (k : ℕ) → k < n → p (get_or (take n xs) k d) ≡ p (get_or xs k d)
    same k l = ap p (get_or-take n xs k d l)

    go : (o : Option ℕ) → Came (λ k. p (get_or xs k d)) n o → position p (take n xs) ≡ o
    go None r =
        let i = position_or_len_is p (take n xs) n d (omega (arith, long)) (λ k l. same k l ∙ r k l) (λ l. absurd (omega (arith, long))) in
        rw (i, long, le-ltb n n (omega arith)) refl
    go (Some j) r =
        let i = position_or_len_is p (take n xs) j d (omega (arith, long, r.0)) (λ k l. same k (omega (arith, l, r.0)) ∙ r.2 k l) (λ l. same j r.0 ∙ r.1) in
        rw (i, long, lt-ltb j n r.0) refl

-- ---- the first missing delta
module _ (n : ℕ) (lacks : ℕ → Bool) (needs : ℕ → ℕ → Bool) where
  abbrev wanted : ℕ → Bool
  wanted c = is_some (first_needing n lacks needs c)

  -- the scan ends at contract c and entity e
  pub missing_at : (c e : ℕ) → c < most_contracts → first_below c wanted ≡ None → true ≡ lacks c → e < n → first_below e (λ k. needs k c) ≡ None → true ≡ needs e c → missing n lacks needs ≡ Some (c, e)
  unfolding missing
  missing_at c e l h t m k u =
      let i : first_needing n lacks needs c ≡ Some e =
      cond-true (lacks c) _ _ (sym t) ∙ first_at (λ k. needs k c) e n m k (sym u) in
      ap (with_first (first_needing n lacks needs)) (first_at wanted c most_contracts l h (ap is_some i)) ∙ ap (paired c) i

  -- or passes every contract
  pub missing_none : (c : ℕ) → c ≡ most_contracts → first_below c wanted ≡ None → missing n lacks needs ≡ None
  unfolding missing
  missing_none c l h =
      ap (with_first (first_needing n lacks needs)) (ap (λ k. first_below k wanted) (sym l) ∙ h)

  -- ---- what it says
  -- nothing is missed at a contract that is not wanted
  not_missed : (c e : ℕ) → wanted c ≡ false → Missed n lacks needs c e → ⊥
  not_missed c e f m = go (first_below n (λ k. needs k c)) refl
    where
      go : (o : Option ℕ) → first_below n (λ k. needs k c) ≡ o → ⊥
      go None h =
          let r = subst (Came (λ k. needs k c) n) h (came (λ k. needs k c) n) in
          both_ways (needs e c) (r e m.1) m.3
      go (Some k) h = both_ways (wanted c) f (ap is_some (cond-true (lacks c) _ _ m.2 ∙ h))

  found : (c e : ℕ) → first_needing n lacks needs c ≡ Some e → (lacks c ≡ true) × (first_below n (λ k. needs k c) ≡ Some e)
  found c e h = grind arith

  told : (c : ℕ) → c < most_contracts → ((k : ℕ) → k < c → wanted k ≡ false) → (o : Option ℕ) → first_needing n lacks needs c ≡ o → is_some o ≡ true → FirstMissing n lacks needs (paired c o)
  told c l before None h t = absurd (false≢true t)
  told c l before (Some e) h t =
      let d = found c e h in
      let r = subst (Came (λ k. needs k c) n) d.1 (came (λ k. needs k c) n) in
      ((l, r.0, d.0, r.1), λ k i m. not_missed k i (before k m), λ k m x. both_ways (needs k c) (r.2 k m) x.3)

  go : (o : Option ℕ) → Came wanted most_contracts o → FirstMissing n lacks needs (with_first (first_needing n lacks needs) o)
  go None r = λ c e m. not_missed c e (r c m.0) m
  go (Some c) r = told c r.0 r.2 (first_needing n lacks needs c) refl r.1

  pub missing_first : FirstMissing n lacks needs (missing n lacks needs)
  unfolding missing
  missing_first = go (first_below most_contracts wanted) (came wanted most_contracts)

  -- what equals it is the first as well
  pub so_first : (r : Option (ℕ × ℕ)) → r ≡ missing n lacks needs → FirstMissing n lacks needs r
  so_first r e = subst (FirstMissing n lacks needs) (sym e) missing_first
