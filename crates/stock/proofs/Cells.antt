-- The cells of the base: all zero at first, and one written.
use Rattle.std.proofs.Common.{◌≡◌, ℕ, zero, suc, ◌+◌, ◌*◌, ◌<◌, ◌≤◌, ◌&&◌, ltb, ◌≢◌, ◌⊎◌, List, length, get_or, set, replicate, ℤ, pos, nat_abs, refl, ⊎_elim, arith}
use mathlib.Core.Path.{fun_ext}
use Rattle.std.proofs.lemmas.List.{get_or-set_same, get_or-set_other}
use Rattle.std.proofs.lemmas.Bool.{cond_both, cases_eq}
use Rattle.std.proofs.lemmas.Bool.Decides.{nat_tests}
use Rattle.terms.specs.Bounds.{quantity_bound, most_entities, most_contracts, most_pairs}
use Rattle.book.specs.Holding.{gridded, put, blank}
use Rattle.stock.specs.Close.{base_of}

-- ---- cells that are all alike
pub alike : {A : Type 0} (x : A) (n k : ℕ) → get_or (replicate n x) k x ≡ x
alike x zero k = refl
alike x (suc n) zero = refl
alike x (suc n) (suc k) = alike x n k

pub nought_small : (n k : ℕ) → nat_abs (get_or (replicate n (pos 0)) k (pos 0)) ≤ quantity_bound
nought_small n k = rw (alike (pos 0) n k) (omega arith)

pub new_base_is : (n : ℕ) → gridded most_entities most_contracts (replicate n (pos 0)) ≡ blank most_entities most_contracts most_pairs
unfolding gridded
new_base_is n = λ s. record { entities = most_entities; contracts = most_contracts; capacity = most_pairs; at = λ e c. spot e c s }
  where
    spot : (e c : ℕ) → (gridded most_entities most_contracts (replicate n (pos 0))).at e c ≡ pos 0
    spot e c =
        cond_both (ltb e most_entities && ltb c most_contracts) (get_or (replicate n (pos 0)) (e * most_contracts + c) (pos 0)) (pos 0) (λ z. z ≡ pos 0)
        (λ _. alike (pos 0) n (e * most_contracts + c))
        (λ _. refl)

-- ---- one cell read
pub read : (cells : List ℤ) (e c : ℕ) → e < most_entities → c < most_contracts → get_or cells (e * most_contracts + c) (pos 0) ≡ base_of cells e c
unfolding gridded
read cells e c l m = grind (arith, nat_tests)

pub unread : (cells : List ℤ) (e c : ℕ) → (most_entities ≤ e) ⊎ ((e < most_entities) × (most_contracts ≤ c)) → pos 0 ≡ base_of cells e c
unfolding gridded
unread cells e c l = grind (arith, nat_tests)

-- ---- one cell written
module _ (cells : List ℤ) (e c : ℕ) (x : ℤ) (l : e < most_entities) (m : c < most_contracts) where
  spot : length cells ≡ most_pairs → (i j : ℕ) → base_of (set cells (e * most_contracts + c) x) i j ≡ put (base_of cells) e c x i j
  unfolding gridded
  spot full i j = grind (arith, nat_tests, get_or-set_same, get_or-set_other)

  pub written : length cells ≡ most_pairs → base_of (set cells (e * most_contracts + c) x) ≡ put (base_of cells) e c x
  written full = fun_ext (λ i. fun_ext (λ j. spot full i j))

-- every quantity is still small, wherever the cell is
pub still_small : (cells : List ℤ) (at : ℕ) (x : ℤ) → ((k : ℕ) → nat_abs (get_or cells k (pos 0)) ≤ quantity_bound) → nat_abs x ≤ quantity_bound → at < length cells → (k : ℕ) → nat_abs (get_or (set cells at x) k (pos 0)) ≤ quantity_bound
still_small cells at x h s l k =
    ⊎_elim
    (λ (e : k ≡ at). rw (e, get_or-set_same cells at x (pos 0) l) s)
    (λ (n : k ≢ at). rw (get_or-set_other cells at k x (pos 0) n) (h k))
    (cases_eq k at)
