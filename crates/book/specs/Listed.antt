-- What a book means that stores the non-zero pairs only, each under the number of its place in a grid.
use Rattle.std.specs.Prelude.{◌≡◌, ℕ, ◌+◌, ◌*◌, ◌≤◌, min, Bool, true, cond, not, ◌&&◌, T, ℤ, pos, Some, None, Option, ◌==◌, nat_lt}
use Rattle.terms.specs.Bounds.{most_pairs}
use Rattle.book.specs.Tables.{Table, size, value_of}
use Rattle.book.specs.Holding.{Holding, blank, or_zero, is_zero, small, nonzeros}

-- what a row may hold: a quantity that is small and not zero
abbrev pub proper : Option ℤ → Bool
proper None = true
proper (Some q) = small q && not (is_zero q)

-- the quantity of each pair below e and c
abbrev pub spread : ℕ → ℕ → (ℕ → Option ℤ) → ℕ → ℕ → ℤ
spread e c f i j = cond (nat_lt i e && nat_lt j c) (or_zero (f (i * c + j))) (pos 0)

-- the book that a table of rows makes
unfoldable pub listed : ℕ → ℕ → Table ℤ → Holding
listed e c t = record { entities = e; contracts = c; capacity = t.capacity; at = spread e c (value_of t) }

-- how many pairs of that book are not zero
abbrev pub listed_count : ℕ → ℕ → Table ℤ → ℕ
listed_count e c t = nonzeros (spread e c (value_of t)) e c

-- every row of a table is proper and of a pair below e and c, and there are no more than it has room for
pub record Stored (e c : ℕ) (t : Table ℤ) : Type 0 where
  pub each : (key : ℕ) → T (proper (value_of t key))
  pub counted : size t ≡ listed_count e c t
  pub room : size t ≤ t.capacity

-- a new list over n places: it has no entities where there is no place, and uses no more places than there can be pairs
abbrev pub new_list : ℕ → ℕ → ℕ → Holding
new_list n e c = blank (cond (n == 0) 0 e) c (min n most_pairs)
