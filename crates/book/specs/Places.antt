-- The table that the places of a register hold.
use Rattle.std.specs.Prelude.{◌≡◌, ℕ, ◌+◌, ◌<◌, ◌≤◌, T, List, map, length, take, slice_index_or}
use Rattle.std.specs.Ordering.{nat_cmp}
use Rattle.std.specs.FinMap.{from_sorted, is_sorted}
use Rattle.book.specs.declared.register.Register.TheInside.{Inside}
use Rattle.book.specs.declared.row.Row.{Row}
use Rattle.book.specs.Tables.{Table}

-- each row as a key with its value
abbrev pub pairs : {V : Type 0} → List (Row V) → List (ℕ × V)
pairs rows = map (λ r. (r.key, r.value)) rows

-- the rows in use
abbrev pub used : {V : Type 0} → Inside V → List (Row V)
used a = take a.len a.rows.now

-- what the places mean
abbrev pub table : {V : Type 0} → Inside V → Table V
table a = record { capacity = length a.rows.now; rows = from_sorted (pairs (used a)) }

-- the rows are in ascending order of key
abbrev pub Ascending : {V : Type 0} → List (Row V) → Type 0
Ascending rows = T (is_sorted nat_cmp (pairs rows))

-- no more rows are in use than there are places, and those are in ascending order
pub record Kept {V : Type 0} (a : Inside V) : Type 0 where
  pub room : a.len ≤ length a.rows.now
  pub ascending : Ascending (used a)

-- a key stands at a place of some rows
pub record Found {V : Type 0} (rows : List (Row V)) (key at : ℕ) : Type 0 where
  pub within : at < length rows
  pub is : (d : Row V) → (slice_index_or rows at d).key ≡ key

-- a key is missing, and would stand at a place
pub record Gap {V : Type 0} (rows : List (Row V)) (key at : ℕ) : Type 0 where
  pub within : at ≤ length rows
  pub below : (k : ℕ) (d : Row V) → k < at → (slice_index_or rows k d).key < key
  pub above : (k : ℕ) (d : Row V) → at ≤ k → k < length rows → key < (slice_index_or rows k d).key

-- a key is nowhere but at one of some places: the rows before these are below it, and those from their end on are above
pub record Bracket {V : Type 0} (rows : List (Row V)) (key base size : ℕ) : Type 0 where
  pub some : 0 < size
  pub within : base + size ≤ length rows
  pub below : (k : ℕ) (d : Row V) → k < base → (slice_index_or rows k d).key < key
  pub above : (k : ℕ) (d : Row V) → base + size ≤ k → k < length rows → key < (slice_index_or rows k d).key
