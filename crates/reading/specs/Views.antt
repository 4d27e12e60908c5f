-- What a sheet says of each contract.
use Rattle.std.specs.Prelude.{ℕ, Bool, ℤ, pos, Some, Option, is_none, slice_index_or}
use Rattle.reading.specs.declared.sheet.Sheet.{Sheet}
use Rattle.book.specs.Holding.{or_zero}

-- what a unit of contract c weighs, or none where it lacks a delta; past the last place it weighs nothing
abbrev pub deltas_of : Sheet → ℕ → Option ℤ
deltas_of s c = slice_index_or s.deltas c (Some (pos 0))

-- what a unit of contract c weighs
abbrev pub weights_of : Sheet → ℕ → ℤ
weights_of s c = or_zero (deltas_of s c)

-- contract c lacks a delta
abbrev pub lacking_of : Sheet → ℕ → Bool
lacking_of s c = is_none (deltas_of s c)
