-- What a call makes of the marks of an index's first entities.
use Rattle.std.specs.Prelude.{ℕ, ◌+◌, Bool, cond, List, nat_lt, slice_index_or}
use Rattle.terms.specs.declared.mark.Mark.{Mark}
use Rattle.terms.specs.declared.mark.Mark.TheVariants.{NetLong, NetShort, GrossLong, GrossShort}
use Rattle.reading.specs.Sums.{sum_below}
use Rattle.index.specs.declared.mark.Four.{Four}
use Rattle.index.specs.declared.mark.MarkRow.{MarkRow}
use Rattle.index.specs.Marks.{no_row, four, four_of}

-- the row of each entity and mark in a table
abbrev pub rows_in : List (Four MarkRow) → ℕ → Mark → MarkRow
rows_in table e = four (slice_index_or table e (four_of no_row))

-- how many of the four marks pass a test
abbrev pub tally : (Mark → Bool) → ℕ
tally p = cond (p NetLong) 1 0 + cond (p NetShort) 1 0 + cond (p GrossLong) 1 0 + cond (p GrossShort) 1 0

-- the marks after a call: only those of the first n entities have changed
abbrev pub swept : ℕ → (ℕ → Mark → MarkRow → MarkRow) → (ℕ → Mark → MarkRow) → ℕ → Mark → MarkRow
swept n judged rows e m = cond (nat_lt e n) (judged e m (rows e m)) (rows e m)

-- how many of the marks of the first n entities count at a call
abbrev pub told_count : ℕ → (ℕ → Mark → MarkRow → Bool) → (ℕ → Mark → MarkRow) → ℕ
told_count n tells rows = sum_below n (λ e. tally (λ m. tells e m (rows e m)))
