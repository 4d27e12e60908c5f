-- The order in which the code goes, which the contract of a report leaves free: by entity, and for each by its marks.
use Rattle.std.specs.Prelude.{ℕ, zero, suc, List, [], ◌∷◌, ◌++◌, slice_index_or, Option, Some, None}
use Rattle.terms.specs.Marks.{all_marks}
use Rattle.terms.specs.declared.mark.Mark.{Mark}
use Rattle.terms.specs.declared.mark.Mark.TheVariants.{NetLong}
use Rattle.index.specs.declared.mark.MarkRow.{MarkRow}
use Rattle.index.specs.declared.report.Breach.{Breach}

-- mark k of the four
abbrev pub mark_at : ℕ → Mark
mark_at k = slice_index_or all_marks k NetLong

-- a list with the breach that a mark keeps at its end, if it keeps one
abbrev pub with_kept : ℕ → Mark → Option ℕ → List Breach → List Breach
with_kept e m None list = list
with_kept e m (Some v) list = list ++ (record { entity = e; mark = m; largest = v } ∷ [])

-- the same for the first k marks of entity e
abbrev pub with_marks : ℕ → (ℕ → Mark → MarkRow) → ℕ → List Breach → List Breach
with_marks zero rows e list = list
with_marks (suc k) rows e list = with_kept e (mark_at k) (rows e (mark_at k)).kept (with_marks k rows e list)

-- and for the four marks of the first n entities
abbrev pub listing : ℕ → (ℕ → Mark → MarkRow) → List Breach
listing zero rows = []
listing (suc n) rows = with_marks 4 rows n (listing n rows)

-- rows with a list written over them, as far as they go
abbrev pub over : List Breach → List Breach → List Breach
over [] old = old
over (b ∷ list) [] = []
over (b ∷ list) (row ∷ old) = b ∷ over list old
