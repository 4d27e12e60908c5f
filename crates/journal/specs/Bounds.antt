-- The largest sizes that a line may name, each under one name. src/bounds.rt has the same names.
use Rattle.std.specs.Prelude.{ℕ}

-- the most entities of a book, and the most contracts
abbrev pub book_side : ℕ
book_side = 10000

-- the most places of a book
abbrev pub book_places : ℕ
book_places = 8192

-- the most rows that a report is written into
abbrev pub report_rows : ℕ
report_rows = 512
