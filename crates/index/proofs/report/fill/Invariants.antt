use Rattle.index.specs.Listing.{with_marks, listing}
use Rattle.index.specs.Sweeps.{rows_in}
use Rattle.index.proofs.Reports.{Told}
use Rattle.index.proofs.report.fill.Given as goal

-- the entities so far
abbrev pub invariant-loop-e : goal.invariant-loop-e
invariant-loop-e l = Told (listing l.e (rows_in l.marks)) l.fn.rows l.rows l.told

-- and the marks so far of the next one
abbrev pub invariant-loop-mark : goal.invariant-loop-mark
invariant-loop-mark l = Told (with_marks l.mark-index (rows_in l.marks) l.e (listing l.e (rows_in l.marks))) l.fn.rows l.rows l.told
