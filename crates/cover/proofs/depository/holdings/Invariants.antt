use Rattle.std.proofs.Common.{◌≡◌, take}
use Rattle.cover.specs.Depositories.{holdings}
use Rattle.cover.proofs.depository.holdings.Given as goal

-- the rows so far
abbrev pub invariant-loop-row : goal.invariant-loop-row
invariant-loop-row l = l.total ≡ holdings (take l.row-index l.rows) l.entity
