use Rattle.cover.proofs.Reports.{empty_small}
use Rattle.cover.proofs.cash.Cash.new.Goals as goal

pub invariant_of-result : goal.invariant_of-result
invariant_of-result c = record { small = empty_small _ _ c.new.ensures }
