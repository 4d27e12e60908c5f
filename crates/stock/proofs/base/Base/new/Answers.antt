use Rattle.stock.proofs.Cells.{nought_small, new_base_is}
use Rattle.stock.proofs.base.Base.new.Goals as goal

pub invariant_of-result : goal.invariant_of-result
invariant_of-result c = record { small = nought_small 4096 }

pub returns : goal.returns
returns c = new_base_is 4096
