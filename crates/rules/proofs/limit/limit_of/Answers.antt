use Rattle.std.proofs.Common.{arith}
use Rattle.rules.proofs.Deliveries.{accepted}
use Rattle.rules.proofs.limit.limit_of.Goals as goal

pub total-requires : goal.total-requires
total-requires c = let a = accepted c.args.free_float c.args.deliveries.now c.requires in omega (arith, a.delivered)

pub overflow_mul-averages : goal.overflow_mul-averages
overflow_mul-averages c = let a = accepted c.args.free_float c.args.deliveries.now c.requires in omega (arith, a.delivered, c.total.ensures)
