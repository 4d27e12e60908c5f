use Rattle.std.proofs.Common.{arith}
use Rattle.std.proofs.lemmas.Grind.{common_steps}
use Rattle.monitor.proofs.listing.Terms.is_open.Goals as goal

pub returns-then-contains-4 : goal.returns-then-contains-4
returns-then-contains-4 c = grind (arith, common_steps)

pub returns-else-contains-4 : goal.returns-else-contains-4
returns-else-contains-4 c = grind (arith, common_steps)
