use Rattle.std.proofs.Common.{length}
use Rattle.book.proofs.Rows.{empty_mapped}
use Rattle.book.proofs.register.Register.new.Goals as goal

pub returns : goal.returns
returns g c = λ i. record { capacity = length c.args.rows.now; rows = empty_mapped i }
