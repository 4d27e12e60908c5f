use Rattle.book.proofs.Shifts.{row_in}
use Rattle.book.proofs.register.insert_at.Goals as goal

pub returns-clause-rows : goal.returns-clause-rows
returns-clause-rows g c = row_in c.args.rows.now c.args.len.now c.args.at c.args.row _ c.requires.free c.requires.within c.rotate_right.ensures.after
