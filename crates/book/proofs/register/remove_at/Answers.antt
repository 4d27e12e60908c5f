use Rattle.book.proofs.Shifts.{row_out}
use Rattle.book.proofs.register.remove_at.Goals as goal

pub returns-clause-rows : goal.returns-clause-rows
returns-clause-rows g c = row_out c.args.rows.now c.args.len.now c.args.at _ c.requires.room c.requires.within c.rotate_left.ensures.after
