use Rattle.std.proofs.Common.{sym}
use Rattle.book.proofs.Tabled.{size_is, size_le}
use Rattle.book.proofs.register.Register.len.Goals as goal

pub returns-clause-value : goal.returns-clause-value
returns-clause-value g c =
    let a = c.self.inside in
    rw (← c.self.view_is) (sym (size_is a.rows.now a.len 0 c.self.invariant.room c.self.invariant.ascending))

pub returns-clause-within : goal.returns-clause-within
returns-clause-within g c =
    let a = c.self.inside in
    rw (← c.self.view_is) (size_le a.rows.now a.len 0 c.self.invariant.room c.self.invariant.ascending)
