use Rattle.std.proofs.Common.{sym, ◌∙◌}
use Rattle.book.specs.Places.{used}
use Rattle.book.proofs.Rows.{found, not_found, get_some, get_none}
use Rattle.book.proofs.register.Register.find.Goals as goal

pub returns-in_err-at : goal.returns-in_err-at
returns-in_err-at g c =
    let rows = used c.self.inside in
    let n = not_found _ _ _ c.locate.ensures c.in_err-at.ensures.value in
    rw (← c.self.view_is) (c.from_residual.ensures ∙ sym (get_none c.args.key rows n.0 c.self.invariant.ascending n.1))

pub returns : goal.returns
returns g c =
    let rows = used c.self.inside in
    let f = found _ _ _ c.in_ok-at.at c.locate.ensures c.in_ok-at.ensures.value in
    rw (← c.self.view_is) (sym (get_some c.args.key rows c.in_ok-at.at c.index-rows-at.result c.self.invariant.ascending f))
