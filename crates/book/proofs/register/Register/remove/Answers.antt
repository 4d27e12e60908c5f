use Rattle.std.proofs.Common.{sym, ◌∙◌}
use Rattle.book.proofs.Rows.{found, not_found}
use Rattle.book.proofs.Tabled.{known, unknown, none_out, take_out}
use Rattle.book.proofs.register.Register.remove.Goals as goal

pub returns-in_err-at : goal.returns-in_err-at
returns-in_err-at g c =
    let a = c.self.inside in
    let i = c.self.invariant in
    let n = not_found _ _ _ c.locate.ensures c.in_err-at.ensures.value in
    rw (← c.self.view_is) (record {
      answer = c.from_residual.ensures ∙ sym (unknown a.rows.now a.len c.args.key i.room i.ascending n.0 n.1);
      state = none_out a.rows.now a.len c.args.key i.room i.ascending n.0 n.1;
    })

pub invariant_of-self-2 : goal.invariant_of-self-2
invariant_of-self-2 g c =
    let a = c.self.inside in
    let i = c.self.invariant in
    let f = found _ _ _ c.in_ok-at.at c.locate.ensures c.in_ok-at.ensures.value in
    let e = c.remove_at.ensures in
    let w = take_out a.rows.now a.len c.args.key i.room i.ascending c.in_ok-at.at f _ _ e.len e.capacity e.rows in
    record { room = w.room; ascending = w.ascending }

pub returns : goal.returns
returns g c =
    let a = c.self.inside in
    let i = c.self.invariant in
    let f = found _ _ _ c.in_ok-at.at c.locate.ensures c.in_ok-at.ensures.value in
    let e = c.remove_at.ensures in
    rw (← c.self.view_is) (record {
      answer = sym (known a.rows.now a.len c.args.key i.room i.ascending c.in_ok-at.at f c.index-rows-at.result);
      state = let w = take_out a.rows.now a.len c.args.key i.room i.ascending c.in_ok-at.at f _ _ e.len e.capacity e.rows in w.is;
    })
