use Rattle.std.proofs.Common.{◌<◌, length, Some, Ok, ap, ◌∙◌, arith}
use Rattle.book.specs.Places.{table}
use Rattle.book.specs.Tables.{putted}
use Rattle.book.proofs.Tabled.{known_reply, key_is, put_over, full, new_reply, put_in}
use Rattle.book.proofs.register.Register.put.Goals as goal

pub invariant_of-self : goal.invariant_of-self
invariant_of-self g c =
    let a = c.self.inside in
    let i = c.self.invariant in
    let k = key_is a.rows.now a.len c.args.key i.room i.ascending c.in-Ok.at c.in-Ok.ensures c.index-rows-at.result in
    let w = put_over a.rows.now a.len c.args.key i.room i.ascending c.in-Ok.at c.in-Ok.ensures _ k in
    record { room = w.room; ascending = w.ascending }

pub returns-in-Ok : goal.returns-in-Ok
returns-in-Ok g c =
    let a = c.self.inside in
    let i = c.self.invariant in
    let r = c.replace.ensures in
    let k = key_is a.rows.now a.len c.args.key i.room i.ascending c.in-Ok.at c.in-Ok.ensures c.index-rows-at.result in
    rw (← c.self.view_is) (record {
      answer = ap (λ v. Ok (Some v)) r.value ∙ known_reply a.rows.now a.len c.args.key i.room i.ascending c.in-Ok.at c.in-Ok.ensures c.index-rows-at.result;
      state = let w = put_over a.rows.now a.len c.args.key i.room i.ascending c.in-Ok.at c.in-Ok.ensures _ k in w.is ∙ ap (putted (table a) c.args.key) r.after;
    })

pub returns-in-Err : goal.returns-in-Err
returns-in-Err g c =
    let a = c.self.inside in
    let i = c.self.invariant in
    let f = full a.rows.now a.len c.args.key i.room i.ascending c.in-Err.field-0 c.in-Err.ensures c.args.value c.if-self-rows.true in
    rw (← c.self.view_is) (record { answer = f.0; state = f.1 })

pub invariant_of-self-in-Err-2 : goal.invariant_of-self-in-Err-2
invariant_of-self-in-Err-2 g c =
    let a = c.self.inside in
    let i = c.self.invariant in
    let e = c.insert_at.ensures in
    let l : a.len < length a.rows.now = omega (arith, i.room, c.if-self-rows.false) in
    let w = put_in a.rows.now a.len c.args.key i.room i.ascending c.in-Err.field-0 c.in-Err.ensures c.args.value l _ _ e.len e.capacity e.rows in
    record { room = w.room; ascending = w.ascending }

pub returns-in-Err-2 : goal.returns-in-Err-2
returns-in-Err-2 g c =
    let a = c.self.inside in
    let i = c.self.invariant in
    let e = c.insert_at.ensures in
    let l : a.len < length a.rows.now = omega (arith, i.room, c.if-self-rows.false) in
    rw (← c.self.view_is) (record {
      answer = new_reply a.rows.now a.len c.args.key i.room i.ascending c.in-Err.field-0 c.in-Err.ensures c.args.value l;
      state = let w = put_in a.rows.now a.len c.args.key i.room i.ascending c.in-Err.field-0 c.in-Err.ensures c.args.value l _ _ e.len e.capacity e.rows in w.is;
    })
