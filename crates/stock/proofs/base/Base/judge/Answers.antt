use Rattle.std.proofs.Common.{◌≡◌, sym, ap₂, ◌∙◌, arith, w64, to_z, of_z}
use Rattle.std.proofs.lemmas.Int.{ints}
use Rattle.reading.specs.Readings.{net}
use Rattle.reading.specs.Views.{weights_of}
use Rattle.rules.specs.Violation.{between, violation}
use Rattle.stock.specs.Close.{base_of}
use Rattle.stock.proofs.Moves.{obeyed, violating}
use Rattle.stock.proofs.base.Base.judge.Goals as goal

pub returns-then-lies_between : goal.returns-then-lies_between
returns-then-lies_between g c =
    let w = weights_of c.args.closing.two.now in
    let base = net w (base_of c.args.self.now.cells) c.args.entity in
    let book = net w (g.B.Holds.held c.args.book.now).at c.args.entity in
    let x : to_z w64 (of_z w64 c.net-x.result) ≡ base = omega (arith, ints, c.net-x.ensures) in
    let y : to_z w64 (of_z w64 c.net-y.result) ≡ book = omega (arith, ints, c.net-y.ensures) in
    obeyed c.args.closing.turn base book c.args.closing.price
    (sym (c.lies_between.ensures ∙ ap₂ between x y) ∙ c.if-lies_between.true)

pub returns : goal.returns
returns g c =
    let w = weights_of c.args.closing.two.now in
    let base = net w (base_of c.args.self.now.cells) c.args.entity in
    let book = net w (g.B.Holds.held c.args.book.now).at c.args.entity in
    let x : to_z w64 (of_z w64 c.net-x.result) ≡ base = omega (arith, ints, c.net-x.ensures) in
    let y : to_z w64 (of_z w64 c.net-y.result) ≡ book = omega (arith, ints, c.net-y.ensures) in
    violating c.args.closing.turn base book c.args.closing.price _ _
    (sym c.judges.ensures ∙ c.if-not-judges.false)
    (sym (c.lies_between.ensures ∙ ap₂ between x y) ∙ c.if-lies_between.false)
    (c.violated-quantity.ensures ∙ ap₂ violation x y)
    c.charge-charge.ensures
