use Rattle.std.proofs.Common.{pos, ap, ◌∙◌, arith, rules}
use Rattle.reading.proofs.Sheets.{filled}
use Rattle.reading.specs.Readings.{net, long, short}
use Rattle.reading.specs.Views.{weights_of}
use Rattle.index.specs.Values.{readings_below}
use Rattle.index.proofs.Table.{unread}
use Rattle.index.proofs.readings.readings.Goals as goal

pub returns : goal.returns
unfolding net long short
returns g c =
    let w = weights_of c.args.sheet.now in
    let q = (g.H.Holds.held c.args.holder.now).at in
    let n = c.min-entities.result in
    filled (readings_below n w q) (search rules) c.from_fn.result _ c.from_fn.ensures.items (pos 0, pos 0, pos 0) (unread n w q (omega (arith, c.min-entities.ensures)))
    ∙ ap (λ n. readings_below n w q) c.min-entities.ensures
