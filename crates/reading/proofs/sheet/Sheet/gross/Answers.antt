use Rattle.std.proofs.Common.{ℕ, ◌+◌, ◌^◌, ◌∙◌, arith, rules}
use Rattle.std.proofs.lemmas.Iterator.{YieldsList-from_range, YieldsList-from_map}
use Rattle.std.proofs.lemmas.Iterator.Consumers.{sum_from_yields_List, fits_from_yields_list}
use Rattle.reading.specs.Readings.{long, short}
use Rattle.reading.specs.Views.{weights_of}
use Rattle.reading.proofs.Sums.{sum_listed}
use Rattle.reading.proofs.Turns.{tallied, both_small}
use Rattle.reading.proofs.sheet.Sheet.gross.Goals as goal

pub sum-requires-clause-fits : goal.sum-requires-clause-fits
sum-requires-clause-fits g c =
    let n = c.args.entities in
    let s = c.args.self.now in
    let b = g.H.Holds.held c.args.holder.now in
    let f : ℕ → ℕ = λ e. long (weights_of s) b.at e + short (weights_of s) b.at e in
    let h = both_small b s (g.H.Holds.sound c.args.holder.now) in
    fits_from_yields_list c.map.result (2 ^ 128) (YieldsList-from_map _ f (YieldsList-from_range 0 n n c.map.ensures.source (omega arith)) c.map.ensures.closure (λ x r q k. search rules)) (tallied f h n (omega arith))

pub returns : goal.returns
returns g c =
    let n = c.args.entities in
    let s = c.args.self.now in
    let b = g.H.Holds.held c.args.holder.now in
    let f : ℕ → ℕ = λ e. long (weights_of s) b.at e + short (weights_of s) b.at e in
    sum_from_yields_List c.map.result c.sum.result c.sum.ensures.ran (YieldsList-from_map _ f (YieldsList-from_range 0 n n c.map.ensures.source (omega arith)) c.map.ensures.closure (λ x r q k. search rules))
    ∙ sum_listed f n
