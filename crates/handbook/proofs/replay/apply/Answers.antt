use Rattle.std.proofs.Common.{sym, ap, ◌∙◌}
use Rattle.delta.specs.Sources.{source_of}
use Rattle.model.specs.Calls.{Call, step}
use Rattle.monitor.specs.View.{state_of}
use Rattle.handbook.specs.Replay.{meant}
use Rattle.handbook.proofs.replay.apply.Goals as goal

pub returns-in-Close-clause-step : goal.returns-in-Close-clause-step
returns-in-Close-clause-step g c =
    let s = state_of g.B.Holds.held c.args.monitor.now in
    let f = meant (source_of g.D.Delta.answer g.D.PricedDelta.at g.D.PricedDelta.worth) g.C.Cover.amount in
    c.close.ensures.step ∙ ap (λ (k : Call). step s k) (sym (ap f c.in-Close.is))
