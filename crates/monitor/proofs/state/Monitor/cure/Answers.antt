use Rattle.std.proofs.Common.{Ok, sym, refl, ap, ◌∙◌}
use Rattle.terms.specs.declared.kind.Underlying.TheVariants as kind
use Rattle.delta.specs.Sources.{Source, source_of}
use Rattle.index.specs.declared.day.Day.{Day}
use Rattle.index.specs.declared.calls.Rule.TheVariants.{Cure}
use Rattle.index.specs.Days.{cured_day}
use Rattle.terms.specs.Causes.{checked}
use Rattle.model.specs.Indices.{cure_table, of_reading}
use Rattle.model.specs.State.{State}
use Rattle.model.specs.Calls.{cure}
use Rattle.model.proofs.Steps.{on_kind, exit_by_first, exit_by_second, by_decision}
use Rattle.monitor.specs.View.{state_of}
use Rattle.monitor.specs.Watching.{watched_step}
use Rattle.monitor.proofs.state.Monitor.cure.Goals as goal

pub returns-in_err-index-clause-step : goal.returns-in_err-index-clause-step
returns-in_err-index-clause-step g c =
    let s : State = state_of g.B.Holds.held c.args.self.now in
    let d : Source = source_of g.D.Delta.answer g.D.PricedDelta.at g.D.PricedDelta.worth c.args.source.now in
    let u = c.args.underlying in
    exit_by_first s (cure u d) (on_kind kind.Index s u) (cure_table (s.ledger.days u) d) (of_reading s.terms.listing s.ledger u d) refl c.from_residual.result _ c.from_residual.ensures.1 (sym c.in_err-index.ensures.is)

pub returns-in_err-admits_cure-clause-step : goal.returns-in_err-admits_cure-clause-step
returns-in_err-admits_cure-clause-step g c =
    let s : State = state_of g.B.Holds.held c.args.self.now in
    let d : Source = source_of g.D.Delta.answer g.D.PricedDelta.at g.D.PricedDelta.worth c.args.source.now in
    let u = c.args.underlying in
    let was = c.day-before.ensures ∙ ap s.ledger.days c.in_ok-index.ensures.number in
    let table = c.in_err-admits_cure.ensures ∙ ap (λ (day : Day). checked (cure_table day d)) was in
    exit_by_second s (cure u d) (on_kind kind.Index s u) (cure_table (s.ledger.days u) d) (of_reading s.terms.listing s.ledger u d) refl c.from_residual-in_err-admits_cure.result _ c.from_residual-in_err-admits_cure.ensures.1 (sym c.in_ok-index.ensures.is) (sym table)

pub returns-clause-step : goal.returns-clause-step
returns-clause-step g c =
    let s : State = state_of g.B.Holds.held c.args.self.now in
    let d : Source = source_of g.D.Delta.answer g.D.PricedDelta.at g.D.PricedDelta.worth c.args.source.now in
    let u = c.args.underlying in
    let num = c.in_ok-index.ensures.number in
    let was = c.day-before.ensures ∙ ap s.ledger.days num in
    let table = c.in_ok-admits_cure.ensures ∙ ap (λ (day : Day). checked (cure_table day d)) was in
    let day = c.cured-day.ensures ∙ (λ j. cured_day (c.minute.ensures j) (was j)) in
    c.watch.ensures.step
    ∙ (λ j. watched_step Cure (day j) s (num j) d)
    ∙ by_decision s (cure u d) (on_kind kind.Index s u) (cure_table (s.ledger.days u) d) (of_reading s.terms.listing s.ledger u d) refl (sym c.in_ok-index.ensures.is) (sym table)
