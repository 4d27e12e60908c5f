use Rattle.std.proofs.Common.{Ok, sym, refl, ap, ◌∙◌}
use Rattle.terms.specs.declared.kind.Underlying.TheVariants as kind
use Rattle.delta.specs.Sources.{Source, source_of}
use Rattle.index.specs.declared.day.Day.{Day}
use Rattle.index.specs.Days.{day_after}
use Rattle.index.specs.Calls.{rule_of}
use Rattle.terms.specs.Causes.{checked}
use Rattle.model.specs.Indices.{snapshot_table, of_reading}
use Rattle.model.specs.State.{State}
use Rattle.model.specs.Calls.{snapshot}
use Rattle.model.proofs.Steps.{on_kind, exit_by_first, exit_by_second, by_decision}
use Rattle.monitor.specs.View.{state_of}
use Rattle.monitor.specs.Watching.{watched_step}
use Rattle.monitor.proofs.state.Monitor.snapshot.Goals as goal

pub returns-in_err-index-clause-step : goal.returns-in_err-index-clause-step
returns-in_err-index-clause-step g c =
    let s : State = state_of g.B.Holds.held c.args.self.now in
    let d : Source = source_of g.D.Delta.answer g.D.PricedDelta.at g.D.PricedDelta.worth c.args.source.now in
    let u = c.args.underlying in
    exit_by_first s (snapshot u d) (on_kind kind.Index s u) (snapshot_table (s.ledger.days u) d) (of_reading s.terms.listing s.ledger u d) refl c.from_residual.result _ c.from_residual.ensures.1 (sym c.in_err-index.ensures.is)

pub returns-in_err-round-clause-step : goal.returns-in_err-round-clause-step
returns-in_err-round-clause-step g c =
    let s : State = state_of g.B.Holds.held c.args.self.now in
    let d : Source = source_of g.D.Delta.answer g.D.PricedDelta.at g.D.PricedDelta.worth c.args.source.now in
    let u = c.args.underlying in
    let was = c.day-before.ensures ∙ ap s.ledger.days c.in_ok-index.ensures.number in
    let table = c.in_err-round.ensures.is ∙ ap (λ (day : Day). checked (snapshot_table day d)) was in
    exit_by_second s (snapshot u d) (on_kind kind.Index s u) (snapshot_table (s.ledger.days u) d) (of_reading s.terms.listing s.ledger u d) refl c.from_residual-in_err-round.result _ c.from_residual-in_err-round.ensures.1 (sym c.in_ok-index.ensures.is) (sym table)

pub returns-clause-step : goal.returns-clause-step
returns-clause-step g c =
    let s : State = state_of g.B.Holds.held c.args.self.now in
    let d : Source = source_of g.D.Delta.answer g.D.PricedDelta.at g.D.PricedDelta.worth c.args.source.now in
    let u = c.args.underlying in
    let num = c.in_ok-index.ensures.number in
    let was = c.day-before.ensures ∙ ap s.ledger.days num in
    let table = c.in_ok-round.ensures.is ∙ ap (λ (day : Day). checked (snapshot_table day d)) was in
    let round = c.in_ok-round.ensures.round in
    let rule = c.of.ensures ∙ ap rule_of round in
    let day = c.after-day.ensures ∙ (λ j. day_after (round j) (c.minute.ensures j) (was j)) in
    c.watch.ensures.step
    ∙ (λ j. watched_step (rule j) (day j) s (num j) d)
    ∙ by_decision s (snapshot u d) (on_kind kind.Index s u) (snapshot_table (s.ledger.days u) d) (of_reading s.terms.listing s.ledger u d) refl (sym c.in_ok-index.ensures.is) (sym table)
