use Rattle.std.proofs.Common.{Ok, sym, refl, ap, ◌∙◌}
use Rattle.terms.specs.declared.kind.Underlying.TheVariants as kind
use Rattle.cover.specs.Covers.{Amounts}
use Rattle.index.specs.declared.day.Day.{Day}
use Rattle.terms.specs.Causes.{checked}
use Rattle.model.specs.Indices.{settlement_table}
use Rattle.model.specs.State.{State}
use Rattle.model.specs.Calls.{settle}
use Rattle.model.proofs.Steps.{on_kind, exit_by_first, exit_by_second}
use Rattle.monitor.specs.View.{state_of}
use Rattle.monitor.proofs.state.Monitor.settle.Goals as goal

pub returns-in_err-index-clause-step : goal.returns-in_err-index-clause-step
returns-in_err-index-clause-step g c =
    let s : State = state_of g.B.Holds.held c.args.self.now in
    let amounts : Amounts = g.C.Cover.amount c.args.cover.now in
    let u = c.args.underlying in
    exit_by_first s (settle u amounts) (on_kind kind.Index s u) (settlement_table (s.ledger.days u)) (Ok tt) refl c.from_residual.result _ c.from_residual.ensures.1 (sym c.in_err-index.ensures.is)

pub returns-in_err-admits_settlement-clause-step : goal.returns-in_err-admits_settlement-clause-step
returns-in_err-admits_settlement-clause-step g c =
    let s : State = state_of g.B.Holds.held c.args.self.now in
    let amounts : Amounts = g.C.Cover.amount c.args.cover.now in
    let u = c.args.underlying in
    let was = c.day-before.ensures ∙ ap s.ledger.days c.in_ok-index.ensures.number in
    let table = c.in_err-admits_settlement.ensures ∙ ap (λ (day : Day). checked (settlement_table day)) was in
    exit_by_second s (settle u amounts) (on_kind kind.Index s u) (settlement_table (s.ledger.days u)) (Ok tt) refl c.from_residual-in_err-admits_settlement.result _ c.from_residual-in_err-admits_settlement.ensures.1 (sym c.in_ok-index.ensures.is) (sym table)
