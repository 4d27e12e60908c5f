use Rattle.std.proofs.Common.{◌≡◌, ℕ, ◌<◌, [], length, set, ℤ, None, Some, Ok, Option, sym, refl, ap, ◌∙◌, ap₂, w64, SFits, rules}
use Rattle.std.proofs.lemmas.Int.{to_z-of_z}
use Rattle.terms.specs.declared.command.Trade.{Trade}
use Rattle.terms.specs.declared.refusal.Refusal.TheVariants.{Closed}
use Rattle.book.specs.Holding.{Holding}
use Rattle.model.specs.Opening.{is_open}
use Rattle.model.specs.State.{State}
use Rattle.model.specs.Calls.{confirm, closed_table, ticket_at}
use Rattle.model.proofs.Steps.{exit_by_table, confirm_done}
use Rattle.monitor.specs.View.{tickets_of, state_of}
use Rattle.monitor.proofs.Open.{is_open_by}
use Rattle.monitor.proofs.Same.{at_set}
use Rattle.monitor.proofs.state.Monitor.confirm.Goals as goal

pub returns-in_err-opened-clause-step : goal.returns-in_err-opened-clause-step
returns-in_err-opened-clause-step g c =
    let s : State = state_of g.B.Holds.held c.args.self.now in
    exit_by_table s (confirm c.args.ticket) (closed_table s.terms) _ refl c.from_residual.result _ c.from_residual.ensures.1 (sym c.in_err-opened.ensures)

pub returns-clause-step : goal.returns-clause-step
returns-clause-step g c =
    let s : State = state_of g.B.Holds.held c.args.self.now in
    let k = c.args.ticket in
    let d = c.in-Some-Some.trade in
    let q = c.in_ok-quantity.quantity in
    let h : k < length c.args.self.now.inner.tickets = search rules in
    let told : SFits w64 q = search rules in
    let held : ticket_at s.ledger k ≡ Some d = search rules in
    ap (λ (z : ℤ). (Ok z, record { terms = s.terms; ledger = record { book = g.B.Holds.held c.transfer.new.book; base = s.ledger.base; tickets = tickets_of (set c.args.self.now.inner.tickets k None); days = s.ledger.days; stocks = s.ledger.stocks }; marks = s.marks })) (to_z-of_z w64 q told)
    ∙ ap₂ (λ (b : Holding) (t : ℕ → Option Trade). (Ok q, record { terms = s.terms; ledger = record { book = b; base = s.ledger.base; tickets = t; days = s.ledger.days; stocks = s.ledger.stocks }; marks = s.marks }))
    c.in_ok-quantity.ensures.state
    (at_set c.args.self.now.inner.tickets k None None h)
    ∙ confirm_done s (sym (is_open_by (is_open s.terms) Closed [] c.in_ok-opened.ensures)) k d held q (sym c.in_ok-quantity.ensures.answer)
