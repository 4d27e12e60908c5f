use Rattle.std.proofs.Common.{[], sym, refl, ap, ◌∙◌, ap₂, w64}
use Rattle.std.proofs.lemmas.Int.{to_z-of_z}
use Rattle.terms.specs.declared.refusal.Refusal.TheVariants.{Closed}
use Rattle.book.specs.Holding.{Holding, reply, posted}
use Rattle.model.specs.Causes.{Answer}
use Rattle.model.specs.Opening.{is_open}
use Rattle.model.specs.State.{State, with_book}
use Rattle.model.specs.Calls.{post, closed_table}
use Rattle.model.proofs.Steps.{step_post, exit_by_table}
use Rattle.monitor.specs.View.{state_of}
use Rattle.monitor.proofs.Open.{is_open_by}
use Rattle.monitor.proofs.state.Monitor.post.Goals as goal

pub returns-in_err-opened-clause-step : goal.returns-in_err-opened-clause-step
returns-in_err-opened-clause-step g c =
    let s : State = state_of g.B.Holds.held c.args.self.now in
    exit_by_table s (post c.args.entity c.args.contract c.args.change) (closed_table s.terms) _ refl c.from_residual.result _ c.from_residual.ensures.1 (sym c.in_err-opened.ensures)

pub returns-clause-step : goal.returns-clause-step
returns-clause-step g c =
    let s : State = state_of g.B.Holds.held c.args.self.now in
    let e = c.args.entity in
    let k = c.args.contract in
    let x = to_z-of_z w64 c.args.change c.ranges.change in
    ap₂ (λ (a : Answer) (b : Holding). (a, record { terms = s.terms; ledger = with_book s.ledger b; marks = s.marks }))
    (c.post.ensures.answer ∙ ap (reply s.ledger.book e k) x)
    (c.post.ensures.state ∙ ap (posted s.ledger.book e k) x)
    ∙ step_post s (sym (is_open_by (is_open s.terms) Closed [] c.in_ok-opened.ensures)) e k c.args.change
