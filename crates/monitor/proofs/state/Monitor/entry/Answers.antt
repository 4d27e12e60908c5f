use Rattle.std.proofs.Common.{ℕ, ◌*◌, ◌<◌, T, length, set, nat_abs, ℤ, None, Some, Ok, Option, sym, ap, ◌∙◌, subst, ap₂, le→leb, w64, SFits, rules}
use Rattle.std.proofs.lemmas.Int.{to_z-of_z}
use Rattle.terms.specs.declared.command.Trade.{Trade}
use Rattle.terms.specs.Bounds.{quantity_bound}
use Rattle.book.specs.Holding.{Holding, reply, posted}
use Rattle.book.proofs.Posts.{posted_declined}
use Rattle.book.proofs.Undo.{change_small}
use Rattle.model.specs.State.{State, with_book}
use Rattle.model.proofs.Steps.{entry_refused, entry_declined, entry_done}
use Rattle.monitor.specs.Modest.{modest}
use Rattle.monitor.specs.View.{tickets_of, state_of}
use Rattle.monitor.proofs.Same.{everywhere_at, at_set}
use Rattle.monitor.proofs.state.Monitor.entry.Goals as goal

pub returns-in_err-admits_entry-clause-step : goal.returns-in_err-admits_entry-clause-step
returns-in_err-admits_entry-clause-step g c =
    entry_refused (state_of g.B.Holds.held c.args.self.now) c.args.ticket c.args.trade c.from_residual.result _ c.from_residual.ensures.1 (sym c.in_err-admits_entry.ensures.is)

pub returns-in_err-quantity-clause-step : goal.returns-in_err-quantity-clause-step
returns-in_err-quantity-clause-step g c =
    let s : State = state_of g.B.Holds.held c.args.self.now in
    let d = c.args.trade in
    let f : SFits w64 d.change = search rules in
    let x = to_z-of_z w64 d.change f in
    let r = sym (c.in_err-quantity.ensures.answer ∙ ap (reply s.ledger.book d.member d.contract) x) in
    ap (λ (b : Holding). (c.from_residual-in_err-quantity.result, record { terms = s.terms; ledger = with_book s.ledger b; marks = s.marks }))
    (c.in_err-quantity.ensures.state ∙ ap (posted s.ledger.book d.member d.contract) x ∙ posted_declined s.ledger.book d.member d.contract d.change _ r)
    ∙ entry_declined s c.args.ticket d c.from_residual-in_err-quantity.result _ c.from_residual-in_err-quantity.ensures.1 (sym c.in_ok-admits_entry.ensures.is) r

pub invariant_of-self-2 : goal.invariant_of-self-2
invariant_of-self-2 g c =
    let s : State = state_of g.B.Holds.held c.args.self.now in
    let d = c.args.trade in
    let f : SFits w64 d.change = search rules in
    let r = sym (c.in_ok-quantity.ensures.answer ∙ ap (reply s.ledger.book d.member d.contract) (to_z-of_z w64 d.change f)) in
    let m : T (modest (Some d)) = le→leb (nat_abs d.change) (2 * quantity_bound) (change_small s.ledger.book d.member d.contract d.change _ (g.B.Holds.sound c.args.self.now.book.now) r) in
    let h : c.args.ticket < length c.args.self.now.inner.tickets = search rules in
    record {
      modest = λ k. subst (λ (t : ℕ → Option Trade). T (modest (t k))) (sym (at_set c.args.self.now.inner.tickets c.args.ticket (Some d) None h)) (everywhere_at (λ (o : Option Trade). T (modest o)) c.args.ticket (Some d) s.ledger.tickets c.args.self.now.modest m k);
    }

pub returns-clause-step : goal.returns-clause-step
returns-clause-step g c =
    let s : State = state_of g.B.Holds.held c.args.self.now in
    let d = c.args.trade in
    let q = c.in_ok-quantity.quantity in
    let f : SFits w64 d.change = search rules in
    let x = to_z-of_z w64 d.change f in
    let r = sym (c.in_ok-quantity.ensures.answer ∙ ap (reply s.ledger.book d.member d.contract) x) in
    let h : c.args.ticket < length c.args.self.now.inner.tickets = search rules in
    let told : SFits w64 q = search rules in
    ap (λ (z : ℤ). (Ok z, record { terms = s.terms; ledger = record { book = g.B.Holds.held c.post.new.self; base = s.ledger.base; tickets = tickets_of (set c.args.self.now.inner.tickets c.args.ticket (Some d)); days = s.ledger.days; stocks = s.ledger.stocks }; marks = s.marks })) (to_z-of_z w64 q told)
    ∙ ap₂ (λ (b : Holding) (t : ℕ → Option Trade). (Ok q, record { terms = s.terms; ledger = record { book = b; base = s.ledger.base; tickets = t; days = s.ledger.days; stocks = s.ledger.stocks }; marks = s.marks }))
    (c.in_ok-quantity.ensures.state ∙ ap (posted s.ledger.book d.member d.contract) x)
    (at_set c.args.self.now.inner.tickets c.args.ticket (Some d) None h)
    ∙ entry_done s c.args.ticket d q (sym c.in_ok-admits_entry.ensures.is) r
