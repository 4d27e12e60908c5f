use Rattle.std.proofs.Common.{ℕ, ◌<◌, Bool, List, ◌++◌, length, pos, Ok, sym, refl, ap, ◌∙◌, rules}
use Rattle.terms.specs.declared.kind.Underlying.TheVariants as kind
use Rattle.terms.specs.declared.refusal.Refusal.{Refusal}
use Rattle.rules.specs.Limit.{limit_asked}
use Rattle.model.specs.declared.parts.StockRecord.{StockRecord}
use Rattle.terms.specs.Causes.{Verdict, verdict_of}
use Rattle.model.specs.Causes.{kind_table}
use Rattle.model.specs.State.{State, Stock, at}
use Rattle.model.specs.Stocks.{with_limit}
use Rattle.model.specs.Calls.{Call, set_limit, closed_table}
use Rattle.model.proofs.Steps.{exit_by_table, by_none}
use Rattle.monitor.specs.View.{no_record, stock_in, state_of}
use Rattle.monitor.proofs.Same.{at_set_by}
use Rattle.monitor.proofs.Limited.{asked_is}
use Rattle.monitor.proofs.state.Monitor.set_limit.Goals as goal

-- the causes of a limit setting before its numbers are looked at
abbrev causes : State → ℕ → List (Bool × Refusal)
causes s u = closed_table s.terms ++ kind_table s.terms.listing kind.Stock u

pub returns-in_err-stock-clause-step : goal.returns-in_err-stock-clause-step
returns-in_err-stock-clause-step g c =
    let s : State = state_of g.B.Holds.held c.args.self.now in
    let k : Call = set_limit c.args.underlying c.args.free_float c.args.deliveries.now in
    let v : Verdict = verdict_of (limit_asked c.args.free_float c.args.deliveries.now) in
    exit_by_table s k (causes s c.args.underlying) v refl c.from_residual.result _ c.from_residual.ensures.1 (sym c.in_err-stock.ensures.is)

pub returns-clause-step : goal.returns-clause-step
returns-clause-step g c =
    let s : State = state_of g.B.Holds.held c.args.self.now in
    let u = c.args.underlying in
    let f = c.args.free_float in
    let ds = c.args.deliveries.now in
    let v : Verdict = verdict_of (limit_asked f ds) in
    let ks : List StockRecord = c.args.self.now.inner.stocks in
    let granted = c.in_ok-granted.granted in
    let n = c.in_ok-stock.ensures.number in
    let h : c.in_ok-stock.stock.number < length ks = search rules in
    ap (λ (x : ℕ → Stock). (Ok (pos 0), record { terms = s.terms; ledger = record { book = s.ledger.book; base = s.ledger.base; tickets = s.ledger.tickets; days = s.ledger.days; stocks = x }; marks = s.marks }))
    (at_set_by stock_in ks c.in_ok-stock.stock.number _ no_record h ∙ (λ j. at (n j) (with_limit (s.ledger.stocks (n j)) (asked_is f ds granted c.in_ok-granted.ensures.value j)) s.ledger.stocks))
    ∙ by_none s (set_limit u f ds) (causes s u) v refl (sym c.in_ok-stock.ensures.is) (ap verdict_of (sym c.in_ok-granted.ensures.value))
