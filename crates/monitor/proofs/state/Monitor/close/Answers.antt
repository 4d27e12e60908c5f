use Rattle.std.proofs.Common.{◌≡◌, ℕ, ◌≤◌, Bool, List, ◌++◌, pos, Ok, sym, refl, ap, ◌∙◌, subst, le_trans, arith, w64, to_z}
use Rattle.std.proofs.lemmas.Int.{ints}
use Rattle.terms.specs.Bounds.{most_entities}
use Rattle.terms.specs.declared.refusal.Refusal.{Refusal}
use Rattle.terms.specs.declared.kind.Underlying.TheVariants as kind
use Rattle.delta.specs.Sources.{Source, source_of}
use Rattle.reading.specs.Readings.{interest}
use Rattle.reading.specs.Sheets.{within, lacks_delta}
use Rattle.stock.specs.Close.{closed_base, charged_count}
use Rattle.model.specs.declared.parts.StockRecord.{StockRecord}
use Rattle.terms.specs.Causes.{Verdict, unless, checked}
use Rattle.model.specs.Causes.{kind_table}
use Rattle.model.specs.State.{State, Quantities, at}
use Rattle.model.specs.Stocks.{close_table, delta_verdict, of_deltas, turn_by, turn_at, turned}
use Rattle.model.specs.Calls.{close, closed_table}
use Rattle.model.proofs.Steps.{unless_err, unless_ok, exit_by_table, exit_by_rest, by_none}
use Rattle.monitor.specs.View.{state_of, tickets_of, days_of, marks_of, stock_in}
use Rattle.monitor.proofs.Open.{count_few}
use Rattle.monitor.proofs.state.Monitor.close.Given as given
use Rattle.monitor.proofs.state.Monitor.close.Goals as goal

-- the causes of a close that any call on a stock has
abbrev causes : State → ℕ → List (Bool × Refusal)
causes s u = closed_table s.terms ++ kind_table s.terms.listing kind.Stock u

-- and the rest of them
abbrev others : State → ℕ → Source → Source → Verdict
others s u two d = unless (close_table (s.ledger.stocks u) two d) (of_deltas s.terms.listing s.ledger u two d)

pub returns-in_err-stock-clause-step : goal.returns-in_err-stock-clause-step
returns-in_err-stock-clause-step g c =
    let s : State = state_of g.B.Holds.held c.args.self.now in
    let two : Source = source_of g.D.Delta.answer g.D.PricedDelta.at g.D.PricedDelta.worth c.args.two.now in
    let d : Source = source_of g.D.Delta.answer g.D.PricedDelta.at g.D.PricedDelta.worth c.args.closing.now in
    let u = c.args.underlying in
    exit_by_table s (close u two d) (causes s u) (others s u two d) refl c.from_residual.result _ c.from_residual.ensures.1 (sym c.in_err-stock.ensures.is)

pub returns-in_err-admits_close-clause-step : goal.returns-in_err-admits_close-clause-step
returns-in_err-admits_close-clause-step g c =
    let s : State = state_of g.B.Holds.held c.args.self.now in
    let two : Source = source_of g.D.Delta.answer g.D.PricedDelta.at g.D.PricedDelta.worth c.args.two.now in
    let d : Source = source_of g.D.Delta.answer g.D.PricedDelta.at g.D.PricedDelta.worth c.args.closing.now in
    let u = c.args.underlying in
    let table = c.in_err-admits_close.ensures ∙ ap (λ (k : StockRecord). checked (close_table (stock_in k) two d)) c.stock.ensures ∙ ap (λ (i : ℕ). checked (close_table (s.ledger.stocks i) two d)) c.in_ok-stock.ensures.number in
    exit_by_rest s (close u two d) (causes s u) (others s u two d) refl c.from_residual-in_err-admits_close.result _ c.from_residual-in_err-admits_close.ensures.1 (sym c.in_ok-stock.ensures.is)
    (unless_err (close_table (s.ledger.stocks u) two d) (of_deltas s.terms.listing s.ledger u two d) _ (sym table))

pub returns-in_err-admits_deltas-clause-step : goal.returns-in_err-admits_deltas-clause-step
returns-in_err-admits_deltas-clause-step g c =
    let s : State = state_of g.B.Holds.held c.args.self.now in
    let two : Source = source_of g.D.Delta.answer g.D.PricedDelta.at g.D.PricedDelta.worth c.args.two.now in
    let d : Source = source_of g.D.Delta.answer g.D.PricedDelta.at g.D.PricedDelta.worth c.args.closing.now in
    let u = c.args.underlying in
    let table = c.in_ok-admits_close.ensures ∙ ap (λ (k : StockRecord). checked (close_table (stock_in k) two d)) c.stock.ensures ∙ ap (λ (i : ℕ). checked (close_table (s.ledger.stocks i) two d)) c.in_ok-stock.ensures.number in
    let deltas = c.in_err-admits_deltas.ensures ∙ (λ j. delta_verdict s.terms.listing.entities s.ledger (c.stock-2.ensures j).banned (c.sheet-at_two.ensures.lacking j) (c.sheet-at_close.ensures.lacking j)) ∙ ap (λ (i : ℕ). delta_verdict s.terms.listing.entities s.ledger (s.ledger.stocks i).ban (lacks_delta s.terms.listing.contracts u two.delta) (lacks_delta s.terms.listing.contracts u d.delta)) c.in_ok-stock.ensures.number in
    exit_by_rest s (close u two d) (causes s u) (others s u two d) refl c.from_residual-in_err-admits_deltas.result _ c.from_residual-in_err-admits_deltas.ensures.1 (sym c.in_ok-stock.ensures.is)
    (unless_ok (close_table (s.ledger.stocks u) two d) (of_deltas s.terms.listing s.ledger u two d) (sym table) ∙ sym deltas)

-- no more are charged than there are entities
charged_few : (g : given.Over) (c : goal.After-self-1 g) → c.close_stock-charged.result ≤ most_entities
charged_few g c =
    let s : State = state_of g.B.Holds.held c.args.self.now in
    subst (λ (m : ℕ). m ≤ most_entities) (sym c.close_stock-charged.ensures.count) (le_trans (count_few s.terms.listing.entities _) c.in_ok-stock.ensures.entities)

pub overflow_cast-result : goal.overflow_cast-result
overflow_cast-result g c =
    let few = charged_few g c in
    omega (arith, ints)

pub returns-clause-step : goal.returns-clause-step
returns-clause-step g c =
    let s : State = state_of g.B.Holds.held c.args.self.now in
    let two : Source = source_of g.D.Delta.answer g.D.PricedDelta.at g.D.PricedDelta.worth c.args.two.now in
    let d : Source = source_of g.D.Delta.answer g.D.PricedDelta.at g.D.PricedDelta.worth c.args.closing.now in
    let u = c.args.underlying in
    let n : ℕ = s.terms.listing.entities in
    let q : Quantities = s.ledger.book.at in
    let old : Quantities = s.ledger.base in
    let wt = c.sheet-at_two.ensures.weights in
    let wc = c.sheet-at_close.ensures.weights in
    let cs = c.chain.ensures.contracts in
    let us = c.chain.ensures.underlying in
    let num = c.in_ok-stock.ensures.number in
    let t = c.close_stock-charged.ensures in
    let turn : c.turn_by-turn.result ≡ turn_at s.terms.listing s.ledger u d =
    c.turn_by-turn.ensures
    ∙ (λ j. turn_by (stock_in (c.stock-3.ensures j)) (c.interest-interest.ensures j))
    ∙ (λ j. turn_by (s.ledger.stocks (num j)) (interest n (wc j) q)) in
    let count = t.count ∙ (λ j. charged_count n (turn j) (wt j) old q) in
    let base = t.base ∙ (λ j. closed_base n (within (cs j) (us j)) (turn j) (wt j) old q) in
    let stocks = t.stocks ∙ (λ j. at (num j) (turned n (turn j) (wt j) old q (c.price.ensures j) (s.ledger.stocks (num j))) s.ledger.stocks) in
    let few = charged_few g c in
    let number : to_z w64 c.close_stock-charged.result ≡ pos c.close_stock-charged.result = omega (arith, ints) in
    let table = c.in_ok-admits_close.ensures ∙ ap (λ (k : StockRecord). checked (close_table (stock_in k) two d)) c.stock.ensures ∙ ap (λ (i : ℕ). checked (close_table (s.ledger.stocks i) two d)) c.in_ok-stock.ensures.number in
    let deltas = c.in_ok-admits_deltas.ensures ∙ (λ j. delta_verdict n s.ledger (c.stock-2.ensures j).banned (c.sheet-at_two.ensures.lacking j) (c.sheet-at_close.ensures.lacking j)) ∙ ap (λ (i : ℕ). delta_verdict s.terms.listing.entities s.ledger (s.ledger.stocks i).ban (lacks_delta s.terms.listing.contracts u two.delta) (lacks_delta s.terms.listing.contracts u d.delta)) c.in_ok-stock.ensures.number in
    (λ j. (Ok ((number ∙ ap pos count) j), record { terms = s.terms; ledger = record { book = s.ledger.book; base = base j; tickets = tickets_of (t.rest.0 j); days = days_of (t.rest.1 j); stocks = stocks j }; marks = marks_of (t.rest.1 j) }))
    ∙ by_none s (close u two d) (causes s u) (others s u two d) refl (sym c.in_ok-stock.ensures.is)
    (unless_ok (close_table (s.ledger.stocks u) two d) (of_deltas s.terms.listing s.ledger u two d) (sym table) ∙ sym deltas)
