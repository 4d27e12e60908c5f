use Rattle.std.proofs.Common.{◌≡◌, ℕ, min, ℤ, pos, Ok, ap, ◌∙◌, arith, rules, w64, SFits}
use Rattle.std.proofs.lemmas.Int.{to_z-of_z}
use Rattle.terms.specs.Bounds.{most_entities}
use Rattle.delta.specs.Sources.{Source, source_of}
use Rattle.stock.specs.Close.{base_of}
use Rattle.index.specs.Calls.{judged_by, told_by}
use Rattle.index.specs.Sweeps.{swept, told_count}
use Rattle.index.proofs.Table.{rows_by_table, told_by_table}
use Rattle.index.specs.declared.mark.MarkRow.{MarkRow}
use Rattle.terms.specs.declared.mark.Mark.{Mark}
use Rattle.terms.specs.Causes.{Verdict}
use Rattle.model.specs.Indices.{watched, watched_count}
use Rattle.model.specs.Readings.{weights}
use Rattle.model.specs.State.{State, Quantities, at, with_day}
use Rattle.model.specs.Calls.{decided}
use Rattle.monitor.specs.View.{state_of, tickets_of, stocks_of}
use Rattle.monitor.proofs.state.Monitor.watch.Goals as goal

pub returns-clause-step : goal.returns-clause-step
returns-clause-step g c =
    let s : State = state_of g.B.Holds.held c.args.self.now in
    let d : Source = source_of g.D.Delta.answer g.D.PricedDelta.at g.D.PricedDelta.worth c.args.source.now in
    let u = c.args.index.number in
    let rule = c.args.rule in
    let n : ℕ = s.terms.listing.entities in
    let q : Quantities = s.ledger.book.at in
    let w : ℕ → ℤ = weights s.terms.listing u d in
    let rows : ℕ → Mark → MarkRow = s.marks u in
    let few : min n most_entities ≡ n = omega (arith, c.requires) in
    let table = c.in_ok-readings.ensures.table in
    let t = c.judge_index.ensures in
    let fits : SFits w64 c.judge_index.result = search rules in
    let told =
    to_z-of_z w64 c.judge_index.result fits
    ∙ t.told
    ∙ (λ j. pos (told_count (few j) (told_by rule s.terms.limits (c.price.ensures j) (table j)) rows))
    ∙ ap pos (told_by_table n w q rule s.terms.limits d.price rows) in
    let marks =
    t.marks
    ∙ (λ j. at u (swept (few j) (judged_by rule s.terms.limits (c.price.ensures j) (table j)) rows) s.marks)
    ∙ ap (λ (r : ℕ → Mark → MarkRow). at u r s.marks) (rows_by_table n w q rule s.terms.limits d.price rows) in
    let new : State = record { terms = s.terms; ledger = with_day s.ledger u c.args.day; marks = watched rule s.terms q s.marks u d } in
    (λ j. (Ok (told j), record { terms = s.terms; ledger = record { book = s.ledger.book; base = base_of (t.rest.0 j).cells; tickets = tickets_of (t.rest.1 j); days = t.days j; stocks = stocks_of (t.rest.2 j) }; marks = marks j }))
    ∙ ap (λ (v : Verdict). decided v (pos (watched_count rule s.terms q s.marks u d)) s new) c.in_ok-readings.ensures.is
