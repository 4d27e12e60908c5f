use Rattle.std.proofs.Common.{◌≡◌, ℕ, ◌≤◌, Bool, min, List, ℤ, Ok, Some, None, Option, sym, ap, ◌∙◌, arith}
use Rattle.terms.specs.Bounds.{most_entities}
use Rattle.reading.specs.Missing.{holds, missing}
use Rattle.reading.specs.Readings.{reading_of}
use Rattle.reading.specs.Sums.{first_below}
use Rattle.index.proofs.Table.{large_by_table}
use Rattle.index.specs.Values.{is_too_large, reading_in, readings_below}
use Rattle.model.specs.Causes.{unless_missing, unless_too_large}
use Rattle.model.specs.Indices.{reading_verdict}
use Rattle.model.specs.State.{Quantities}
use Rattle.model.proofs.Steps.{unless_missing_ok}
use Rattle.monitor.proofs.state.Monitor.index_readings.Goals as goal

-- where no delta is missing, what a table finds too large decides
by_table : (n : ℕ) (lacks : ℕ → Bool) (w : ℕ → ℤ) (q : Quantities) (price : ℕ) (table : List (ℤ × ℤ × ℤ)) (found : Option ℕ) → n ≤ most_entities → Ok tt ≡ unless_missing (missing n lacks (holds q)) (Ok tt) → reading_in table ≡ readings_below (min n most_entities) w q → found ≡ first_below (min n most_entities) (λ e. is_too_large (reading_in table e) price) → unless_too_large found (Ok tt) ≡ reading_verdict n q lacks (reading_of w q) price
by_table n lacks w q price table found few none_missing is large =
    let all : min n most_entities ≡ n = omega (arith, few) in
    ap (λ (o : Option ℕ). unless_too_large o (Ok tt)) (large ∙ (λ j. first_below (all j) (λ e. is_too_large ((is ∙ ap (λ k. readings_below k w q) all) j e) price)) ∙ large_by_table n w q price)
    ∙ sym (unless_missing_ok (missing n lacks (holds q)) _ (sym none_missing))

pub returns-in-None-clause-is : goal.returns-in-None-clause-is
returns-in-None-clause-is g c =
    by_table _ _ _ _ _ c.readings-table.result None c.requires c.in_ok-none_missing.ensures c.readings-table.ensures c.in-None.ensures
    ∙ (λ j. reading_verdict c.args.self.now.fixed.terms.listing.entities (g.B.Holds.held c.args.self.now.book.now).at (c.sheet-sheet.ensures.lacking j) (reading_of (c.sheet-sheet.ensures.weights j) (g.B.Holds.held c.args.self.now.book.now).at) (c.price.ensures j))

pub returns-in-Some-clause-is : goal.returns-in-Some-clause-is
returns-in-Some-clause-is g c =
    by_table _ _ _ _ _ c.readings-table.result (Some c.in-Some.entity) c.requires c.in_ok-none_missing.ensures c.readings-table.ensures c.in-Some.ensures
    ∙ (λ j. reading_verdict c.args.self.now.fixed.terms.listing.entities (g.B.Holds.held c.args.self.now.book.now).at (c.sheet-sheet.ensures.lacking j) (reading_of (c.sheet-sheet.ensures.weights j) (g.B.Holds.held c.args.self.now.book.now).at) (c.price.ensures j))
