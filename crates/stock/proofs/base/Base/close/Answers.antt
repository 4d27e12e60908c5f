use Rattle.std.proofs.Common.{◌≡◌, ℕ, ◌<◌, min, not, ◌&&◌, is_some, Option, length, refl, ap, ◌∙◌, subst, arith, rules, length-set}
use mir.Val.{bool_byte}
use Rattle.terms.specs.Bounds.{most_entities}
use Rattle.reading.specs.Sheets.{within}
use Rattle.reading.specs.Views.{weights_of}
use Rattle.stock.specs.declared.violation.Violation.{Violation}
use Rattle.stock.specs.Close.{judges, obeys, closed_base, closed_violated, closed_charge, charged_count, base_of, quantity_or_zero, charge_or_zero}
use Rattle.stock.proofs.Moves.{each, no_row, row_more, quantities, charges, charged, no_base, found_same, base_more, charged_more, charged_few, byte_le}
use Rattle.stock.proofs.base.Base.close.Goals as goal

pub loop-e-init : goal.loop-e-init
loop-e-init g c =
    let t = c.args.closing.turn in
    let w = weights_of c.args.closing.two.now in
    let old = base_of c.args.self.now.cells in
    let book = (g.B.Holds.held c.args.book.now).at in (
      no_base (within c.args.closing.chain.contracts.now c.args.closing.chain.underlying) t w old book,
      no_row (each t w old book c.args.closing.price) most_entities,
      search rules,
      refl,
    )

pub overflow_add-count : goal.overflow_add-count
overflow_add-count g c =
    let w = weights_of c.args.closing.two.now in
    let old = base_of c.args.self.now.cells in
    let book = (g.B.Holds.held c.args.book.now).at in
    let n = charged_few (λ e. judges c.args.closing.turn && not (obeys w old book e)) c.loop-e.e in
    let b = byte_le c.is_some-charged.result in
    omega (arith, c.loop-e.invariant.3, c.from-count.ensures)

pub loop-e-preserved : goal.loop-e-preserved
loop-e-preserved g c =
    let s = within c.args.closing.chain.contracts.now c.args.closing.chain.underlying in
    let t = c.args.closing.turn in
    let w = weights_of c.args.closing.two.now in
    let old = base_of c.args.self.now.cells in
    let book = (g.B.Holds.held c.args.book.now).at in
    let price = c.args.closing.price in
    let i = c.loop-e.e in
    let q = base_of c.loop-e.self.cells in
    let v = each t w old book price in
    let r : c.judge-violation.result ≡ v i = c.judge-violation.ensures ∙ found_same s t w old book i q c.loop-e.invariant.0 price in
    let b : c.is_some-charged.result ≡ (judges t && not (obeys w old book i)) = c.is_some-charged.ensures ∙ ap is_some r ∙ charged t w old book price i in
    let in_v : i < length c.loop-e.violations = omega (arith, c.loop-e.invariant.2) in (
      base_more s t w old book i q c.loop-e.invariant.0 _ _ b c.close_entity.ensures,
      row_more v c.loop-e.violations i _ in_v r c.loop-e.invariant.1,
      length-set c.loop-e.violations i _ ∙ c.loop-e.invariant.2,
      charged_more (λ e. judges t && not (obeys w old book e)) i _ _ c.loop-e.invariant.3 (c.from-count.ensures ∙ ap bool_byte b),
    )

pub returns : goal.returns
returns g c =
    let s = within c.args.closing.chain.contracts.now c.args.closing.chain.underlying in
    let t = c.args.closing.turn in
    let w = weights_of c.args.closing.two.now in
    let old = base_of c.args.self.now.cells in
    let book = (g.B.Holds.held c.args.book.now).at in
    let price = c.args.closing.price in
    let last : c.loop-e.e ≡ c.min-e-end.result = omega arith in
    let all : c.loop-e.e ≡ min c.args.entities most_entities = last ∙ c.min-e-end.ensures in
    let row = c.loop-e.invariant.1 in
    record {
      base = subst (λ n. base_of c.loop-e.self.cells ≡ closed_base n s t w old book) all c.loop-e.invariant.0;
      violated = ap {B = ℕ → ℕ} (λ (r : ℕ → Option Violation) e. quantity_or_zero (r e)) row ∙ quantities t w old book price c.loop-e.e ∙ ap (λ n. closed_violated n t w old book) all;
      charges = ap {B = ℕ → ℕ} (λ (r : ℕ → Option Violation) e. charge_or_zero (r e)) row ∙ charges t w old book price c.loop-e.e ∙ ap (λ n. closed_charge n t w old book price) all;
      count = subst (λ n. c.loop-e.count ≡ charged_count n t w old book) all c.loop-e.invariant.3;
    }
