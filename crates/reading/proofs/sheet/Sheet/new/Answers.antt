use Rattle.std.proofs.Common.{is_none, ℕ, ◌≤◌, Bool, ℤ, pos, nat_abs, Some, Option, sym, ap, ◌∙◌, subst, rules}
use Rattle.delta.specs.Sources.{delta_bound}
use Rattle.book.specs.Holding.{or_zero}
use Rattle.reading.specs.Sheets.{delta_in}
use Rattle.reading.proofs.Sheets.{filled, weightless, delta_small, weights, lacks}
use Rattle.reading.proofs.sheet.Sheet.new.Goals as goal

pub invariant_of-result : goal.invariant_of-result
invariant_of-result g c =
    let d = g.D.Delta.answer c.args.source.now in
    let cs = c.args.chain.contracts.now in
    let u = c.args.chain.underlying in
    let deltas = filled (delta_in cs u d) (search rules) c.from_fn.result _ c.from_fn.ensures.items (Some (pos 0)) (weightless cs u d) in
    record { bounded = λ k. subst (λ (f : ℕ → Option ℤ). nat_abs (or_zero (f k)) ≤ delta_bound) (sym deltas) (delta_small cs u d (g.D.Delta.lawful c.args.source.now) k) }

pub returns : goal.returns
returns g c =
    let d = g.D.Delta.answer c.args.source.now in
    let cs = c.args.chain.contracts.now in
    let u = c.args.chain.underlying in
    let deltas = filled (delta_in cs u d) (search rules) c.from_fn.result _ c.from_fn.ensures.items (Some (pos 0)) (weightless cs u d) in
    record {
      weights = ap {B = ℕ → ℤ} (λ (f : ℕ → Option ℤ) k. or_zero (f k)) deltas ∙ weights cs u d;
      lacking = ap {B = ℕ → Bool} (λ (f : ℕ → Option ℤ) k. is_none (f k)) deltas ∙ lacks cs u d;
    }
