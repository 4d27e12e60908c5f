use Rattle.std.proofs.Common.{rules, ◌≡◌, ◌+◌, ◌-◌, ◌*◌, ◌/◌, ◌≤◌, ap, ◌∙◌, length, arith}
use Rattle.std.proofs.lemmas.List.{length-drop}
use Rattle.book.proofs.Rows.{halved, quartered}
use Rattle.book.proofs.register.last_reached.Given as given
use Rattle.book.proofs.register.last_reached.Goals as goal

-- the step leads no farther than the rows
module _ (g : given.Over) (c : goal.After-reached-in-quarters-2 g) where
  within : c.quarters.base + c.quarters.size / 4 * (c.reached.result + c.reached-in-quarters.result + c.reached-in-quarters-2.result) + (c.quarters.size - 3 * (c.quarters.size / 4)) ≤ length c.args.rows.now
  within = (quartered c.args.rows.now c.args.key c.quarters.base c.quarters.size c.requires.order c.quarters.invariant.0 c.quarters.rest.now c.quarters.invariant.1 c.index-rest-quarter.result c.index-rest-quarter.result c.index-rest-quarter-in-quarters.result c.index-rest-quarter-in-quarters-2.result c.quarters-test.true _ _ _ c.reached.ensures c.reached-in-quarters.ensures c.reached-in-quarters-2.ensures).0.within

  long : length c.quarters.rest.now ≡ length c.args.rows.now - c.quarters.base
  long = ap length c.quarters.invariant.1 ∙ length-drop c.quarters.base c.args.rows.now

pub overflow_mul-step : goal.overflow_mul-step
overflow_mul-step g c = omega (arith, within g c, long g c)

pub offset_bounds-rest-step : goal.offset_bounds-rest-step
offset_bounds-rest-step g c = omega (arith, within g c, long g c)

pub slice_bounds-rest-count : goal.slice_bounds-rest-count
slice_bounds-rest-count g c = omega (arith, within g c, long g c)

pub slice_bounds-rest-start : goal.slice_bounds-rest-start
slice_bounds-rest-start g c = search (rules, within g c, long g c)

pub overflow_add-base : goal.overflow_add-base
overflow_add-base g c = omega (arith, within g c.before)

pub quarters-preserved : goal.quarters-preserved
quarters-preserved g c =
    quartered c.args.rows.now c.args.key c.quarters.base c.quarters.size c.requires.order c.quarters.invariant.0 c.quarters.rest.now c.quarters.invariant.1 c.index-rest-quarter.result c.index-rest-quarter.result c.index-rest-quarter-in-quarters.result c.index-rest-quarter-in-quarters-2.result c.quarters-test.true _ _ _ c.reached.ensures c.reached-in-quarters.ensures c.reached-in-quarters-2.ensures

pub halves-preserved : goal.halves-preserved
halves-preserved g c =
    halved c.args.rows.now c.args.key c.halves.base c.halves.size c.requires.order c.halves.invariant.0 c.halves.rest.now c.halves.invariant.1 c.index-rest-half.result c.index-rest-half.result c.halves-test.true _ c.reached-in-halves.ensures
