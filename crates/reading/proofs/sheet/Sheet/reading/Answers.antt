use Rattle.std.proofs.Common.{◌≡◌, ◌∙◌, arith}
use Rattle.terms.specs.Bounds.{most_contracts}
use Rattle.reading.proofs.Turns.{net_turn, up_turn, net_same, long_same, nets_end, longs_end, shorts_end}
use Rattle.reading.proofs.sheet.Sheet.reading.Goals as goal
use Rattle.reading.proofs.sheet.Sheet.reading.Goals.{in-Some, in_default}

pub overflow_add-net : goal.overflow_add-net
overflow_add-net g c =
    (net_turn (g.H.Holds.held c.args.holder.now) c.args.self.now (g.H.Holds.sound c.args.holder.now) c.args.entity c.loop-c.c c.loop-c-test.true _ c.in-Some.part c.loop-c.invariant.0 c.in-Some.ensures).fits

pub overflow_add-long : goal.overflow_add-long
overflow_add-long g c =
    (up_turn (g.H.Holds.held c.args.holder.now) c.args.self.now (g.H.Holds.sound c.args.holder.now) c.args.entity c.loop-c.c c.loop-c-test.true _ c.in-Some.part c.max-long.result c.loop-c.invariant.1 c.in-Some.ensures c.max-long.ensures.value).fits

pub loop-c-preserved : goal.loop-c-preserved
loop-c-preserved g c =
    let b = g.H.Holds.held c.args.holder.now in
    let s = c.args.self.now in
    let sound = g.H.Holds.sound c.args.holder.now in
    elim c.match-part.branch [
      | in-Some w ↦ (
        w.net-is ∙ (net_turn b s sound c.args.entity c.loop-c.c c.loop-c-test.true _ w.in-Some.part c.loop-c.invariant.0 w.in-Some.ensures).is,
        w.long-is ∙ (up_turn b s sound c.args.entity c.loop-c.c c.loop-c-test.true _ w.in-Some.part w.max-long.result c.loop-c.invariant.1 w.in-Some.ensures w.max-long.ensures.value).is,
      )
      | in_default w ↦ (
        w.net-is ∙ net_same b s sound c.args.entity c.loop-c.c _ c.loop-c.invariant.0 w.in_default.ensures,
        w.long-is ∙ long_same b s sound c.args.entity c.loop-c.c _ c.loop-c.invariant.1 w.in_default.ensures,
      )
    ]

pub overflow_sub-result : goal.overflow_sub-result
overflow_sub-result g c =
    let b = g.H.Holds.held c.args.holder.now in
    let s = c.args.self.now in
    let sound = g.H.Holds.sound c.args.holder.now in
    let l : c.loop-c.c ≡ most_contracts = omega arith in
    let x = nets_end b s sound c.args.entity c.loop-c.c l _ c.loop-c.invariant.0 in
    let y = longs_end b s sound c.args.entity c.loop-c.c l _ c.loop-c.invariant.1 in
    (shorts_end b s sound c.args.entity _ _ x y).fits

pub returns : goal.returns
returns g c =
    let b = g.H.Holds.held c.args.holder.now in
    let s = c.args.self.now in
    let sound = g.H.Holds.sound c.args.holder.now in
    let l : c.loop-c.c ≡ most_contracts = omega arith in
    let x = nets_end b s sound c.args.entity c.loop-c.c l _ c.loop-c.invariant.0 in
    let y = longs_end b s sound c.args.entity c.loop-c.c l _ c.loop-c.invariant.1 in
    let z = (shorts_end b s sound c.args.entity _ _ x y).is in
    cc (x, y, z)
