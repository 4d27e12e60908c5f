use Rattle.std.proofs.Common.{◌≡◌, ◌-◌, ◌+◌, arith, ap, ◌∙◌, drop}
use Rattle.text.specs.Words.{to_come}
use Rattle.tails.proofs.Steps.{drop_one}
use Rattle.tails.proofs.skip.Goals as goal

pub loop-preserved : goal.loop-preserved
loop-preserved c =
    let less : c.args.n - (c.loop.counter + 1) ≡ c.args.n - c.loop.counter - 1 = omega arith in (
      omega arith,
      ap (λ k. drop k (to_come c.next.new.self)) less ∙ drop_one _ _ _ _ (omega arith) c.next.ensures.steps ∙ c.loop.invariant.1,
    )
