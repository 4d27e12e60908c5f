use Rattle.std.proofs.Common.{◌≡◌, ◌<◌, length, ap, ◌∙◌, arith, length-set}
use Rattle.terms.specs.declared.mark.Mark.{Mark}
use Rattle.index.specs.declared.mark.MarkRow.{MarkRow}
use Rattle.index.specs.Sweeps.{rows_in, tally}
use Rattle.index.proofs.Sweeps.{tally_small, told_more, told_small, unreached, more}
use Rattle.index.proofs.sweep.sweep.Goals as goal

pub overflow_add-told : goal.overflow_add-told
overflow_add-told g c =
    let tells = g.J.Judge.tells c.args.judge.now in
    let old = rows_in c.args.rows.now in
    let i = c.loop-e.e in
    let a = told_small tells old i in
    let b = tally_small (λ m. tells i m (rows_in c.loop-e.rows i m)) in
    omega (arith, a, b, c.loop-e.invariant.2, c.judge_four-told.ensures.told)

pub loop-e-preserved : goal.loop-e-preserved
loop-e-preserved g c =
    let judged = g.J.Judge.judged c.args.judge.now in
    let tells = g.J.Judge.tells c.args.judge.now in
    let old = rows_in c.args.rows.now in
    let i = c.loop-e.e in
    let same = unreached judged old i (rows_in c.loop-e.rows) c.loop-e.invariant.0 in
    let in_rows : i < length c.loop-e.rows = omega (arith, c.loop-e.invariant.1) in
    let told : c.judge_four-told.result ≡ tally (λ m. tells i m (old i m)) = c.judge_four-told.ensures.told ∙ ap (λ (r : Mark → MarkRow). tally (λ m. tells i m (r m))) same in (
      more judged old c.loop-e.rows i _ in_rows
          (c.judge_four-told.ensures.rows ∙ ap {B = Mark → MarkRow} (λ (r : Mark → MarkRow) (m : Mark). judged i m (r m)) same)
          c.loop-e.invariant.0,
      length-set c.loop-e.rows i _ ∙ c.loop-e.invariant.1,
      omega (arith, c.loop-e.invariant.2, told, told_more tells old i),
    )
