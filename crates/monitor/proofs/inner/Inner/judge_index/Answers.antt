use Rattle.std.proofs.Common.{◌≡◌, ℕ, ◌<◌, length, min, pos, ap, ◌∙◌, arith, rules, w64, to_z}
use Rattle.std.proofs.lemmas.Int.{ints}
use Rattle.terms.specs.Bounds.{most_entities}
use Rattle.terms.specs.declared.mark.Mark.{Mark}
use Rattle.index.specs.declared.mark.MarkRow.{MarkRow}
use Rattle.index.proofs.Sweeps.{told_small}
use Rattle.index.specs.Sweeps.{rows_in}
use Rattle.model.specs.declared.parts.IndexRecord.{IndexRecord}
use Rattle.model.specs.State.{at}
use Rattle.monitor.specs.View.{no_index, marks_of}
use Rattle.monitor.proofs.Same.{at_set_by}
use Rattle.monitor.proofs.inner.Inner.judge_index.Goals as goal

pub overflow_cast-result : goal.overflow_cast-result
overflow_cast-result g c =
    let few = told_small (g.J.Judge.tells c.args.judge.now) (marks_of c.args.self.now.indices c.args.index.number) (min c.args.entities most_entities) in
    omega (arith, ints, few, c.sweep.ensures.told)

pub returns-clause-told : goal.returns-clause-told
returns-clause-told g c =
    let few = told_small (g.J.Judge.tells c.args.judge.now) (marks_of c.args.self.now.indices c.args.index.number) (min c.args.entities most_entities) in
    let number : to_z w64 c.sweep.result ≡ pos c.sweep.result = omega (arith, ints, few, c.sweep.ensures.told) in
    number ∙ ap pos c.sweep.ensures.told

pub returns-clause-marks : goal.returns-clause-marks
returns-clause-marks g c =
    let is = c.args.self.now.indices in
    let k = c.args.index.number in
    let h : k < length is = search rules in
    at_set_by (λ (x : IndexRecord). rows_in x.marks) is k _ no_index h
    ∙ ap (λ (rows : ℕ → Mark → MarkRow). at k rows (marks_of is)) c.sweep.ensures.rows
