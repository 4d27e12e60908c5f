use Rattle.std.proofs.Common.{◌≡◌, sym, ap, ◌∙◌, add-one, arith}
use Rattle.index.specs.declared.mark.MarkRow.{MarkRow}
use Rattle.index.specs.Listing.{mark_at, with_marks, listing}
use Rattle.index.specs.Sweeps.{rows_in}
use Rattle.index.proofs.Reports.{marks_small, listing_small, told_none, told_some}
use Rattle.index.proofs.report.fill.Goals as goal
use Rattle.index.proofs.report.fill.Goals.{in-Some, in_default}

pub overflow_add-told : goal.overflow_add-told
overflow_add-told c =
    let kept = rows_in c.args.marks.now in
    let e = c.loop-e.e in
    omega (arith, marks_small kept c.loop-mark.mark-index e (listing e kept), listing_small kept e)

pub loop-mark-preserved : goal.loop-mark-preserved
loop-mark-preserved c =
    let kept = rows_in c.args.marks.now in
    let e = c.loop-e.e in
    let k = c.loop-mark.mark-index in
    let list = with_marks k kept e (listing e kept) in
    let has : c.of.result.kept ≡ (kept e (mark_at k)).kept = ap (λ (r : MarkRow). r.kept) c.of.ensures in
    elim c.match-of.branch [
      | in-Some w ↦
          rw add-one (told_some list c.args.rows.now e (mark_at k) _ _ _ _ _ w.in-Some.largest (sym has ∙ w.in-Some.is) c.loop-mark.invariant (w.rows-is ∙ w.write.ensures) w.told-is)
      | in_default w ↦
          rw add-one (told_none list c.args.rows.now e (mark_at k) _ _ _ _ _ (sym has ∙ w.in_default.is) c.loop-mark.invariant w.rows-is w.told-is)
    ]
