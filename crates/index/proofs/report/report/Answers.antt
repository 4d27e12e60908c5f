use Rattle.std.proofs.Common.{min, Ok, ◌<◌, ◌≤◌, length, refl, ap, ◌∙◌, arith}
use Rattle.std.proofs.lemmas.Bool.{lt-leb, le-leb}
use Rattle.terms.specs.Bounds.{most_entities}
use Rattle.index.specs.Sweeps.{rows_in}
use Rattle.index.specs.Listing.{listing}
use Rattle.index.proofs.Reports.{over_whole, listed}
use Rattle.index.proofs.report.report.Goals as goal

pub returns-then-rows-fill : goal.returns-then-rows-fill
returns-then-rows-fill c =
    let n = min c.args.entities most_entities in
    let kept = rows_in c.args.marks.now in
    let old = c.args.rows.now in
    let h : length old < length (listing n kept) = omega (arith, c.fill.ensures.told) in
    let few = lt-leb (length (listing n kept)) (length old) h in
    record { order = listing n kept; names = listed kept n; told = rw few refl; leaves = rw few refl }

pub returns : goal.returns
returns c =
    let n = min c.args.entities most_entities in
    let kept = rows_in c.args.marks.now in
    let old = c.args.rows.now in
    let h : length (listing n kept) ≤ length old = omega (arith, c.fill.ensures.told) in
    let fits = le-leb (length (listing n kept)) (length old) h in
    record {
      order = listing n kept;
      names = listed kept n;
      told = rw fits (ap Ok c.fill-2.ensures.told);
      leaves = rw fits (c.fill-2.ensures.rows ∙ over_whole (listing n kept) old h);
    }
