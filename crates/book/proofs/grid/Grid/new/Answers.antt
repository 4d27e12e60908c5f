use Rattle.std.proofs.Common.{length}
use Rattle.book.proofs.Grids.{new_fits, new_bounded, new_state}
use Rattle.book.proofs.grid.Grid.new.Goals as goal

pub invariant_of-result : goal.invariant_of-result
invariant_of-result c =
    let n = length c.args.cells.now in
    let filled = c.fill.ensures.after (λ y h. h) in
    record {
      fits = new_fits n c.args.entities c.args.contracts c.fitting-entities.result c.fill.new.self c.fitting-entities.ensures filled;
      bounded = λ k _. new_bounded n c.args.entities c.args.contracts c.fitting-entities.result c.fill.new.self c.fitting-entities.ensures filled k;
    }

pub returns : goal.returns
returns c =
    new_state (length c.args.cells.now) c.args.entities c.args.contracts c.fitting-entities.result c.fill.new.self c.fitting-entities.ensures (c.fill.ensures.after (λ y h. h))
