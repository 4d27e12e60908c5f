use Rattle.std.proofs.Common.{◌∙◌, w64, SFits, rules}
use Rattle.std.proofs.lemmas.Int.{to_z-of_z}
use Rattle.book.proofs.Grids.{quantity_is}
use Rattle.book.proofs.grid.GridHolds.quantity.Goals as goal

pub returns : goal.returns
returns c =
    let g = c.args.self.now in
    let f : SFits w64 c.map_or.result = search rules in
    to_z-of_z w64 c.map_or.result f
    ∙ quantity_is g.entities g.contracts g.cells.now g.fits g.bounded _ _ _ _ _ c.place.ensures.place (λ at h. search rules) c.map_or.ensures
