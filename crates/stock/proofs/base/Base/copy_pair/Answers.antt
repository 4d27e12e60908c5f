use Rattle.std.proofs.Common.{◌≡◌, ◌≤◌, length, nat_abs, ap, ◌∙◌, arith, rules, w64, to_z, of_z}
use Rattle.std.proofs.lemmas.Int.{ints}
use Rattle.terms.specs.Bounds.{quantity_bound, most_pairs}
use Rattle.book.specs.Holding.{put}
use Rattle.book.proofs.Posts.{stored}
use Rattle.stock.specs.Close.{base_of}
use Rattle.stock.proofs.Cells.{still_small, written}
use Rattle.stock.proofs.base.Base.copy_pair.Goals as goal

pub invariant_of-self : goal.invariant_of-self
invariant_of-self g c =
    let cells = c.args.self.now.cells in
    let full : length cells ≡ most_pairs = search rules in
    let b = (g.H.Holds.sound c.args.from.now).bounded c.args.entity.number c.args.contract in
    let small : nat_abs (to_z w64 (of_z w64 c.quantity-quantity.result)) ≤ quantity_bound = omega (arith, ints, b, ap nat_abs c.quantity-quantity.ensures) in
    record { small = still_small cells _ _ c.args.self.now.small small (omega (arith, c.args.entity.below)) }

pub returns : goal.returns
returns g c =
    let cells = c.args.self.now.cells in
    let full : length cells ≡ most_pairs = search rules in
    let b = (g.H.Holds.sound c.args.from.now).bounded c.args.entity.number c.args.contract in
    let small : nat_abs c.quantity-quantity.result ≤ quantity_bound = omega (arith, ints, b, ap nat_abs c.quantity-quantity.ensures) in
    written cells c.args.entity.number c.args.contract _ c.args.entity.below c.requires full
    ∙ ap (put (base_of cells) c.args.entity.number c.args.contract) (stored c.quantity-quantity.result small ∙ c.quantity-quantity.ensures)
