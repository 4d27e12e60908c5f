use Rattle.std.proofs.Common.{◌≡◌, length, get_or, None}
use Rattle.terms.specs.Bounds.{most_entities}
use Rattle.reading.specs.Sheets.{within}
use Rattle.reading.specs.Views.{weights_of}
use Rattle.stock.specs.Close.{closed_base, charged_count, base_of}
use Rattle.stock.proofs.Moves.{below, each}
use Rattle.stock.proofs.base.Base.close.Given as goal

-- the close of the entities so far
abbrev pub invariant-loop-e : goal.invariant-loop-e
invariant-loop-e g l =
    let w = weights_of l.closing.two.now in
    let base = base_of l.initial.self.cells in
    let book = (g.B.Holds.held l.book).at in
    (base_of l.self.cells ≡ closed_base l.e (within l.closing.chain.contracts.now l.closing.chain.underlying) l.closing.turn w base book)
    × ((λ e. get_or l.violations e None) ≡ below (each l.closing.turn w base book l.closing.price) l.e)
    × (length l.violations ≡ most_entities)
    × (l.count ≡ charged_count l.e l.closing.turn w base book)
