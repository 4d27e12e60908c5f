use Rattle.std.proofs.Common.{◌≡◌}
use Rattle.reading.specs.Sheets.{within}
use Rattle.stock.specs.Close.{base_of}
use Rattle.stock.proofs.Moves.{upto}
use Rattle.stock.proofs.base.Base.copy_entity.Given as goal

abbrev pub invariant-loop-c : goal.invariant-loop-c
invariant-loop-c g l =
    base_of l.self.cells
    ≡ upto (within l.chain.contracts.now l.chain.underlying) l.entity.number ((g.H.Holds.held l.from).at l.entity.number) (base_of l.initial.self.cells) l.c
