use Rattle.std.proofs.Common.{arith}
use Rattle.std.proofs.lemmas.Bool.{and_parts, ltb-true}
use Rattle.terms.specs.Bounds.{most_contracts}
use Rattle.reading.specs.Sheets.{within}
use Rattle.stock.specs.Close.{base_of}
use Rattle.stock.proofs.Moves.{none, one, skip, ended}
use Rattle.stock.proofs.base.Base.copy_entity.Goals as goal
use Rattle.stock.proofs.base.Base.copy_entity.Goals.{then-has, else-has}

pub loop-c-init : goal.loop-c-init
loop-c-init g c = none _ _ _ _

pub loop-c-preserved : goal.loop-c-preserved
loop-c-preserved g c =
    let s = within c.args.chain.contracts.now c.args.chain.underlying in
    let row = (g.H.Holds.held c.args.from.now).at c.args.entity.number in
    let old = base_of c.args.self.now.cells in
    let q = base_of c.loop-c.self.cells in
    elim c.if-has.branch [
      | then-has w ↦
          simp w.self-is (one s c.args.entity.number row old c.loop-c.c q _ _ c.loop-c.invariant c.has.ensures w.if-has.true w.copy_pair.ensures)
      | else-has w ↦
          simp w.self-is (skip s c.args.entity.number row old c.loop-c.c q _ c.loop-c.invariant c.has.ensures w.if-has.false)
    ]

pub returns : goal.returns
returns g c =
    ended _ _ _ _ c.loop-c.c _ c.loop-c.invariant
    (λ k t. let l = ltb-true k most_contracts (and_parts _ _ t).0 in omega arith)
