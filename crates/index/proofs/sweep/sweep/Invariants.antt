use Rattle.std.proofs.Common.{◌≡◌, length}
use Rattle.terms.specs.Bounds.{most_entities}
use Rattle.index.specs.Sweeps.{rows_in, swept, told_count}
use Rattle.index.proofs.sweep.sweep.Given as goal

-- the sweep over the entities so far
abbrev pub invariant-loop-e : goal.invariant-loop-e
invariant-loop-e g l =
    (rows_in l.rows ≡ swept l.e (g.J.Judge.judged l.judge) (rows_in l.initial.rows))
    × (length l.rows ≡ most_entities)
    × (l.told ≡ told_count l.e (g.J.Judge.tells l.judge) (rows_in l.initial.rows))
