use Rattle.std.proofs.Common.{◌≡◌, drop}
use Rattle.book.specs.Places.{Bracket}
use Rattle.book.proofs.register.last_reached.Given as goal

abbrev pub invariant-quarters : goal.invariant-quarters
invariant-quarters g l = Bracket l.fn.rows l.key l.base l.size × (l.rest ≡ drop l.base l.fn.rows)

abbrev pub decreases-quarters : goal.decreases-quarters
decreases-quarters g l = l.size

abbrev pub invariant-halves : goal.invariant-halves
invariant-halves g l = Bracket l.fn.rows l.key l.base l.size × (l.rest ≡ drop l.base l.fn.rows)

abbrev pub decreases-halves : goal.decreases-halves
decreases-halves g l = l.size
