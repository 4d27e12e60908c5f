use Rattle.std.proofs.Common.{◌≡◌, is_some, None}
use Rattle.reading.specs.Sums.{first_below}
use Rattle.reading.specs.Missing.{first_needing}
use Rattle.reading.specs.Views.{lacking_of}
use Rattle.reading.proofs.sheet.Sheet.first_missing.Given as goal

-- nobody so far needs contract c
abbrev pub invariant-loop-e : goal.invariant-loop-e
invariant-loop-e g l = first_below l.e (λ e. g.N.Needs.needed l.who e l.c) ≡ None

-- no contract so far lacks what is needed
abbrev pub invariant-loop-c : goal.invariant-loop-c
invariant-loop-c g l =
    first_below l.c (λ c. is_some (first_needing l.entities (lacking_of l.self) (g.N.Needs.needed l.who) c)) ≡ None
