use Rattle.std.proofs.Common.{◌≡◌, ℕ, ℤ, pos}
use Rattle.reading.specs.Sums.{sum_below, total_below}
use Rattle.reading.specs.Readings.{part, up}
use Rattle.reading.specs.Views.{weights_of}
use Rattle.reading.proofs.sheet.Sheet.reading.Given as goal

abbrev pub invariant-loop-c : goal.invariant-loop-c
invariant-loop-c g l =
    let p : ℕ → ℤ = λ c. part ((g.H.Holds.held l.holder).at l.entity c) (weights_of l.self c) in
    (l.net ≡ total_below l.c p) × (l.long ≡ pos (sum_below l.c (λ c. up (p c))))
