use Rattle.std.proofs.Common.{◌≡◌, drop, ◌-◌, ◌≤◌}
use Rattle.text.specs.Words.{to_come}
use Rattle.tails.proofs.skip.Given as goal

abbrev pub invariant-loop : goal.invariant-loop
invariant-loop l = (l.counter ≤ l.n) × (drop (l.n - l.counter) (to_come l.rest) ≡ drop l.n (to_come l.words))
