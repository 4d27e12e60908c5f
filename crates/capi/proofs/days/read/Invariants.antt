use Rattle.std.proofs.Common.{◌≡◌, map, take}
use Rattle.capi.specs.Days.{number_of}
use Rattle.capi.proofs.days.read.Given as goal

-- the days so far
abbrev pub invariant-loop-k : goal.invariant-loop-k
invariant-loop-k l = take l.k l.daily ≡ map number_of (take l.k l.whole)
