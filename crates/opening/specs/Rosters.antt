-- A list of at most n values.
use Rattle.std.specs.Prelude.{ℕ, cond, List, length, Ok, Err, Result, nat_lt}
use Rattle.replies.specs.declared.fault.Fault.{Fault}
use Rattle.replies.specs.declared.fault.Fault.TheVariants.{TooMany}

-- whether one more fits
abbrev pub room_for : {X : Type 0} → ℕ → List X → Result (Unit {0}) Fault
room_for n xs = cond (nat_lt (length xs) n) (Ok tt) (Err TooMany)
