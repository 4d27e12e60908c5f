-- When a stock's ban begins and ends: a limit in units against open interest in ten-thousandths of a unit.
use Rattle.std.specs.Prelude.{ℕ, ◌*◌, Bool, nat_le, nat_lt}
use Rattle.rules.specs.Bounds.{begins_at, ends_at}

-- open interest is above 95% of the limit
abbrev pub begins : ℕ → ℕ → Bool
begins units interest = nat_lt (begins_at * units) interest

-- open interest is at or below 80% of the limit
abbrev pub ends : ℕ → ℕ → Bool
ends units interest = nat_le interest (ends_at * units)
