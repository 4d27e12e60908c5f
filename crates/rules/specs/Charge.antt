-- What a violation costs, in paise.
use Rattle.std.specs.Prelude.{ℕ, ◌*◌, ◌/◌, min, max, cond, ◌==◌}
use Rattle.rules.specs.Bounds.{charge_least, charge_most, charge_divisor}

-- none for no violation; else quantity × price ÷ 10^6, rounded down, at least 500,000 and at most 10,000,000 paise
abbrev pub charge_of : ℕ → ℕ → ℕ
charge_of quantity price = cond (quantity == 0) 0 (min charge_most (max charge_least (quantity * price / charge_divisor)))
