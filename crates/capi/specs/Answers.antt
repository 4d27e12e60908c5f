-- What the host's calls answer.
use Rattle.std.specs.Prelude.{ℕ, Bool, false, ◌&&◌, cond, List, Option}
use Rattle.std.specs.Int.{is_in_range}
use Rattle.std.specs.Option.{option_map_or}
use Rattle.std.specs.Result.{result_unwrap_or}
use Rattle.terms.specs.Bounds.{price_bound}
use Rattle.rules.specs.Limit.{is_accepted, limit_asked}
use Rattle.rules.specs.Charge.{charge_of}
use Rattle.capi.specs.Bounds.{violated_most}

-- there are whole days, and all is in range
abbrev pub is_taken : ℕ → Option (List ℕ) → Bool
is_taken free daily = option_map_or (is_accepted free) daily false

-- the limit, or 0 for input that is not taken
abbrev pub limit_or_zero : ℕ → Option (List ℕ) → ℕ
limit_or_zero free daily = option_map_or (λ days. result_unwrap_or (limit_asked free days) 0) daily 0

-- the violated quantity and the price are in range
abbrev pub is_charged : ℕ → ℕ → Bool
is_charged violated price = is_in_range 1 violated_most violated && is_in_range 1 price_bound price

-- the charge, or 0 where either is out of range
abbrev pub charge_or_zero : ℕ → ℕ → ℕ
charge_or_zero violated price = cond (is_charged violated price) (charge_of violated price) 0
