-- Days of deliveries as bytes.
use Rattle.std.specs.Prelude.{ℕ, zero, suc, ◌+◌, ◌*◌, ◌/◌, ◌%◌, cond, List, [], ◌∷◌, length, map, take, drop, fold, Some, None, Option, ◌==◌}
use Rattle.capi.specs.Bounds.{day_bytes}

-- bytes by place value, the high byte first
abbrev pub number_of : List ℕ → ℕ
number_of bytes = fold (λ high byte. 256 * high + byte) 0 bytes

-- the bytes of the first so many days, each day's by itself
abbrev pub day_by_day : ℕ → List ℕ → List (List ℕ)
day_by_day zero bytes = []
day_by_day (suc later) bytes = take day_bytes bytes ∷ day_by_day later (drop day_bytes bytes)

-- each day's delivery, or none where the bytes are not whole days
abbrev pub days_of : List ℕ → Option (List ℕ)
days_of bytes = cond (length bytes % day_bytes == 0) (Some (map number_of (day_by_day (length bytes / day_bytes) bytes))) None
