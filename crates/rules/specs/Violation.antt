-- What an entity violates in a ban: x is its net of base quantities, y its net of book quantities.
use Rattle.std.specs.Prelude.{ℕ, Bool, cond, ◌&&◌, ◌||◌, ℤ, pos, ◌-ℤ◌, int_le, int_lt, unsigned_abs}

-- y lies between 0 and x, ends included
abbrev pub between : ℤ → ℤ → Bool
between x y = int_le (pos 0) y && int_le y x || int_le x y && int_le y (pos 0)

-- one is long and the other short
abbrev pub opposite : ℤ → ℤ → Bool
opposite x y = int_lt x (pos 0) && int_lt (pos 0) y || int_lt y (pos 0) && int_lt (pos 0) x

-- none between 0 and x; all of y where the signs are opposite; else what lies beyond x
abbrev pub violation : ℤ → ℤ → ℕ
violation x y = cond (between x y) 0 (cond (opposite x y) (unsigned_abs y) (unsigned_abs (y -ℤ x)))
