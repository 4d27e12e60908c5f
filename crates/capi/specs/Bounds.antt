-- The numbers of the host's calls, each under one name. src/bounds.rt has the same names.
use Rattle.std.specs.Prelude.{ℕ, ◌*◌}
use Rattle.terms.specs.Bounds.{most_contracts, quantity_bound}
use Rattle.rules.specs.Bounds.{per_unit}

-- a day's delivery is so many bytes
abbrev pub day_bytes : ℕ
day_bytes = 8

-- the largest violated quantity, in ten-thousandths of a unit: the largest net of an entity, each contract at a whole delta
abbrev pub violated_most : ℕ
violated_most = most_contracts * quantity_bound * per_unit
