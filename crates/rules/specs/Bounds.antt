-- The numbers that the rules of a stock rest on, each under one name. src/bounds.rt has the same names.
use Rattle.std.specs.Prelude.{ℕ, ◌*◌, ◌/◌}

-- a free float, in units, is this at least
abbrev pub float_least : ℕ
float_least = 10

-- a free float, in units, is this at most
abbrev pub float_most : ℕ
float_most = 1000000000000

-- a limit is set from the deliveries of so many days at least
abbrev pub days_least : ℕ
days_least = 1

-- a limit is set from the deliveries of so many days at most
abbrev pub days_most : ℕ
days_most = 92

-- the largest delivery of a day, in units
abbrev pub delivery_most : ℕ
delivery_most = 10000000000

-- shares are in percent of a whole
abbrev pub whole_share : ℕ
whole_share = 100

-- a limit is at least this share of the free float
abbrev pub floor_share : ℕ
floor_share = 10

-- a limit is at most this share of the free float
abbrev pub ceiling_share : ℕ
ceiling_share = 15

-- between the two a limit is so many times the average delivery of a day
abbrev pub average_times : ℕ
average_times = 65

-- open interest and violated quantities are in ten-thousandths of a unit
abbrev pub per_unit : ℕ
per_unit = 10000

-- a ban begins above 95% of each unit of the limit: 9,500 ten-thousandths
abbrev pub begins_at : ℕ
begins_at = 95 * per_unit / whole_share

-- a ban ends at or below 80% of each unit of the limit: 8,000 ten-thousandths
abbrev pub ends_at : ℕ
ends_at = 80 * per_unit / whole_share

-- the smallest charge, in paise
abbrev pub charge_least : ℕ
charge_least = 500000

-- the largest charge, in paise
abbrev pub charge_most : ℕ
charge_most = 10000000

-- between the two a charge is 1% of the violated quantity at its price: the product is divided by 10^6
abbrev pub charge_divisor : ℕ
charge_divisor = per_unit * whole_share
