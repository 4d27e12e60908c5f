-- The numbers that the rules rest on, each under one name. src/bounds.rt has the same names.
use Rattle.std.specs.Prelude.{ℕ}

-- the largest size of a quantity, in units
abbrev pub quantity_bound : ℕ
quantity_bound = 1000000000

-- the most entities of a monitor
abbrev pub most_entities : ℕ
most_entities = 128

-- the most contracts of a monitor
abbrev pub most_contracts : ℕ
most_contracts = 32

-- the most underlyings of a monitor
abbrev pub most_underlyings : ℕ
most_underlyings = 4

-- the most places of a list that are used, and the number of base quantities
abbrev pub most_pairs : ℕ
most_pairs = 4096

-- tickets are numbered from 0 to below this
abbrev pub ticket_count : ℕ
ticket_count = 16

-- the largest amount of money, in paise
abbrev pub amount_bound : ℕ
amount_bound = 100000000000000

-- the largest price, in paise
abbrev pub price_bound : ℕ
price_bound = 100000000

-- the minute of the two o'clock deltas, from midnight
abbrev pub two_minute : ℕ
two_minute = 840

-- the minute of a close
abbrev pub close_minute : ℕ
close_minute = 930
