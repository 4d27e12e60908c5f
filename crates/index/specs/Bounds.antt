-- The numbers that an index's day rests on, each under one name. src/bounds.rt has the same names.
use Rattle.std.specs.Prelude.{ℕ}

-- a snapshot from this minute of the day on is regular
abbrev pub first_minute : ℕ
first_minute = 555

-- a snapshot from this minute on is final
abbrev pub final_minute : ℕ
final_minute = 885

-- no snapshot is permitted after this minute
abbrev pub last_minute : ℕ
last_minute = 930

-- a cure comes so many minutes after its snapshot
abbrev pub cure_minutes : ℕ
cure_minutes = 15

-- the fewest snapshots of a day that may be settled
abbrev pub snapshots_least : ℕ
snapshots_least = 4

-- where a count of snapshots or of provisional breaches stops: the largest number of 64 bits, which no day comes near
abbrev pub count_most : ℕ
count_most = 18446744073709551615

-- a value is in ten-thousandths of a paisa
abbrev pub per_paisa : ℕ
per_paisa = 10000

-- the largest value of an entity's long or short
abbrev pub value_most : ℕ
value_most = 9000000000000000000
