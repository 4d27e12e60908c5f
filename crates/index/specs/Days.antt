-- An index's day: its snapshots, their cures, and when it may be settled.
use Rattle.std.specs.Prelude.{ℕ, ◌+◌, Bool, true, false, cond, not, ◌&&◌, ◌||◌, min, nat_le, nat_lt, ◌==◌, Option, Some, None}
use Rattle.index.specs.Bounds.{first_minute, final_minute, last_minute, cure_minutes, snapshots_least, count_most}
use Rattle.index.specs.declared.day.Day.{Day}
use Rattle.index.specs.declared.day.Due.{Due}
use Rattle.index.specs.declared.day.Due.TheVariants.{Snapshot, Cure, Settlement}
use Rattle.index.specs.declared.day.Round.{Round}
use Rattle.index.specs.declared.day.Round.TheVariants.{Regular, Final}

-- a day on which nothing was taken yet
abbrev pub no_day : Day
no_day = record { taken = 0; last = None; due = Snapshot }

-- one more; it stops at count_most
abbrev pub one_more : ℕ → ℕ
one_more n = min (n + 1) count_most

-- what a snapshot at a minute is, if one is permitted then
abbrev pub round_at : ℕ → Option Round
round_at minute =
    cond (nat_le first_minute minute && nat_lt minute final_minute) (Some Regular)
    (cond (nat_le final_minute minute && nat_le minute last_minute) (Some Final) None)

-- a minute is later than the last snapshot, or its cure, if there was one
abbrev pub is_later : Option ℕ → ℕ → Bool
is_later None minute = true
is_later (Some last) minute = nat_lt last minute

-- a minute is that of the last snapshot's cure
abbrev pub is_cure_time : Option ℕ → ℕ → Bool
is_cure_time None minute = false
is_cure_time (Some last) minute = minute == last + cure_minutes

-- what a snapshot owes: a regular one its cure, and the final one the settlement
abbrev pub owed_by : Round → Due
owed_by Regular = Cure
owed_by Final = Settlement

-- the day after a snapshot
abbrev pub day_after : Round → ℕ → Day → Day
day_after round minute d = record { taken = one_more d.taken; last = Some minute; due = owed_by round }

-- the day after a cure
abbrev pub cured_day : ℕ → Day → Day
cured_day minute d = record { taken = d.taken; last = Some minute; due = Snapshot }

-- the day waits for a snapshot
abbrev pub awaits_snapshot : Due → Bool
awaits_snapshot Snapshot = true
awaits_snapshot Cure = false
awaits_snapshot Settlement = false

-- a cure is owed
abbrev pub owes_cure : Due → Bool
owes_cure Snapshot = false
owes_cure Cure = true
owes_cure Settlement = false

-- the final snapshot was taken
abbrev pub is_complete : Due → Bool
is_complete Snapshot = false
is_complete Cure = false
is_complete Settlement = true

-- too few snapshots for a settlement, or no final one
abbrev pub is_short : Day → Bool
is_short d = nat_lt d.taken snapshots_least || not (is_complete d.due)
