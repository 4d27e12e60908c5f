-- The index and its day: when a snapshot, a cure and a settlement are declined, and what they leave.
-- Letters: t terms, l listing, s ledger, q quantities, u underlying, d source, c cover.
use Rattle.std.specs.Prelude.{ℕ, Bool, not, ◌&&◌, List, [], ◌∷◌, ℤ, is_some, Some, None, Ok, Option}
use Rattle.terms.specs.declared.kind.Underlying.TheVariants as kind
use Rattle.terms.specs.declared.refusal.Refusal.{Refusal}
use Rattle.terms.specs.declared.refusal.Refusal.TheVariants.{Turn, Time, Price, ShortDay}
use Rattle.delta.specs.Sources.{Source}
use Rattle.reading.specs.Sheets.{lacks_delta}
use Rattle.reading.specs.Sums.{first_below}
use Rattle.reading.specs.Missing.{holds, missing}
use Rattle.cover.specs.Covers.{Amounts}
use Rattle.index.specs.declared.calls.Rule.{Rule}
use Rattle.index.specs.declared.day.Day.{Day}
use Rattle.index.specs.declared.day.Round.{Round}
use Rattle.index.specs.declared.day.Round.TheVariants.{Final}
use Rattle.index.specs.Days.{no_day, awaits_snapshot, owes_cure, round_at, is_later, is_cure_time, day_after, cured_day, is_short}
use Rattle.index.specs.Values.{is_too_large}
use Rattle.index.specs.Calls.{judged_by, told_by, cover_in, settled_by, final_by}
use Rattle.index.specs.Sweeps.{swept, told_count}
use Rattle.terms.specs.Causes.{Verdict, unless, checked}
use Rattle.model.specs.Causes.{unless_missing, unless_too_large, kind_table}
use Rattle.model.specs.Opening.{Listing, Terms}
use Rattle.model.specs.Readings.{reading_at, is_unpriced}
use Rattle.model.specs.State.{Quantities, Ledger, Marks, at, with_day}

-- ---- the causes, in the table's order; UNDERLYING and KIND come before them

-- a snapshot: TURN while a cure is owed and after the final one; TIME at a minute at which none is permitted, or that is
-- not later than the last one or its cure; PRICE
abbrev pub snapshot_table : Day → Source → List (Bool × Refusal)
snapshot_table day d =
    (not (awaits_snapshot day.due), Turn)
    ∷ (not (is_some (round_at d.minute) && is_later day.last d.minute), Time)
    ∷ (is_unpriced d, Price)
    ∷ []

-- a cure: TURN when none is owed; TIME at any minute but that of the cure; PRICE
abbrev pub cure_table : Day → Source → List (Bool × Refusal)
cure_table day d =
    (not (owes_cure day.due), Turn)
    ∷ (not (is_cure_time day.last d.minute), Time)
    ∷ (is_unpriced d, Price)
    ∷ []

-- a settlement: SHORT DAY
abbrev pub settlement_table : Day → List (Bool × Refusal)
settlement_table day = (is_short day, ShortDay) ∷ []

-- DELTA wherever the book is non-zero and a contract lacks one; then VALUE, by each entity's reading at a price
abbrev pub reading_verdict : ℕ → Quantities → (ℕ → Bool) → (ℕ → ℤ × ℤ × ℤ) → ℕ → Verdict
reading_verdict n q lacks reading price =
    unless_missing (missing n lacks (holds q))
    (unless_too_large (first_below n (λ e. is_too_large (reading e) price)) (Ok tt))

-- the same at a source
abbrev pub of_reading : Listing → Ledger → ℕ → Source → Verdict
of_reading l s u d = reading_verdict l.entities s.book.at (lacks_delta l.contracts u d.delta) (reading_at l u d s.book.at) d.price

-- all causes of a snapshot, in order
abbrev pub of_snapshot : Listing → Ledger → ℕ → Source → Verdict
of_snapshot l s u d = unless (kind_table l kind.Index u) (unless (snapshot_table (s.days u) d) (of_reading l s u d))

-- all causes of a cure
abbrev pub of_cure : Listing → Ledger → ℕ → Source → Verdict
of_cure l s u d = unless (kind_table l kind.Index u) (unless (cure_table (s.days u) d) (of_reading l s u d))

-- no cover decides whether a settlement is declined
abbrev pub of_settlement : Listing → Ledger → ℕ → Verdict
of_settlement l s u = unless (kind_table l kind.Index u) (checked (settlement_table (s.days u)))

-- ---- the day

-- what a snapshot at a minute is; where none is permitted there it was declined
abbrev pub round_in : Option Round → Round
round_in None = Final
round_in (Some round) = round

-- what a snapshot at a source is
abbrev pub round_of : Source → Round
round_of d = round_in (round_at d.minute)

-- the index's day after a snapshot
abbrev pub snapped_day : Ledger → ℕ → Source → Ledger
snapped_day s u d = with_day s u (day_after (round_of d) d.minute (s.days u))

-- the index's day after a cure
abbrev pub cured_at : Ledger → ℕ → Source → Ledger
cured_at s u d = with_day s u (cured_day d.minute (s.days u))

-- the index's day after a settlement, which clears it
abbrev pub cleared_day : Ledger → ℕ → Ledger
cleared_day s u = with_day s u no_day

-- ---- the marks

-- what a snapshot or a cure makes of the marks of the index
abbrev pub watched : Rule → Terms → Quantities → Marks → ℕ → Source → Marks
watched rule t q marks u d =
    at u (swept t.listing.entities (judged_by rule t.limits d.price (reading_at t.listing u d q)) (marks u)) marks

-- how many marks it sights or makes provisional
abbrev pub watched_count : Rule → Terms → Quantities → Marks → ℕ → Source → ℕ
watched_count rule t q marks u d =
    told_count t.listing.entities (told_by rule t.limits d.price (reading_at t.listing u d q)) (marks u)

-- what a settlement over a cover makes of the marks of the index
abbrev pub settled_marks : Terms → Marks → ℕ → Amounts → Marks
settled_marks t marks u c = at u (swept t.listing.entities (settled_by t.limits (cover_in c u)) (marks u)) marks

-- how many final breaches it finds
abbrev pub final_count : Terms → Marks → ℕ → Amounts → ℕ
final_count t marks u c = told_count t.listing.entities (final_by t.limits (cover_in c u)) (marks u)
