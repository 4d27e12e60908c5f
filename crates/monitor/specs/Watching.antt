-- What a snapshot or a cure does once its turn and its minute are right.
use Rattle.std.specs.Prelude.{ℕ, pos}
use Rattle.delta.specs.Sources.{Source}
use Rattle.index.specs.declared.calls.Rule.{Rule}
use Rattle.index.specs.declared.day.Day.{Day}
use Rattle.model.specs.Causes.{Answer}
use Rattle.model.specs.Indices.{of_reading, watched, watched_count}
use Rattle.model.specs.State.{State, with_day}
use Rattle.model.specs.Calls.{decided}

-- DELTA and VALUE decide; then the index's marks are judged by a rule, and its day is another
abbrev pub watched_step : Rule → Day → State → ℕ → Source → Answer × State
watched_step rule day s u d =
    decided (of_reading s.terms.listing s.ledger u d) (pos (watched_count rule s.terms s.ledger.book.at s.marks u d)) s
    (record { terms = s.terms; ledger = with_day s.ledger u day; marks = watched rule s.terms s.ledger.book.at s.marks u d })
