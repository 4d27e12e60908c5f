-- An index's day: a net limit, a settlement over cash, and the minutes of snapshots.
use Rattle.std.specs.Prelude.{◌≡◌, ℕ, ◌+◌, ◌*◌, ◌-◌, true, false, List, [], ◌∷◌, ℤ, pos, Some, None}
use Rattle.terms.specs.declared.kind.Kind.TheVariants as kind
use Rattle.terms.specs.declared.kind.Underlying.TheVariants.{Index}
use Rattle.terms.specs.declared.mark.Mark.TheVariants.{NetLong}
use Rattle.terms.specs.declared.refusal.Refusal.TheVariants.{Time}
use Rattle.book.specs.Holding.{new_grid}
use Rattle.book.specs.Tables.{emptied}
use Rattle.delta.specs.Sources.{Source}
use Rattle.cover.specs.Covers.{Amounts}
use Rattle.cover.specs.Reports.{paid, reported}
use Rattle.index.specs.Bounds.{per_paisa}
use Rattle.index.specs.Days.{round_at}
use Rattle.index.specs.declared.day.Round.TheVariants.{Regular, Final}
use Rattle.model.specs.Readings.{net_at}
use Rattle.model.specs.Calls.{Call, post, snapshot, cure, settle}
use Rattle.model.specs.Runs.{Run, listing_of, book_at}
use Rattle.model.specs.Breaches.{value_at, Over, Sighted, ProvisionalAt, Stands}
use Rattle.examples.specs.Words.{index, contract, bought, crore, priced, Answers, Declines, mark_after}

-- two entities, two calls on the index, a net limit, and a gross limit of 10,000 crore
abbrev pub run_under : ℕ → List Call → Run
run_under net calls = record {
  opening = record {
    book = new_grid 4 2 2;
    contracts = contract kind.Call ∷ contract kind.Call ∷ [];
    underlyings = Index ∷ [];
    limits = record { net = net; gross = 10000 * crore };
  };
  calls = calls;
}

-- a net limit of 5,000 crore
abbrev pub run_of : List Call → Run
run_of = run_under (5000 * crore)

-- an entity's net at a place, in ten-thousandths of a unit
abbrev pub net_in : Run → ℕ → Source → ℕ → ℤ
net_in r place d entity = net_at (listing_of r) index d (book_at r place) entity

-- ---- a net limit

-- entity 0 buys 2,360,000 of the first call
abbrev pub large : Call
large = post 0 0 (bought 2360000)

-- the index stands at 45,000 rupees, and a call counts half a unit
abbrev pub at_minute : ℕ → Source
at_minute minute = priced minute 4500000 (pos 5000 ∷ pos 5000 ∷ [])

-- which is over the limit
abbrev pub above : Run
above = run_of (large ∷ snapshot index (at_minute 600) ∷ [])

-- the index stands at 50,000 rupees, and the calls count a unit and 3,541 ten-thousandths of one
abbrev pub at_50000 : Source
at_50000 = priced 600 5000000 (pos 10000 ∷ pos 3541 ∷ [])

-- two entities, one at the limit and one just above it
abbrev pub brink : Run
brink = run_of (post 0 0 (bought 1000000) ∷ post 1 1 (bought 2824061) ∷ snapshot index at_50000 ∷ [])

-- what is worth a net limit
pub record NetLimit : Type 0 where
  -- 2,360,000 calls at half a unit are 11,80,000 units net
  pub net : net_in above 1 (at_minute 600) 0 ≡ pos 11800000000
  -- at 45,000 rupees they are worth 5,310 crore
  pub value : value_at above 1 index (at_minute 600) 0 NetLong ≡ 5310 * crore * per_paisa
  -- which is over a limit of 5,000 crore
  pub over : Over above 1 index (at_minute 600) 0 NetLong
  -- so the snapshot answers that one mark is over
  pub answer : Answers above 1 1
  -- in the other run entity 0 has 10^10 ten-thousandths net
  pub net_at_limit : net_in brink 2 at_50000 0 ≡ pos 10000000000
  -- at 50,000 rupees they are worth 5,000 crore
  pub value_at_limit : value_at brink 2 index at_50000 0 NetLong ≡ 5000 * crore * per_paisa
  -- entity 1 has one more, 2,824,061 × 3,541
  pub net_above : net_in brink 2 at_50000 1 ≡ pos 10000000001
  -- it is worth as much more as one ten-thousandth is
  pub value_above : value_at brink 2 index at_50000 1 NetLong ≡ 5000 * crore * per_paisa + 5000000
  -- the snapshot answers that one mark is over
  pub one_over : Answers brink 2 1
  -- it is not that of entity 0
  pub entity_0 : (mark_after brink 2 0 NetLong).sighted ≡ false
  -- it is that of entity 1
  pub entity_1 : (mark_after brink 2 1 NetLong).sighted ≡ true

-- ---- a settlement over cash

-- what cash covers once an amount is reported of entity 0 on the index
abbrev pub cash : ℕ → Amounts
cash amount = paid (reported (emptied 1) 0 index amount)

-- the 5,310 crore through a day of four snapshots, the final one at place 7, and its settlement at place 8
abbrev pub day_of : Amounts → List Call
day_of cover =
    large
    ∷ snapshot index (at_minute 600)
    ∷ cure index (at_minute 615)
    ∷ snapshot index (at_minute 700)
    ∷ cure index (at_minute 715)
    ∷ snapshot index (at_minute 800)
    ∷ cure index (at_minute 815)
    ∷ snapshot index (at_minute 900)
    ∷ settle index cover
    ∷ []

-- such a day over a cover
abbrev pub settled_over : Amounts → Run
settled_over cover = run_of (day_of cover)

-- 310 crore of cash
abbrev pub covered : Run
covered = settled_over (cash (310 * crore))

-- one paisa less
abbrev pub uncovered : Run
uncovered = settled_over (cash (310 * crore - 1))

-- what the two settlements find
pub record Settlement : Type 0 where
  -- three cures and the final snapshot have made the mark provisional
  pub count : (mark_after covered 7 0 NetLong).count ≡ 4
  -- with 310 crore of cash the settlement answers that there is no final breach
  pub covered_answer : Answers covered 8 0
  -- and none stands after it
  pub no_breach : (v : ℕ) → Stands covered 9 index 0 NetLong v → ⊥
  -- with one paisa less it answers that there is one
  pub uncovered_answer : Answers uncovered 8 1
  -- and one of 5,310 crore stands after it
  pub breach : Stands uncovered 9 index 0 NetLong (5310 * crore * per_paisa)

-- ---- the minutes of a snapshot

-- the first snapshot of a day, at a minute
abbrev pub taken_at : ℕ → Run
taken_at minute = run_of (large ∷ snapshot index (at_minute minute) ∷ [])

-- what a snapshot is by its minute
pub record Minutes : Type 0 where
  -- a snapshot at 14:44 is regular
  pub regular : round_at 884 ≡ Some Regular
  -- at 14:45 it is final
  pub final : round_at 885 ≡ Some Final
  -- at 9:14 it is declined
  pub too_early : Declines (taken_at 554) 1 Time
  -- at 15:31, too
  pub too_late : Declines (taken_at 931) 1 Time
  -- a mark that is over at 14:44 is then sighted, and no more
  pub row_884 : mark_after (taken_at 884) 1 0 NetLong ≡ record { sighted = true; count = 0; largest = 0; kept = None }
  -- it was over, and its cure is owed
  pub sighted : Sighted (taken_at 884) 2 index 0 NetLong
  -- it is no provisional breach yet, at any source
  pub not_yet : (d : Source) → ProvisionalAt (taken_at 884) 1 index d 0 NetLong → ⊥
  -- a mark that is over at 14:45 counts one at once
  pub row_885 : mark_after (taken_at 885) 1 0 NetLong ≡ record { sighted = false; count = 1; largest = 5310 * crore * per_paisa; kept = None }
  -- it is a provisional breach
  pub provisional : ProvisionalAt (taken_at 885) 1 index (at_minute 885) 0 NetLong
