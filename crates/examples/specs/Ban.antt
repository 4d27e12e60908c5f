-- A stock's market-wide limit, its ban, and what is violated and charged in it.
use Rattle.std.specs.Prelude.{◌≡◌, ℕ, Bool, true, false, List, [], ◌∷◌, ℤ, pos}
use Rattle.terms.specs.declared.kind.Kind.{Kind}
use Rattle.terms.specs.declared.kind.Kind.TheVariants as kind
use Rattle.terms.specs.declared.kind.Underlying.TheVariants.{Stock}
use Rattle.book.specs.Listed.{new_list}
use Rattle.delta.specs.Sources.{Source}
use Rattle.rules.specs.Limit.{limit_of}
use Rattle.model.specs.Readings.{interest_at}
use Rattle.model.specs.Calls.{Call, post, set_limit, close, limit_answer}
use Rattle.model.specs.Runs.{Run, after, book_at, listing_of, new_base, violated_after, charge_after}
use Rattle.examples.specs.Words.{stock, contract, bought, sold, crore, priced, Answers, ban_after}

-- five entities and two contracts of a stock, in a list
abbrev pub run_of : Kind → Kind → List Call → Run
run_of one other calls = record {
  opening = record {
    book = new_list 10 5 2;
    contracts = contract one ∷ contract other ∷ [];
    underlyings = Stock ∷ [];
    limits = record { net = crore; gross = crore };
  };
  calls = calls;
}

-- the two o'clock source, at 10,000 paise
abbrev pub two : List ℤ → Source
two deltas = priced 840 10000 deltas

-- the closing one
abbrev pub closing : List ℤ → Source
closing deltas = priced 930 10000 deltas

-- a close at deltas that are the same at two o'clock
abbrev pub close_at : List ℤ → Call
close_at deltas = close stock (two deltas) (closing deltas)

-- ---- the market-wide limit

-- deliveries of three days, in units
abbrev pub deliveries : List ℕ
deliveries = 10 ∷ 11 ∷ 11 ∷ []

-- its limit is set, at place 0
abbrev pub limited : Run
limited = run_of kind.Future kind.Future (set_limit stock 5000 deliveries ∷ [])

-- the limit that follows
pub record MarketLimit : Type 0 where
  -- 65 times the average of 10 2/3 is 693 1/3, rounded down at the end; with the average rounded first it would be 650
  pub limit : limit_of 5000 deliveries ≡ 693
  -- and that is the stock's limit then
  pub answer : limit_answer (after limited 0) stock ≡ 693

-- ---- when a ban begins and ends

-- a unit of the call counts one ten-thousandth
abbrev pub fine : List ℤ
fine = pos 10000 ∷ pos 1 ∷ []

-- a limit of 1,000 units, 10% of the free float, and closes at places 2, 4, 6 and 8
abbrev pub bounds : Run
bounds =
    run_of kind.Future kind.Call
    (set_limit stock 10000 (0 ∷ [])
    ∷ post 0 0 (bought 950)
    ∷ close_at fine
    ∷ post 0 1 (bought 1)
    ∷ close_at fine
    ∷ post 0 0 (sold 150)
    ∷ close_at fine
    ∷ post 0 1 (sold 1)
    ∷ close_at fine
    ∷ [])

-- market interest at a close, and whether there is a ban after it
abbrev pub found_at : ℕ → ℕ × Bool
found_at place = (interest_at (listing_of bounds) stock (closing fine) (book_at bounds place), ban_after bounds place)

-- in ten-thousandths of a unit, and whether there is a ban then
pub record BanBounds : Type 0 where
  -- 950 units begin no ban
  pub at_95 : found_at 2 ≡ (9500000, false)
  -- a ten-thousandth more does
  pub above_95 : found_at 4 ≡ (9500001, true)
  -- a ten-thousandth more than 800 units doesn't end it
  pub above_80 : found_at 6 ≡ (8000001, true)
  -- 800 units do
  pub at_80 : found_at 8 ≡ (8000000, false)

-- ---- what is violated, and charged

-- a limit of one unit, so that a ban lasts
abbrev pub small_limit : Call
small_limit = set_limit stock 10 (0 ∷ [])

-- a close at which every unit counts in full
abbrev pub close_full : Call
close_full = close_at (pos 10000 ∷ pos 10000 ∷ [])

-- entities 0, 1, 2 and 4 are short 10 as the ban begins at place 5; then each entity trades, and place 11 is the next close
abbrev pub traded : Run
traded =
    run_of kind.Future kind.Future
    (small_limit
    ∷ post 0 0 (sold 10)
    ∷ post 1 0 (sold 10)
    ∷ post 2 0 (sold 10)
    ∷ post 4 0 (sold 10)
    ∷ close_full
    ∷ post 0 0 (sold 2)
    ∷ post 1 0 (bought 12)
    ∷ post 2 0 (bought 20)
    ∷ post 3 0 (bought 1)
    ∷ post 4 0 (bought 10)
    ∷ close_full
    ∷ [])

-- in ten-thousandths of a unit
pub record Violations : Type 0 where
  -- base -10, book -12: 2 units, by which it is larger
  pub larger : violated_after traded 11 stock 0 ≡ 20000
  -- base -10, book 2: 2 units, all that is on the other side
  pub crossed : violated_after traded 11 stock 1 ≡ 20000
  -- base -10, book 10: all 10 units
  pub mirrored : violated_after traded 11 stock 2 ≡ 100000
  -- base 0, book 1: that unit
  pub opened : violated_after traded 11 stock 3 ≡ 10000
  -- base -10, book 0: none
  pub closed : violated_after traded 11 stock 4 ≡ 0
  -- the close answers that four are charged
  pub charged : Answers traded 11 4

-- entity 0 holds a unit as the ban begins at place 2; others, who held nothing, buy, and place 6 is the next close
abbrev pub grown : Run
grown =
    run_of kind.Future kind.Future
    (small_limit
    ∷ post 0 0 (bought 1)
    ∷ close_full
    ∷ post 1 0 (bought 10000)
    ∷ post 2 0 (bought 100000)
    ∷ post 3 0 (bought 200000)
    ∷ close_full
    ∷ [])

-- in paise, at a closing price of 10,000
pub record Charges : Type 0 where
  -- 1% of 2 units is 200, and the least charge 500,000
  pub least : charge_after traded 11 stock 0 ≡ 500000
  -- no violation costs nothing
  pub free : charge_after traded 11 stock 4 ≡ 0
  -- 1% of 10,000 units is 1,000,000
  pub between : charge_after grown 6 stock 1 ≡ 1000000
  -- 100,000 units are 10^9 ten-thousandths
  pub violated : violated_after grown 6 stock 2 ≡ 1000000000
  -- 1% of them is 10,000,000
  pub most : charge_after grown 6 stock 2 ≡ 10000000
  -- no more is charged for twice as many
  pub capped : charge_after grown 6 stock 3 ≡ 10000000

-- ---- misreadings, each with a run that it would get wrong

-- entity 0 holds 10 of one call and entity 1 of the other as the ban begins at place 3; entity 1 buys five more, and at
-- place 5 the deltas have changed at two o'clock, and changed back at the close
abbrev pub revalued : Run
revalued =
    run_of kind.Call kind.Call
    (small_limit
    ∷ post 0 0 (bought 10)
    ∷ post 1 1 (bought 10)
    ∷ close_at (pos 5000 ∷ pos 10000 ∷ [])
    ∷ post 1 1 (bought 5)
    ∷ close stock (two (pos 10000 ∷ pos 5000 ∷ [])) (closing (pos 5000 ∷ pos 10000 ∷ []))
    ∷ [])

-- entity 0 holds 10 as the ban begins at place 2, buys two, and then trades no more
abbrev pub repeated : Run
repeated =
    run_of kind.Future kind.Future
    (small_limit
    ∷ post 0 0 (bought 10)
    ∷ close_full
    ∷ post 0 0 (bought 2)
    ∷ close_full
    ∷ close_full
    ∷ [])

-- entity 0 holds 10 as the ban begins at place 2, sells five before the close at place 4, and buys them back after it
abbrev pub returned : Run
returned =
    run_of kind.Future kind.Future
    (small_limit
    ∷ post 0 0 (bought 10)
    ∷ close_full
    ∷ post 0 0 (sold 5)
    ∷ close_full
    ∷ post 0 0 (bought 5)
    ∷ close_full
    ∷ [])

-- what each of them comes to
pub record Misreadings : Type 0 where
  -- from -10 to 2 is no decrease, although 2 is smaller in size: it is charged
  pub crossed : charge_after traded 11 stock 1 ≡ 500000
  -- base counts at today's two o'clock deltas: 10 calls that were 5 units are 10 then, as base and as book
  pub unmoved : violated_after revalued 5 stock 0 ≡ 0
  -- and 15 calls, 7.5 units then, are 2.5 more than the 10 calls of base, which were 10 units on their day
  pub moved : violated_after revalued 5 stock 1 ≡ 25000
  -- base stays after a violation
  pub base_stays : new_base repeated 4 0 0 ≡ pos 10
  -- so that the next close finds it again
  pub again : violated_after repeated 5 stock 0 ≡ 20000
  -- base follows the book where there is none
  pub base_follows : new_base returned 4 0 0 ≡ pos 5
  -- so that whoever goes back to 10 violates, although the ban began at 10
  pub back : violated_after returned 6 stock 0 ≡ 50000
