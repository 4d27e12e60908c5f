-- Runs at which the premises of the laws are met, and in which what a law speaks of does happen.
use Rattle.std.specs.Prelude.{◌≡◌, ℕ, ◌*◌, ◌<◌, List, [], ◌∷◌, ℤ, pos}
use Rattle.terms.specs.declared.kind.Kind.TheVariants as kind
use Rattle.terms.specs.declared.kind.Underlying.TheVariants.{Index}
use Rattle.book.specs.Holding.{new_grid}
use Rattle.cover.specs.Covers.{Amounts}
use Rattle.model.specs.Readings.{interest_at}
use Rattle.model.specs.Calls.{post, snapshot, cure, settle}
use Rattle.model.specs.Runs.{Run, book_at, listing_of, old_base, charge_after, CloseOf}
use Rattle.model.specs.Handbook.{Larger, Unmoved}
use Rattle.examples.specs.Words.{index, stock, contract, bought, sold, crore, Answers}
use Rattle.examples.specs.IndexDay.{run_under, day_of}
use Rattle.examples.specs.Ban as ban

-- ---- larger limits and covers

-- an amount for everybody on either side
abbrev pub even : ℕ → Amounts
even amount entity underlying side = amount

-- 5,310 crore through a day of four snapshots, against a net limit and a cover, both in crore
abbrev pub day_under : ℕ → ℕ → Run
day_under net cover = run_under (net * crore) (day_of (even (cover * crore)))

-- the premises of the law about larger limits and covers
pub record LargerIsMet : Type 0 where
  -- a net limit of 5,400 crore in place of 5,000, all else alike
  pub by_limit : Larger (day_under 5000 0) (day_under 5400 0)
  -- the first has a provisional breach at the final snapshot
  pub breach : Answers (day_under 5000 0) 7 1
  -- the second has none
  pub no_breach : Answers (day_under 5400 0) 7 0
  -- a cover of 310 crore in place of none, all else alike
  pub by_cover : Larger (day_under 5000 0) (day_under 5000 310)
  -- the first has a final breach at the settlement
  pub final : Answers (day_under 5000 0) 8 1
  -- the second has none
  pub no_final : Answers (day_under 5000 310) 8 0

-- ---- a ban

-- entity 0 is short 10 and entity 1 long 10 as the ban begins at place 3; entity 0 sells two more, and the stock is closed at
-- places 5, 6 and 7
abbrev pub held : Run
held =
    ban.run_of kind.Future kind.Future
    (ban.small_limit
    ∷ post 0 0 (sold 10)
    ∷ post 1 0 (bought 10)
    ∷ ban.close_full
    ∷ post 0 0 (sold 2)
    ∷ ban.close_full
    ∷ ban.close_full
    ∷ ban.close_full
    ∷ [])

-- the deltas of those closes
abbrev pub full : List ℤ
full = pos 10000 ∷ pos 10000 ∷ []

-- those of the law about who does not move
pub record BanIsMet : Type 0 where
  -- three closes of one ban
  pub first : CloseOf held stock 3 5 (ban.two full) (ban.closing full)
  pub second : CloseOf held stock 3 6 (ban.two full) (ban.closing full)
  pub third : CloseOf held stock 3 7 (ban.two full) (ban.closing full)
  -- entity 1 does not move in it
  pub unmoved : Unmoved held stock 3 7 1
  -- nor is it charged
  pub free : charge_after held 7 stock 1 ≡ 0
  -- entity 0 does, and is
  pub charged : charge_after held 7 stock 0 ≡ 500000

-- entity 0 holds 10 as the ban begins at place 2 and sells five before the close at place 4
pub record MarketIsMet : Type 0 where
  -- a close of the ban
  pub close : CloseOf ban.returned stock 2 4 (ban.two full) (ban.closing full)
  -- nobody is charged there
  pub nobody : (e : ℕ) → e < 5 → charge_after ban.returned 4 stock e ≡ 0
  -- and the market has shrunk
  pub before : interest_at (listing_of ban.returned) stock (ban.two full) (old_base ban.returned 4) ≡ 100000
  pub after : interest_at (listing_of ban.returned) stock (ban.two full) (book_at ban.returned 4) ≡ 50000
