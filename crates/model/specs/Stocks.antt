-- The stock and its ban: what a close finds, and what it leaves.
-- Letters: l listing, s ledger, u underlying, k stock, two the two o'clock source, d the closing one.
use Rattle.std.specs.Prelude.{ℕ, Bool, cond, not, ◌&&◌, ◌||◌, List, [], ◌∷◌, ℤ, Some, None, Ok, Option, ◌==◌, is_none, unwrap_or}
use Rattle.terms.specs.Bounds.{two_minute, close_minute}
use Rattle.terms.specs.declared.refusal.Refusal.{Refusal}
use Rattle.terms.specs.declared.refusal.Refusal.TheVariants.{Unset, Time, Price}
use Rattle.delta.specs.Sources.{Source}
use Rattle.reading.specs.Sheets.{within, lacks_delta}
use Rattle.reading.specs.Missing.{holds, holds_either, missing}
use Rattle.rules.specs.Ban.{begins, ends}
use Rattle.rules.specs.Limit.{limit_asked}
use Rattle.stock.specs.declared.turn.Turn.{Turn}
use Rattle.stock.specs.Close.{turn_of, in_force, closed_base, closed_violated, closed_charge, charged_count}
use Rattle.terms.specs.declared.kind.Underlying.TheVariants as kind
use Rattle.terms.specs.Causes.{Verdict, unless, verdict_of}
use Rattle.model.specs.Causes.{unless_missing, kind_table}
use Rattle.model.specs.Opening.{Listing}
use Rattle.model.specs.Readings.{weights, interest_at, is_unpriced}
use Rattle.model.specs.State.{Quantities, Stock, Ledger, at}

-- ---- the causes, in the table's order

-- a close at a minute that is not permitted; the two o'clock deltas count in a ban only
abbrev pub untimely : Stock → Source → Source → Bool
untimely k two d = not (d.minute == close_minute) || k.ban && not (two.minute == two_minute)

-- UNSET, TIME, PRICE for the closing price alone
abbrev pub close_table : Stock → Source → Source → List (Bool × Refusal)
close_table k two d =
    (is_none k.limit, Unset)
    ∷ (untimely k two d, Time)
    ∷ (is_unpriced d, Price)
    ∷ []

-- DELTA at closing deltas wherever the book is non-zero; in a ban, then at two o'clock deltas wherever book or base is;
-- by the contracts that lack a delta at two o'clock and at the close
abbrev pub delta_verdict : ℕ → Ledger → Bool → (ℕ → Bool) → (ℕ → Bool) → Verdict
delta_verdict n s ban at_two at_close =
    unless_missing (missing n at_close (holds s.book.at))
    (cond ban (unless_missing (missing n at_two (holds_either s.book.at s.base)) (Ok tt)) (Ok tt))

-- the same at two sources
abbrev pub of_deltas : Listing → Ledger → ℕ → Source → Source → Verdict
of_deltas l s u two d = delta_verdict l.entities s (s.stocks u).ban (lacks_delta l.contracts u two.delta) (lacks_delta l.contracts u d.delta)

-- all causes of a close, in order
abbrev pub of_close : Listing → Ledger → ℕ → Source → Source → Verdict
of_close l s u two d = unless (kind_table l kind.Stock u) (unless (close_table (s.stocks u) two d) (of_deltas l s u two d))

-- limit setting: INPUT for a number that is out of range
abbrev pub of_limit : Listing → ℕ → ℕ → List ℕ → Verdict
of_limit l u f ds = unless (kind_table l kind.Stock u) (verdict_of (limit_asked f ds))

-- ---- what a close finds

-- a stock's market-wide limit, 0 before it is set
abbrev pub limit_in : Stock → ℕ
limit_in k = unwrap_or k.limit 0

-- what becomes of a stock's ban: one begins where market interest is above 95% of the limit, and it ends where that is at
-- or below 80%
abbrev pub turn_by : Stock → ℕ → Turn
turn_by k interest = turn_of k.ban (begins (limit_in k) interest) (ends (limit_in k) interest)

-- the same by the market interest at a source's deltas
abbrev pub turn_at : Listing → Ledger → ℕ → Source → Turn
turn_at l s u d = turn_by (s.stocks u) (interest_at l u d s.book.at)

-- how many are charged
abbrev pub charged_at : Listing → Ledger → ℕ → Source → Source → ℕ
charged_at l s u two d = charged_count l.entities (turn_at l s u d) (weights l u two) s.base s.book.at

-- ---- what a close leaves

-- the base of the stock's contracts; other stocks' stay
abbrev pub base_after : Listing → Ledger → ℕ → Source → Source → Quantities
base_after l s u two d = closed_base l.entities (within l.contracts u) (turn_at l s u d) (weights l u two) s.base s.book.at

-- a stock as its ban turns: the ban, and what each of n entities violated and is charged
abbrev pub turned : ℕ → Turn → (ℕ → ℤ) → Quantities → Quantities → ℕ → Stock → Stock
turned n turn w base book price k = record {
  limit = k.limit;
  ban = in_force turn;
  violated = closed_violated n turn w base book;
  charge = closed_charge n turn w base book price;
}

-- the stock after a close
abbrev pub closed_stock : Listing → Ledger → ℕ → Source → Source → Stock
closed_stock l s u two d =
    turned l.entities (turn_at l s u d) (weights l u two) s.base s.book.at d.price (s.stocks u)

-- the ledger after a close
abbrev pub closed : Listing → Ledger → ℕ → Source → Source → Ledger
closed l s u two d = record {
  book = s.book;
  base = base_after l s u two d;
  tickets = s.tickets;
  days = s.days;
  stocks = at u (closed_stock l s u two d) s.stocks;
}

-- a stock with a market-wide limit
abbrev pub with_limit : Stock → ℕ → Stock
with_limit k limit = record { limit = Some limit; ban = k.ban; violated = k.violated; charge = k.charge }

-- the ledger after a limit is set
abbrev pub limited : Ledger → ℕ → ℕ → Ledger
limited s u limit = record {
  book = s.book;
  base = s.base;
  tickets = s.tickets;
  days = s.days;
  stocks = at u (with_limit (s.stocks u) limit) s.stocks;
}
