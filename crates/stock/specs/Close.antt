-- What a stock's close makes of its ban, of the base, and of those it judges.
-- base and book have the quantity of each entity and contract; w has what a unit of each contract weighs at two o'clock.
use Rattle.std.specs.Prelude.{ℕ, Bool, true, false, cond, not, ◌&&◌, List, ℤ, pos, Some, None, Option, nat_lt, slice_index_or}
use Rattle.terms.specs.Bounds.{most_entities, most_contracts}
use Rattle.book.specs.Holding.{gridded}
use Rattle.reading.specs.Sums.{count_below}
use Rattle.reading.specs.Readings.{net}
use Rattle.rules.specs.Charge.{charge_of}
use Rattle.rules.specs.Violation.{between, violation}
use Rattle.stock.specs.declared.turn.Turn.{Turn}
use Rattle.stock.specs.declared.turn.Turn.TheVariants.{NoBan, Begins, Holds, Ends}
use Rattle.stock.specs.declared.violation.Violation.{Violation}

-- what becomes of a ban: one that there was ends or holds on, and where there was none one begins or not
abbrev pub turn_of : Bool → Bool → Bool → Turn
turn_of ban begins ends = cond ban (cond ends Ends Holds) (cond begins Begins NoBan)

-- there was a ban, so that every entity is judged
abbrev pub judges : Turn → Bool
judges NoBan = false
judges Begins = false
judges Holds = true
judges Ends = true

-- there is a ban from now on
abbrev pub in_force : Turn → Bool
in_force NoBan = false
in_force Begins = true
in_force Holds = true
in_force Ends = false

-- no violation: the net of an entity's book lies between zero and the net of its base
abbrev pub obeys : (ℕ → ℤ) → (ℕ → ℕ → ℤ) → (ℕ → ℕ → ℤ) → ℕ → Bool
obeys w base book e = between (net w base e) (net w book e)

-- by how much an entity violates
abbrev pub violated_by : (ℕ → ℤ) → (ℕ → ℕ → ℤ) → (ℕ → ℕ → ℤ) → ℕ → ℕ
violated_by w base book e = violation (net w base e) (net w book e)

-- what becomes of a base quantity b: q is the book's, and ok says whether the entity obeys
abbrev pub new_pair : Turn → Bool → ℤ → ℤ → ℤ
new_pair NoBan ok q b = b
new_pair Begins ok q b = q
new_pair Holds ok q b = cond ok q b
new_pair Ends ok q b = pos 0

-- the base after a close: only the stock's contracts of the first n entities have changed
abbrev pub closed_base : ℕ → (ℕ → Bool) → Turn → (ℕ → ℤ) → (ℕ → ℕ → ℤ) → (ℕ → ℕ → ℤ) → ℕ → ℕ → ℤ
closed_base n in_stock turn w base book e c =
    cond (nat_lt e n && in_stock c) (new_pair turn (obeys w base book e) (book e c) (base e c)) (base e c)

-- the violated quantity of each of the first n entities, zero where nobody is judged
abbrev pub closed_violated : ℕ → Turn → (ℕ → ℤ) → (ℕ → ℕ → ℤ) → (ℕ → ℕ → ℤ) → ℕ → ℕ
closed_violated n turn w base book e = cond (nat_lt e n && judges turn) (violated_by w base book e) 0

-- the charge of each, likewise
abbrev pub closed_charge : ℕ → Turn → (ℕ → ℤ) → (ℕ → ℕ → ℤ) → (ℕ → ℕ → ℤ) → ℕ → ℕ → ℕ
closed_charge n turn w base book price e =
    cond (nat_lt e n && judges turn) (charge_of (violated_by w base book e) price) 0

-- how many of them are charged
abbrev pub charged_count : ℕ → Turn → (ℕ → ℤ) → (ℕ → ℕ → ℤ) → (ℕ → ℕ → ℤ) → ℕ
charged_count n turn w base book = count_below n (λ e. judges turn && not (obeys w base book e))

-- the base table, read as a grid is
abbrev pub base_of : List ℤ → ℕ → ℕ → ℤ
base_of cells = (gridded most_entities most_contracts cells).at

-- what a violation's quantity is, 0 where there is none
abbrev pub quantity_or_zero : Option Violation → ℕ
quantity_or_zero None = 0
quantity_or_zero (Some v) = v.quantity

-- what its charge is, 0 where there is none
abbrev pub charge_or_zero : Option Violation → ℕ
charge_or_zero None = 0
charge_or_zero (Some v) = v.charge

-- the violated quantity of each entity, in a row with the violation of each, or none
abbrev pub violated_in : List (Option Violation) → ℕ → ℕ
violated_in row e = quantity_or_zero (slice_index_or row e None)

-- the charge of each, likewise
abbrev pub charge_in : List (Option Violation) → ℕ → ℕ
charge_in row e = charge_or_zero (slice_index_or row e None)
