-- What entities hold in an underlying, at a source's deltas.
use Rattle.std.specs.Prelude.{ℕ, Bool, not, ℤ}
use Rattle.std.specs.Int.{is_in_range}
use Rattle.terms.specs.Bounds.{price_bound}
use Rattle.delta.specs.Sources.{Source}
use Rattle.reading.specs.Sheets.{weight_of}
use Rattle.reading.specs.Readings.{net, reading_of, interest}
use Rattle.model.specs.Opening.{Listing}
use Rattle.model.specs.State.{Quantities}

-- the deltas of the underlying's contracts
abbrev pub weights : Listing → ℕ → Source → ℕ → ℤ
weights l u d = weight_of l.contracts u d.delta

-- an entity's net of some quantities in the underlying
abbrev pub net_at : Listing → ℕ → Source → Quantities → ℕ → ℤ
net_at l u d q e = net (weights l u d) q e

-- an entity's net, long and short
abbrev pub reading_at : Listing → ℕ → Source → Quantities → ℕ → ℤ × ℤ × ℤ
reading_at l u d q = reading_of (weights l u d) q

-- market open interest in the underlying
abbrev pub interest_at : Listing → ℕ → Source → Quantities → ℕ
interest_at l u d q = interest l.entities (weights l u d) q

-- the source's price is out of range
abbrev pub is_unpriced : Source → Bool
is_unpriced d = not (is_in_range 1 price_bound d.price)
