-- The change that a ticket may hold: that of a posting that was accepted.
use Rattle.std.specs.Prelude.{◌*◌, Bool, true, Some, None, Option, nat_le, unsigned_abs}
use Rattle.terms.specs.Bounds.{quantity_bound}
use Rattle.terms.specs.declared.command.Trade.{Trade}

-- at most twice the bound of a quantity
abbrev pub modest : Option Trade → Bool
modest None = true
modest (Some d) = nat_le (unsigned_abs d.change) (2 * quantity_bound)
