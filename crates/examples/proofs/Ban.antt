-- The stock and its ban, computed.
use Rattle.std.specs.Prelude.{refl}
use Rattle.book.specs.Holding.{count, blocked, reply, posted}
use Rattle.reading.specs.Readings.{net}
use Rattle.reading.specs.Missing.{missing}
use Rattle.examples.specs.Ban.{MarketLimit, BanBounds, Violations, Charges, Misreadings}

pub market_limit : MarketLimit
market_limit = record { limit = refl; answer = refl }

pub ban_bounds : BanBounds
unfolding count blocked reply posted net missing
ban_bounds = record { at_95 = refl; above_95 = refl; above_80 = refl; at_80 = refl }

pub violations : Violations
unfolding count blocked reply posted net missing
violations = record {
  larger = refl;
  crossed = refl;
  mirrored = refl;
  opened = refl;
  closed = refl;
  charged = refl;
}

pub charges : Charges
unfolding count blocked reply posted net missing
charges = record {
  least = refl;
  free = refl;
  between = refl;
  violated = refl;
  most = refl;
  capped = refl;
}

pub misreadings : Misreadings
unfolding count blocked reply posted net missing
misreadings = record {
  crossed = refl;
  unmoved = refl;
  moved = refl;
  base_stays = refl;
  again = refl;
  base_follows = refl;
  back = refl;
}
