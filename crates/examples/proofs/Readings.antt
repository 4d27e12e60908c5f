-- The readings, computed.
use Rattle.std.specs.Prelude.{refl}
use Rattle.book.specs.Holding.{count, blocked, reply, posted}
use Rattle.reading.specs.Readings.{net, long, short}
use Rattle.examples.specs.Readings.{FourClients}

pub four_clients : FourClients
unfolding count blocked reply posted net long short
four_clients = record {
  client_0 = refl;
  client_1 = refl;
  client_2 = refl;
  client_3 = refl;
  market_interest = refl;
  notional_interest = refl;
}
