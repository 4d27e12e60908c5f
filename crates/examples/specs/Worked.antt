-- All examples together.
use Rattle.examples.specs.Readings.{FourClients}
use Rattle.examples.specs.IndexDay.{NetLimit, Settlement, Minutes}
use Rattle.examples.specs.Premises.{LargerIsMet, BanIsMet, MarketIsMet}
use Rattle.examples.specs.Ban.{MarketLimit, BanBounds, Violations, Charges, Misreadings}

-- each group of examples
pub record WorkedExamples : Type 0 where
  -- four clients' net, long and short, and what the market's come to
  pub four_clients : FourClients
  -- what is worth a net limit, and a ten-thousandth of a unit more
  pub net_limit : NetLimit
  -- a settlement over just enough cash, and over a paisa less
  pub settlement : Settlement
  -- when a snapshot is regular, final or declined
  pub minutes : Minutes
  -- a limit that isn't whole is rounded down once
  pub market_limit : MarketLimit
  -- where a ban begins and ends, to a ten-thousandth of a unit
  pub ban_bounds : BanBounds
  -- what is violated in a ban
  pub violations : Violations
  -- what is charged for it
  pub charges : Charges
  -- where a rule is easily misread
  pub misreadings : Misreadings
  -- the laws speak of something: two monitors of which the second has larger limits, or covers, and a breach less
  pub larger : LargerIsMet
  -- a ban of three closes, an entity that doesn't move in it, and one that does and is charged
  pub ban : BanIsMet
  -- and a close at which nobody is charged and the market shrinks
  pub market : MarketIsMet
