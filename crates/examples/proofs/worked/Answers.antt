use Rattle.examples.proofs.Readings.{four_clients}
use Rattle.examples.proofs.IndexDay.{net_limit, settlement, minutes}
use Rattle.examples.proofs.Ban.{market_limit, ban_bounds, violations, charges, misreadings}
use Rattle.examples.proofs.Premises.{larger_is_met, ban_is_met, market_is_met}
use Rattle.examples.proofs.worked.Goals as goal

pub returns-clause-examples : goal.returns-clause-examples
returns-clause-examples c = record {
  four_clients = four_clients;
  net_limit = net_limit;
  settlement = settlement;
  minutes = minutes;
  market_limit = market_limit;
  ban_bounds = ban_bounds;
  violations = violations;
  charges = charges;
  misreadings = misreadings;
  larger = larger_is_met;
  ban = ban_is_met;
  market = market_is_met;
}
