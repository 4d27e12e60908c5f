use Rattle.std.proofs.Common.{sym, ◌∙◌}
use Rattle.rules.proofs.Limits.{limit_facts}
use Rattle.rules.proofs.limit.limit.Goals as goal

pub returns-clause-facts : goal.returns-clause-facts
returns-clause-facts c =
    rw c.limit_of.ensures (limit_facts c.args.free_float c.args.deliveries.now (sym c.is_accepted.ensures ∙ c.if-not-is_accepted.false))
