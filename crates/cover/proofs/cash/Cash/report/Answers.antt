use Rattle.std.proofs.Common.{sym, ◌∙◌, arith}
use Rattle.cover.proofs.Reports.{put_small, pairs_put}
use Rattle.cover.proofs.cash.Cash.report.Goals as goal

pub invariant_of-self : goal.invariant_of-self
invariant_of-self c = record { small = rw c.put.ensures.state (put_small _ _ _ c.args.self.now.small (omega arith)) }

pub returns-clause-pairs : goal.returns-clause-pairs
returns-clause-pairs c i j =
    rw c.put.ensures.state
    (pairs_put c.args.self.now.reports c.args.entity c.args.underlying c.in_ok-key.key c.args.amount _ (sym c.in_ok-key.ensures.ok_part ∙ c.key_of.ensures) c.in_ok-put.ensures.answer i j)
