use Rattle.std.proofs.Common.{take, rules, tests}
use Rattle.text.specs.Words.{to_come}
use Rattle.tails.proofs.Whole.{each_tested}
use Rattle.tails.proofs.Tail.checked.Goals as goal

pub returns : goal.returns
returns g c =
    let k = each_tested g.T.Worded.worded (take c.args.n (to_come c.args.words)) in
    search (rules, tests, k)
