use Rattle.std.proofs.Common.{is_some, rules, tests}
use Rattle.std.proofs.lemmas.Iterator.{YieldsList-from_take}
use Rattle.std.proofs.lemmas.Iterator.Consumers.{YieldsList-from_first}
use Rattle.std.proofs.lemmas.Iterator.Search.{all_from_yields_List}
use Rattle.text.specs.Words.{to_come}
use Rattle.tails.proofs.all_are.Goals as goal

pub returns : goal.returns
returns g c =
    all_from_yields_List (λ w. is_some (g.T.Worded.worded w)) c.all.new.self _ _ c.all.ensures.ran
    (YieldsList-from_take c.args.n (YieldsList-from_first (λ x. x.now) to_come (to_come c.args.words) (cc)) c.take.ensures.count) (λ x b q k. search (rules, tests))
