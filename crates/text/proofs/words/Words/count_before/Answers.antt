use Rattle.std.proofs.Common.{◌∙◌, ap, not, rules, tests}
use Rattle.std.specs.Str.{bytes_eq}
use Rattle.std.proofs.lemmas.Iterator.Consumers.{YieldsList-from_first, count_from_yields_List}
use Rattle.std.proofs.lemmas.Iterator.Search.{YieldsList-from_take_while}
use Rattle.std.proofs.lemmas.List.Folds.{length-prefix_len}
use Rattle.text.specs.Words.{to_come}
use Rattle.text.proofs.Lines.{few_words}
use Rattle.text.proofs.words.Words.count_before.Goals as goal

pub count-passed-requires-clause-fits : goal.count-passed-requires-clause-fits
count-passed-requires-clause-fits c =
    let few = few_words c.args.self.rest.now in
    let source = c.take_while.ensures.source in
    search (rules, few, source)

pub returns : goal.returns
returns c =
    count_from_yields_List c.take_while.result c.count-passed.result c.count-passed.ensures.ran
    (YieldsList-from_take_while _ (λ w. not (bytes_eq w c.args.name.now)) (YieldsList-from_first (λ x. x.now) to_come (to_come c.args.self) (ap to_come c.take_while.ensures.source)) c.take_while.ensures.closure c.take_while.ensures.done (λ x b q k. search (rules, tests)))
    ∙ length-prefix_len (λ w. not (bytes_eq w c.args.name.now)) (to_come c.args.self)
