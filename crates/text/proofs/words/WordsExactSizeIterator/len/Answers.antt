use Rattle.std.proofs.Common.{rules}
use Rattle.text.proofs.Lines.{few_words}
use Rattle.text.proofs.words.WordsExactSizeIterator.len.Goals as goal

pub count-requires-clause-fits : goal.count-requires-clause-fits
count-requires-clause-fits c = let few = few_words c.args.self.now.rest.now in search (rules, few)
