use Rattle.std.proofs.Common.{rules, tests}
use Rattle.std.specs.Str.{bytes_eq}
use Rattle.std.proofs.lemmas.Iterator.{YieldsList-from_slice}
use Rattle.std.proofs.lemmas.Iterator.Search.{find_from_yields_List}
use Rattle.journal.proofs.Taking.{named_is}
use Rattle.journal.proofs.names.named.Goals as goal

pub returns : goal.returns
returns g c =
    let k = named_is c.args.word.now c.args.table.now c.find-row.result (find_from_yields_List (λ row. bytes_eq c.args.word.now row.0.now) c.find-row.new.self _ c.find-row.result c.find-row.ensures.ran (YieldsList-from_slice c.args.table.now cc) (λ x b q k. search (rules, tests))) in
    search (rules, k)
