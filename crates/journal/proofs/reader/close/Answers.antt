use Rattle.std.proofs.Common.{codes, not, rules}
use Rattle.std.specs.Str.{bytes_eq}
use Rattle.std.proofs.lemmas.List.Sums.{prefix_len-le-length}
use Rattle.text.specs.Words.{to_come}
use Rattle.journal.proofs.reader.close.Goals as goal

pub overflow_sub-len : goal.overflow_sub-len
overflow_sub-len c = let k = prefix_len-le-length (λ w. not (bytes_eq w (codes "/"))) (to_come c.args.words) in search (rules, k)
