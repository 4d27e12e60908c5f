use Rattle.std.proofs.Common.{◌∙◌, ap, ◌∷◌, []}
use Rattle.std.proofs.lemmas.Bool.Decides.{Decides-eqb}
use Rattle.std.proofs.lemmas.Slice.Eq.{strip_suffix_is}
use Rattle.text.proofs.Lines.{unreturned_is}
use Rattle.text.proofs.words.without_return.Goals as goal

pub returns : goal.returns
returns c =
    ap (λ l. l.now) c.unwrap_or.ensures ∙ unreturned_is c.args.line c.strip_suffix.result (strip_suffix_is Decides-eqb c.args.line.now (13 ∷ []) c.strip_suffix.result c.strip_suffix.ensures.cases)
