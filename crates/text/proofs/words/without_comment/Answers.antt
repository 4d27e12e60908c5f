use Rattle.std.proofs.Common.{◌∙◌, ap, take, eqb, rules, tests}
use Rattle.std.proofs.lemmas.Iterator.{YieldsList-from_slice}
use Rattle.std.proofs.lemmas.Iterator.Search.{position_from_yields_List}
use Rattle.text.proofs.Lines.{place_or_end}
use Rattle.text.proofs.words.without_comment.Goals as goal

pub returns : goal.returns
returns c =
    ap (λ n. take n c.args.line.now) (c.unwrap_or-end.ensures ∙ place_or_end (λ b. eqb b 35) c.args.line.now c.position.result
    (position_from_yields_List (λ b. eqb b 35) _ _ _ c.position.ensures.ran (YieldsList-from_slice c.args.line.now cc) (λ x b q k. search (rules, tests))))
