use Rattle.std.proofs.Common.{◌∙◌, w64, SFits, rules}
use Rattle.std.proofs.lemmas.Int.{to_z-of_z}
use Rattle.book.proofs.Lists.{old_is, spread_none}
use Rattle.book.proofs.list.ListHolds.quantity.Goals as goal

pub returns-in_default : goal.returns-in_default
returns-in_default c =
    let s = c.args.self.now in
    spread_none s.entities s.contracts s.register _ _ c.in_default.ensures

pub returns : goal.returns
returns c =
    let s = c.args.self.now in
    let f : SFits w64 c.quantity_at.result = search rules in
    to_z-of_z w64 c.quantity_at.result f
    ∙ (c.quantity_at.ensures ∙ old_is s.entities s.contracts s.register s.stored _ _ _ c.in-Some.ensures)
