use Rattle.std.proofs.Common.{◌≤◌, length, ◌∙◌, arith}
use Rattle.std.proofs.lemmas.List.{length-take-le}
use Rattle.book.proofs.Lists.{new_stored, new_state}
use Rattle.book.proofs.list.List.new.Goals as goal

pub invariant_of-result : goal.invariant_of-result
invariant_of-result c = record { stored = new_stored c.housed-entities.result c.args.contracts _ _ c.new-register.ensures }

pub returns : goal.returns
returns c =
    let rows = c.args.places.now in
    let m = c.min-used.result in
    let l : m ≤ length rows = omega (arith, c.min-used.ensures) in
    new_state c.args.entities c.args.contracts (length rows) _ _ c.housed-entities.result c.housed-entities.ensures c.new-register.ensures (length-take-le m rows l ∙ c.min-used.ensures)
