use Rattle.std.proofs.Common.{Bool, min, ℤ, pos, sym, take, ap, ◌∙◌, arith, rules, tests}
use Rattle.std.specs.List.{position}
use Rattle.std.proofs.lemmas.Iterator.{YieldsList-from_slice, YieldsList-from_take}
use Rattle.std.proofs.lemmas.Iterator.Search.{position_from_yields_List}
use Rattle.std.proofs.lemmas.List.{take_min}
use Rattle.reading.proofs.Firsts.{first_place}
use Rattle.index.specs.Values.{is_too_large}
use Rattle.index.proofs.readings.first_too_large.Goals as goal

pub returns : goal.returns
returns c =
    let large : ℤ × ℤ × ℤ → Bool = λ r. is_too_large r c.args.price in
    let all = c.args.readings.now in
    let n = c.args.entities in
    position_from_yields_List large _ _ _ c.position.ensures.ran (YieldsList-from_take n (YieldsList-from_slice all cc) c.take.ensures.count) (λ x b q k. search (rules, tests))
    ∙ ap (position large) (sym (take_min n all) ∙ ap (λ k. take (min n k) all) c.told-readings)
    ∙ first_place large all (min n 128) (pos 0, pos 0, pos 0) (omega (arith, c.told-readings))
