use Rattle.std.proofs.Common.{◌<◌, [], ◌∷◌, ◌++◌, length, map, take, get_or, sym, ap, ◌∙◌, arith}
use Rattle.std.proofs.lemmas.List.{take_more_set, map_more}
use Rattle.capi.specs.Days.{number_of}
use Rattle.capi.proofs.Bytes.{read_number}
use Rattle.capi.proofs.days.read.Goals as goal

-- one more day stands behind those so far
pub loop-k-preserved : goal.loop-k-preserved
loop-k-preserved c =
    let whole = c.args.whole.now in
    let k = c.loop-k.k in
    let day = c.from_be_bytes.result in
    let room : k < length c.loop-k.daily = omega arith in
    take_more_set c.loop-k.daily k day room
    ∙ ap (λ before. before ++ day ∷ []) c.loop-k.invariant
    ∙ ap (λ value. map number_of (take k whole) ++ value ∷ []) (c.from_be_bytes.ensures ∙ read_number (get_or whole k []) (c.told-whole k c.loop-k-test.true))
    ∙ sym (map_more number_of whole k [] c.loop-k-test.true)
