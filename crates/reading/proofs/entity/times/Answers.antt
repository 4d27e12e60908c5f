use Rattle.std.proofs.Common.{◌≡◌, ap₂, arith, w64, SFits, to_z, of_z}
use Rattle.std.proofs.lemmas.Int.{ints, to_z-of_z}
use Rattle.reading.specs.Readings.{part}
use Rattle.reading.proofs.Sizes.{part_small}
use Rattle.reading.proofs.entity.times.Goals as goal

-- the product that is computed is the part
same : (c : goal.After-from) → part (to_z w64 (of_z w64 c.args.quantity)) (to_z w64 (of_z w64 c.from.result)) ≡ part c.args.quantity c.args.weight
same c =
    let q : to_z w64 (of_z w64 c.args.quantity) ≡ c.args.quantity = omega (arith, ints) in
    let w : to_z w64 (of_z w64 c.from.result) ≡ c.args.weight = omega (arith, ints) in
    ap₂ part q w

fits : (c : goal.After-from) → SFits w64 (part c.args.quantity c.args.weight)
fits c = omega (arith, ints, part_small c.args.quantity c.args.weight c.requires.quantity c.requires.weight)

pub returns : goal.returns
returns c = rw (same c) (to_z-of_z w64 (part c.args.quantity c.args.weight) (fits c))
