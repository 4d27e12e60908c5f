-- Covers that are equal in meaning are one, and a joint cover grows with its two.
use Rattle.std.proofs.Common.{◌≡◌, arith}
use Rattle.cover.specs.Covers.{Amounts, EqualCovers, NowhereSmaller, joint}

pub same_cover : (c c' : Amounts) → EqualCovers c c' → c ≡ c'
same_cover c c' h = λ i entity underlying side. h entity underlying side i

pub joint_grows : (c c' d d' : Amounts) → NowhereSmaller c d → NowhereSmaller c' d' → NowhereSmaller (joint c c') (joint d d')
joint_grows c c' d d' h k entity underlying side = omega (arith, h entity underlying side, k entity underlying side)
