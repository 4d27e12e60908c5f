-- What a cover means, and when one is nowhere smaller than another.
use Rattle.std.specs.Prelude.{◌≡◌, ℕ, ◌+◌, ◌≤◌, min}
use Rattle.terms.specs.Bounds.{amount_bound}
use Rattle.terms.specs.declared.mark.Side.{Side}

-- what a cover means: an amount, in paise, for each entity, underlying and side
abbrev pub Amounts : Type 0
Amounts = ℕ → ℕ → Side → ℕ

-- an amount, or the largest where it is above that
abbrev pub cut : ℕ → ℕ
cut amount = min amount amount_bound

-- the law of every cover: no amount is above the largest
abbrev pub Bounded : Amounts → Type 0
Bounded c = (entity underlying : ℕ) (side : Side) → c entity underlying side ≤ amount_bound

-- two covers together: their sum, cut
abbrev pub joint : Amounts → Amounts → Amounts
joint c c' entity underlying side = cut (c entity underlying side + c' entity underlying side)

-- two covers, of any makes, are equal in meaning: every amount agrees
abbrev pub EqualCovers : Amounts → Amounts → Type 0
EqualCovers c c' = (entity underlying : ℕ) (side : Side) → c entity underlying side ≡ c' entity underlying side

-- the second cover is nowhere smaller than the first
abbrev pub NowhereSmaller : Amounts → Amounts → Type 0
NowhereSmaller c c' = (entity underlying : ℕ) (side : Side) → c entity underlying side ≤ c' entity underlying side
