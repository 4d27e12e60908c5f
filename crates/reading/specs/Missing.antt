-- The first contract that lacks a needed delta, and the first entity that needs it.
use Rattle.std.specs.Prelude.{◌≡◌, ℕ, ◌<◌, Bool, true, cond, not, ◌||◌, ℤ, is_some, Some, None, Option}
use Rattle.book.specs.Holding.{is_zero}
use Rattle.terms.specs.Bounds.{most_contracts}
use Rattle.reading.specs.Sums.{first_below}

-- the first entity below n that needs the delta that contract c lacks
abbrev pub first_needing : ℕ → (ℕ → Bool) → (ℕ → ℕ → Bool) → ℕ → Option ℕ
first_needing n lacks needs c = cond (lacks c) (first_below n (λ e. needs e c)) None

-- a contract with such an entity
abbrev pub paired : ℕ → Option ℕ → Option (ℕ × ℕ)
paired c None = None
paired c (Some e) = Some (c, e)

-- a contract, if there is one, with its first such entity
abbrev pub with_first : (ℕ → Option ℕ) → Option ℕ → Option (ℕ × ℕ)
with_first f None = None
with_first f (Some c) = paired c (f c)

-- the first contract that lacks a delta that some entity below n needs, and the first such entity
unfoldable pub missing : ℕ → (ℕ → Bool) → (ℕ → ℕ → Bool) → Option (ℕ × ℕ)
missing n lacks needs =
    with_first (first_needing n lacks needs) (first_below most_contracts (λ c. is_some (first_needing n lacks needs c)))

-- contract c lacks a delta, and entity e, one of the first n, needs it
abbrev pub Missed : ℕ → (ℕ → Bool) → (ℕ → ℕ → Bool) → ℕ → ℕ → Type 0
Missed n lacks needs c e = (c < most_contracts) × (e < n) × (lacks c ≡ true) × (needs e c ≡ true)

-- what is told is missed, and no earlier contract is, nor an earlier entity of that contract; none is told only where none is missed
abbrev pub FirstMissing : ℕ → (ℕ → Bool) → (ℕ → ℕ → Bool) → Option (ℕ × ℕ) → Type 0
FirstMissing n lacks needs None = (c e : ℕ) → Missed n lacks needs c e → ⊥
FirstMissing n lacks needs (Some told) =
    Missed n lacks needs told.0 told.1
    × ((c e : ℕ) → c < told.0 → Missed n lacks needs c e → ⊥)
    × ((e : ℕ) → e < told.1 → Missed n lacks needs told.0 e → ⊥)

-- an entity holds some of a contract
abbrev pub holds : (ℕ → ℕ → ℤ) → ℕ → ℕ → Bool
holds q entity contract = not (is_zero (q entity contract))

-- the same in either of two holders
abbrev pub holds_either : (ℕ → ℕ → ℤ) → (ℕ → ℕ → ℤ) → ℕ → ℕ → Bool
holds_either q p entity contract = holds q entity contract || holds p entity contract
