-- What words are read as.
use Rattle.std.specs.Prelude.{ℕ, List, Option}
use Rattle.std.specs.Option.{option_and_then, option_map}
use Rattle.text.specs.Numbers.{number_of, unsigned}
use Rattle.text.specs.Words.{before_colon, behind_colon}

-- an unsigned number
abbrev pub unsigned_of : List ℕ → Option ℕ
unsigned_of w = option_map unsigned (number_of w)

-- what stands before a colon, read by f, and what stands behind it, read by g
abbrev pub pair_of : {X Y : Type 0} → (List ℕ → Option X) → (List ℕ → Option Y) → List ℕ → Option (X × Y)
pair_of f g w = option_and_then (λ x. option_map (λ y. (x, y)) (g (behind_colon w))) (f (before_colon w))
