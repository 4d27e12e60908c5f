-- The words at the end of a line, each as what f reads it as.
use Rattle.std.specs.Prelude.{ℕ, Bool, List, [], ◌∷◌, map, take, is_some, Some, Option, option_map}
use Rattle.std.specs.List.{list_all}
use Rattle.std.specs.Option.{some_prefix, option_and_then}
use Rattle.text.specs.Words.{to_come}
use Rattle.tails.specs.declared.Tail.{Tail}

-- whether each word is a value
abbrev pub all_are : {X : Type 0} → (List ℕ → Option X) → List (List ℕ) → Bool
all_are f ws = list_all (λ w. is_some (f w)) ws

-- the values, up to the first word that is none
abbrev pub values_of : {X : Type 0} → (List ℕ → Option X) → List (List ℕ) → List X
values_of f ws = some_prefix (map f ws)

-- the values of all the words, if each is one
abbrev pub each_of : {X : Type 0} → (List ℕ → Option X) → List (List ℕ) → Option (List X)
each_of f [] = Some []
each_of f (w ∷ ws) = option_and_then (λ x. option_map (λ xs. x ∷ xs) (each_of f ws)) (f w)

-- the words that a cursor has still to read
abbrev pub words_left : {X : Type 0} → Tail X → List (List ℕ)
words_left t = take t.left (to_come t.words)

-- the values that it has still to give
abbrev pub left_of : {X : Type 0} → (List ℕ → Option X) → Tail X → List X
left_of f t = values_of f (words_left t)
