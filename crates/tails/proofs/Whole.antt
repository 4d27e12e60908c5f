-- The values of words where each is one, and where one is none.
use Rattle.std.proofs.Common.{◌≡◌, ℕ, ◌&&◌, true, false, cond, List, [], ◌∷◌, map, is_some, Some, None, Option, Bool, refl, ap, ◌∙◌}
use Rattle.std.specs.Option.{option_and_then, option_map, some_prefix}
use Rattle.tails.specs.Tails.{all_are, values_of, each_of}

-- the values of all the words, by the test of each
pub each_tested : {X : Type 0} (f : List ℕ → Option X) (ws : List (List ℕ)) → cond (all_are f ws) (Some (values_of f ws)) None ≡ each_of f ws
each_tested f [] = refl
each_tested {X} f (w ∷ ws) = go (f w) (each_tested f ws)
  where
    kept : (x : X) (t : Bool) (xs : List X) → cond t (Some (x ∷ xs)) None ≡ option_map (λ ys. x ∷ ys) (cond t (Some xs) None)
    kept x true xs = refl
    kept x false xs = refl

    go : (o : Option X) → cond (all_are f ws) (Some (values_of f ws)) None ≡ each_of f ws → cond (is_some o && all_are f ws) (Some (some_prefix (o ∷ map f ws))) None ≡ option_and_then (λ x. option_map (λ xs. x ∷ xs) (each_of f ws)) o
    go None e = refl
    go (Some x) e = kept x (all_are f ws) (values_of f ws) ∙ ap (option_map (λ xs. x ∷ xs)) e
