-- How the words at the end of a line are taken one by one.
use Rattle.std.proofs.Common.{◌≡◌, ℕ, zero, suc, ◌-◌, ◌<◌, true, false, List, [], ◌∷◌, map, take, drop, is_some, Some, None, Option, MatchOption, Bor, sym, refl, ap, ◌∙◌, arith}
use Rattle.std.specs.Option.{some_prefix}
use Rattle.std.proofs.lemmas.Bool.{true≢false}
use Rattle.tails.specs.Tails.{values_of}

-- a word less to pass over
pub drop_one : (n : ℕ) (ws rest : List (List ℕ)) (r : Option (Bor (List ℕ))) → 0 < n → MatchOption r ((ws ≡ []) × (rest ≡ [])) (λ x. ws ≡ x.now ∷ rest) → drop (n - 1) rest ≡ drop n ws
drop_one zero ws rest r h e = absurd (omega arith)
drop_one (suc n) ws rest None h e = ap (drop (suc n - 1)) e.1 ∙ none (suc n - 1) ∙ sym (ap (drop (suc n)) e.0)
  where
    none : (k : ℕ) → drop {A = List ℕ} k [] ≡ []
    none zero = refl
    none (suc k) = refl
drop_one (suc n) ws rest (Some x) h e = let on : suc n - 1 ≡ n = omega arith in ap (λ k. drop k rest) on ∙ sym (ap (drop (suc n)) e)

-- a word that is read as o, and those behind it
module _ {X : Type 0} (f : List ℕ → Option X) (n m : ℕ) (ws rest : List (List ℕ)) (w : List ℕ) (o : Option X) (more : n ≡ suc m) (front : ws ≡ w ∷ rest) (read : o ≡ f w) where
  values_now : values_of f (take n ws) ≡ some_prefix (o ∷ map f (take m rest))
  values_now = ap (λ l. values_of f (take n l)) front ∙ ap (λ k. values_of f (take k (w ∷ rest))) more ∙ ap (λ p. some_prefix (p ∷ map f (take m rest))) (sym read)

  -- the values end at a word that is none
  pub values_end : is_some o ≡ false → MatchOption o ((values_of f (take n ws) ≡ []) × (◌≡◌ {A = List X} [] [])) (λ x. values_of f (take n ws) ≡ x ∷ [])
  values_end = go o values_now
    where
      go : (p : Option X) → values_of f (take n ws) ≡ some_prefix (p ∷ map f (take m rest)) → is_some p ≡ false → MatchOption p ((values_of f (take n ws) ≡ []) × (◌≡◌ {A = List X} [] [])) (λ x. values_of f (take n ws) ≡ x ∷ [])
      go None e h = (e, refl)
      go (Some x) e h = absurd (true≢false h)

  pub values_go_on : is_some o ≡ true → MatchOption o ((values_of f (take n ws) ≡ []) × (values_of f (take m rest) ≡ [])) (λ x. values_of f (take n ws) ≡ x ∷ values_of f (take m rest))
  values_go_on = go o values_now
    where
      go : (p : Option X) → values_of f (take n ws) ≡ some_prefix (p ∷ map f (take m rest)) → is_some p ≡ true → MatchOption p ((values_of f (take n ws) ≡ []) × (values_of f (take m rest) ≡ [])) (λ x. values_of f (take n ws) ≡ x ∷ values_of f (take m rest))
      go None e h = absurd (true≢false (sym h))
      go (Some x) e h = e
