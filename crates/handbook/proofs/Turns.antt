-- One call more at the end of a run.
use Rattle.std.proofs.Common.{◌≡◌, ℕ, zero, suc, ◌+◌, ◌<◌, ◌≤◌, List, [], ◌∷◌, ◌++◌, map, length, get_or, take, drop, set, sym, refl, ap, ◌∙◌, add-one, arith, length-take}
use Rattle.std.proofs.lemmas.List.{map_more, take_all, length-map}
use Rattle.model.specs.Causes.{Answer}
use Rattle.model.specs.State.{State}
use Rattle.model.specs.Calls.{Call, step}
use Rattle.model.specs.Runs.{outcome_from, answers_from}

pub outcome_push : (s : State) (cs : List Call) (c : Call) → outcome_from s (cs ++ (c ∷ [])) ≡ (step (outcome_from s cs) c).1
outcome_push s [] c = refl
outcome_push s (d ∷ cs) c = outcome_push (step s d).1 cs c

pub answers_push : (s : State) (cs : List Call) (c : Call) → answers_from s (cs ++ (c ∷ [])) ≡ answers_from s cs ++ ((step (outcome_from s cs) c).0 ∷ [])
answers_push s [] c = refl
answers_push s (d ∷ cs) c = ap (λ (l : List Answer). (step s d).0 ∷ l) (answers_push (step s d).1 cs c)

-- the turn of a loop over things that mean calls
module _ {X : Type 0} (f : X → Call) (s : State) (xs : List X) (i : ℕ) (x : X) where
  pub more_calls : i < length xs → x ≡ get_or xs i x → map f (take (i + 1) xs) ≡ map f (take i xs) ++ (f x ∷ [])
  more_calls h e = map_more f xs i x h ∙ ap (λ (y : X). map f (take i xs) ++ (f y ∷ [])) (sym e)

  pub one_more : (t t' : State) (a : Answer) → i < length xs → x ≡ get_or xs i x → t ≡ outcome_from s (map f (take i xs)) → (a, t') ≡ step t (f x) → t' ≡ outcome_from s (map f (take (i + 1) xs))
  one_more t t' a h e inv turn =
      ap (λ (p : Answer × State). p.1) turn
      ∙ ap (λ (r : State). (step r (f x)).1) inv
      ∙ sym (outcome_push s (map f (take i xs)) (f x))
      ∙ ap (outcome_from s) (sym (more_calls h e))

  pub answer_more : (t t' : State) (a : Answer) → i < length xs → x ≡ get_or xs i x → t ≡ outcome_from s (map f (take i xs)) → (a, t') ≡ step t (f x) → answers_from s (map f (take i xs)) ++ (a ∷ []) ≡ answers_from s (map f (take (i + 1) xs))
  answer_more t t' a h e inv turn =
      ap (λ (b : Answer). answers_from s (map f (take i xs)) ++ (b ∷ [])) (ap (λ (p : Answer × State). p.0) turn ∙ ap (λ (r : State). (step r (f x)).0) inv)
      ∙ sym (answers_push s (map f (take i xs)) (f x))
      ∙ ap (answers_from s) (sym (more_calls h e))

pub all_calls : {X : Type 0} (f : X → Call) (xs : List X) (i : ℕ) → length xs ≤ i → map f (take i xs) ≡ map f xs
all_calls f xs i h = ap (map f) (take_all i xs h)

pub length_answers : (s : State) (cs : List Call) → length (answers_from s cs) ≡ length cs
length_answers s [] = refl
length_answers s (c ∷ cs) = ap suc (length_answers (step s c).1 cs)

-- a front of a list that is written place by place
pub front_more : {A : Type 0} (bs ys : List A) (i : ℕ) (v : A) → length bs ≡ i → i < length ys → set (bs ++ drop i ys) i v ≡ (bs ++ (v ∷ [])) ++ drop (suc i) ys
front_more [] (y ∷ ys) zero v e h = refl
front_more [] [] i v e h = absurd (omega arith)
front_more [] (y ∷ ys) (suc i) v e h = absurd (omega arith)
front_more (b ∷ bs) ys zero v e h = absurd (omega arith)
front_more (b ∷ bs) [] (suc i) v e h = absurd (omega arith)
front_more {A} (b ∷ bs) (y ∷ ys) (suc i) v e h = ap (λ (l : List A). b ∷ l) (front_more bs ys i v (omega arith) (omega arith))

pub length_told : {X : Type 0} (f : X → Call) (s : State) (xs : List X) (i : ℕ) → i ≤ length xs → length (answers_from s (map f (take i xs))) ≡ i
length_told f s xs i h = length_answers s (map f (take i xs)) ∙ length-map (take i xs) f ∙ simp length-take (omega arith)

pub rows_more : {X : Type 0} (f : X → Call) (s : State) (xs : List X) (i : ℕ) (ys rows : List Answer) (a : Answer) → i < length xs → length xs ≤ length ys →
    rows ≡ answers_from s (map f (take i xs)) ++ drop i ys → answers_from s (map f (take i xs)) ++ (a ∷ []) ≡ answers_from s (map f (take (i + 1) xs)) → set rows i a ≡ answers_from s (map f (take (i + 1) xs)) ++ drop (i + 1) ys
rows_more f s xs i ys rows a h k inv e =
    ap (λ (l : List Answer). set l i a) inv
    ∙ front_more (answers_from s (map f (take i xs))) ys i a (length_told f s xs i (omega arith)) (omega arith)
    ∙ ap (λ (l : List Answer). l ++ drop (suc i) ys) e
    ∙ ap (λ (n : ℕ). answers_from s (map f (take (i + 1) xs)) ++ drop n ys) (sym (add-one i))
