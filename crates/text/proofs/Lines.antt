-- How a line falls into words.
use Rattle.std.proofs.Common.{◌≡◌, ◌≢◌, ℕ, ◌+◌, ◌<◌, ◌≤◌, Bool, true, false, cond, not, eqb, ltb, List, [], ◌∷◌, ◌++◌, length, take, drop, unwrap_or, Some, None, Option, MatchOption, Bor, sym, refl, ap, ◌∙◌, one-add, arith, length-drop, true-eqb, position, ◌-◌}
use Rattle.std.specs.List.{position_or_len, slice_split, onto_first}
use Rattle.std.proofs.lemmas.Bool.{ltb-true, ltb-false}
use Rattle.std.proofs.lemmas.List.{length-take-le, at_drop_all, take_all}
use Rattle.std.proofs.lemmas.List.Sums.{prefix_len-le-length}
use Rattle.text.specs.Words.{blank, unreturned, solid, solid_pieces}

-- a line that ends in a carriage return, and one that does not
unreturned_front : (front : List ℕ) → unreturned (front ++ 13 ∷ []) ≡ front
unreturned_front [] = refl
unreturned_front (a ∷ []) = refl
unreturned_front (a ∷ b ∷ front) = ap (λ l. a ∷ l) (unreturned_front (b ∷ front))

unreturned_all : (bs : List ℕ) → ((front : List ℕ) → bs ≢ front ++ 13 ∷ []) → unreturned bs ≡ bs
unreturned_all [] h = refl
unreturned_all (b ∷ []) h = go (eqb b 13) refl
  where
    go : (t : Bool) → eqb b 13 ≡ t → cond t [] (b ∷ []) ≡ b ∷ []
    go true e = absurd (h [] (ap (λ n. n ∷ []) (true-eqb b 13 (sym e))))
    go false e = refl
unreturned_all (b ∷ c ∷ bs) h = ap (λ l. b ∷ l) (unreturned_all (c ∷ bs) (λ front e. h (b ∷ front) (ap (λ l. b ∷ l) e)))

pub unreturned_is : (line : Bor (List ℕ)) (o : Option (Bor (List ℕ))) → MatchOption o ((front : List ℕ) → line.now ≢ front ++ 13 ∷ []) (λ x. line.now ≡ x.now ++ 13 ∷ []) → (unwrap_or o line).now ≡ unreturned line.now
unreturned_is line None h = sym (unreturned_all line.now h)
unreturned_is line (Some x) h = sym (ap unreturned h ∙ unreturned_front x.now)

-- the place of the first element that passes, as `position` tells it
module _ {X : Type 0} (p : X → Bool) (xs : List X) (o : Option ℕ) (is : o ≡ cond (ltb (position_or_len p xs) (length xs)) (Some (position_or_len p xs)) None) where
  pub place_cases : MatchOption o (length xs ≤ position_or_len p xs) (λ i. (i ≡ position_or_len p xs) × (i < length xs))
  place_cases = rw is (go (ltb (position_or_len p xs) (length xs)) refl)
    where
      go : (t : Bool) → ltb (position_or_len p xs) (length xs) ≡ t → MatchOption (cond t (Some (position_or_len p xs)) None) (length xs ≤ position_or_len p xs) (λ i. (i ≡ position_or_len p xs) × (i < length xs))
      go true h = (refl, ltb-true _ _ h)
      go false h = ltb-false _ _ h

  -- where none passes, it is the end
  pub place_or_end : unwrap_or o (length xs) ≡ position_or_len p xs
  place_or_end = ap (λ q. unwrap_or q (length xs)) is ∙ go (ltb (position_or_len p xs) (length xs)) refl
    where
      go : (t : Bool) → ltb (position_or_len p xs) (length xs) ≡ t → unwrap_or (cond t (Some (position_or_len p xs)) None) (length xs) ≡ position_or_len p xs
      go true h = refl
      go false h = omega (arith, prefix_len-le-length (λ x. not (p x)) xs, ltb-false _ _ h)

-- where the first word starts
abbrev start : List ℕ → ℕ
start bs = position_or_len (λ b. not (blank b)) bs

-- separators in front change no word
past_blanks : (bs : List ℕ) → solid_pieces (drop (start bs) bs) ≡ solid_pieces bs
past_blanks [] = refl
past_blanks (b ∷ bs) = go (blank b) refl (past_blanks bs)
  where
    go : (t : Bool) → blank b ≡ t → solid_pieces (drop (start bs) bs) ≡ solid_pieces bs → solid_pieces (drop (start (b ∷ bs)) (b ∷ bs)) ≡ solid_pieces (b ∷ bs)
    go true e ih = simp (e, one-add) ih
    go false e ih = simp e

starts_solid : (bs : List ℕ) → start bs < length bs → 0 < position_or_len blank (drop (start bs) bs)
starts_solid [] h = absurd (omega arith)
starts_solid (b ∷ bs) h = go (blank b) refl (starts_solid bs)
  where
    go : (t : Bool) → blank b ≡ t → (start bs < length bs → 0 < position_or_len blank (drop (start bs) bs)) → 0 < position_or_len blank (drop (start (b ∷ bs)) (b ∷ bs))
    go true e ih = simp (e, one-add) (ih (let k = simp e at h in omega arith))
    go false e ih = simp e (omega arith)

-- the pieces behind the first one
abbrev behind : List ℕ → List (List ℕ)
behind [] = []
behind (b ∷ bs) = cond (blank b) (slice_split blank bs) (behind bs)

-- the first piece ends at the first separator
first_piece : (bs : List ℕ) → slice_split blank bs ≡ take (position_or_len blank bs) bs ∷ behind bs
first_piece [] = refl
first_piece (b ∷ bs) = go (blank b) refl (first_piece bs)
  where
    go : (t : Bool) → blank b ≡ t → slice_split blank bs ≡ take (position_or_len blank bs) bs ∷ behind bs → slice_split blank (b ∷ bs) ≡ take (position_or_len blank (b ∷ bs)) (b ∷ bs) ∷ behind (b ∷ bs)
    go true e ih = simp e
    go false e ih = simp (e, one-add) (ap (onto_first b) ih)

-- and behind it an empty one begins
edge : (bs : List ℕ) → slice_split blank (drop (position_or_len blank bs) bs) ≡ [] ∷ behind bs
edge [] = refl
edge (b ∷ bs) = go (blank b) refl (edge bs)
  where
    go : (t : Bool) → blank b ≡ t → slice_split blank (drop (position_or_len blank bs) bs) ≡ [] ∷ behind bs → slice_split blank (drop (position_or_len blank (b ∷ bs)) (b ∷ bs)) ≡ [] ∷ behind (b ∷ bs)
    go true e ih = simp e
    go false e ih = simp (e, one-add) ih

taken : (w : List ℕ) (ps : List (List ℕ)) → 0 < length w → solid (w ∷ ps) ≡ w ∷ solid ps
taken [] ps h = absurd (omega arith)
taken (b ∷ w) ps h = refl

-- the first word of what begins with one
one_word : (bs : List ℕ) → 0 < position_or_len blank bs → solid_pieces bs ≡ take (position_or_len blank bs) bs ∷ solid_pieces (drop (position_or_len blank bs) bs)
one_word bs h =
    let n : ℕ = position_or_len blank bs in
    let long : 0 < length (take n bs) = omega (arith, length-take-le n bs (prefix_len-le-length (λ b. not (blank b)) bs)) in
    ap solid (first_piece bs) ∙ taken (take n bs) (behind bs) long ∙ ap (λ ps. take n bs ∷ solid ps) (sym (edge bs))

-- the words of what is left of a line: none, or the one cut off and those behind it
pub none_left : (bs : List ℕ) → None ≡ position (λ b. not (blank b)) bs → solid_pieces bs ≡ []
none_left bs e = sym (past_blanks bs) ∙ at_drop_all solid_pieces bs (start bs) (place_cases (λ b. not (blank b)) bs None e)

module _ (bs text word rest : List ℕ) (i j : ℕ) (found : Some i ≡ position (λ b. not (blank b)) bs) (from : text ≡ take (length bs - i) (drop i bs)) (end : j ≡ position_or_len blank text) (front : word ≡ take j text) (back : rest ≡ drop j text) where
  pub one_more : solid_pieces bs ≡ word ∷ solid_pieces rest
  one_more =
      let place = place_cases (λ b. not (blank b)) bs (Some i) found in
      let at : text ≡ drop (start bs) bs = from ∙ take_all (length bs - i) (drop i bs) (simp length-drop (omega arith)) ∙ ap (λ n. drop n bs) place.0 in
      let some : 0 < position_or_len blank text = rw at (starts_solid bs (omega (arith, place))) in
      sym (past_blanks bs) ∙ ap solid_pieces (sym at) ∙ one_word text some ∙ ap (λ n. take n text ∷ solid_pieces (drop n text)) (sym end) ∙ (λ k. sym front k ∷ solid_pieces (sym back k))

  -- which leaves fewer
  pub one_fewer : length (solid_pieces rest) < length (solid_pieces bs)
  one_fewer = omega (arith, ap length one_more)

length_onto : (b : ℕ) (ps : List (List ℕ)) → length (solid (onto_first b ps)) ≤ 1 + length (solid ps)
length_onto b [] = omega arith
length_onto b ([] ∷ ps) = omega arith
length_onto b ((c ∷ p) ∷ ps) = omega arith

-- there are no more words than bytes
pub few_words : (bs : List ℕ) → length (solid_pieces bs) ≤ length bs
few_words [] = omega arith
few_words (b ∷ bs) = go (blank b) refl (few_words bs)
  where
    go : (t : Bool) → blank b ≡ t → length (solid_pieces bs) ≤ length bs → length (solid_pieces (b ∷ bs)) ≤ length (b ∷ bs)
    go true e ih = simp e (omega arith)
    go false e ih = simp e (omega (arith, length_onto b (slice_split blank bs)))
