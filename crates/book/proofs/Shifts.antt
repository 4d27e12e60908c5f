-- What a rotation of a part leaves: a row put in or taken out.
use Rattle.std.proofs.Common.{◌≡◌, ℕ, suc, ◌+◌, ◌-◌, ◌<◌, ◌≤◌, List, [], ◌∷◌, ◌++◌, length, take, drop, set, sym, refl, ap, ◌∙◌, ap₂, add-one, arith}
use borrow.Rule.Slice.PartMut.{put_mid}
use Rattle.std.specs.List.{insert, remove}
use Rattle.std.proofs.lemmas.Slice.{between_is, take-put_mid}
use Rattle.std.proofs.lemmas.List.{take_more_set, drop-append-le, length-take-le, length-drop, length_push, length-append, length-set, drop_at, take_at, take-take, take-set-le, append_assoc, drop-drop}

module _ {X : Type 0} (xs : List X) (len at : ℕ) where
  -- a row is written behind the others, and the part from `at` on is rotated up by one
  module _ (r : X) (ys : List X) (fits : len < length xs) (le : at ≤ len) where
    abbrev tail : List X
    tail = drop at (take len xs)

    abbrev part : List X
    part = take (len + 1 - at) (drop at (set xs len r))

    tail_length : length tail ≡ len - at
    tail_length = let t = length-take-le len xs (omega arith) in simp length-drop (omega arith)

    part_is : part ≡ tail ++ r ∷ []
    part_is =
        between_is (set xs len r) at (len + 1)
        ∙ (ap (drop at) (take_more_set xs len r fits)
        ∙ drop-append-le at (take len xs) (r ∷ []) (let t = length-take-le len xs (omega arith) in omega arith))

    module _ (h : ys ≡ drop (length part - 1) part ++ take (length part - 1) part) where
      ys_are : ys ≡ r ∷ tail
      ys_are =
          let n : length part - 1 ≡ length tail = let t = ap length part_is ∙ length_push tail r in omega arith in
          h
          ∙ ap₂ ◌++◌
          (ap₂ drop n part_is ∙ drop_at tail (r ∷ []) (length tail) refl)
          (ap₂ take n part_is ∙ take_at tail (r ∷ []) (length tail) refl)

      ys_length : length ys ≡ len + 1 - at
      ys_length = let t = ap length ys_are in let u = tail_length in omega arith

      pub row_in : take (len + 1) (put_mid at (len + 1 - at) (set xs len r) ys) ≡ insert (take len xs) at r
      row_in =
          let y = ys_length in
          let s = length-set xs len r in
          take-put_mid at (len + 1 - at) (set xs len r) ys (len + 1) (omega arith) (omega arith)
          ∙ ap₂ ◌++◌ (take-set-le at xs len r le ∙ sym (take-take at len xs le)) ys_are

  -- the part from `at` on is rotated down by one
  module _ (ys : List X) (fits : len ≤ length xs) (lt : at < len) where
    abbrev piece : List X
    piece = take (len - at) (drop at xs)

    piece_length : length piece ≡ len - at
    piece_length = length-take-le (len - at) (drop at xs) (let t = length-drop at xs in omega arith)

    module _ (h : ys ≡ drop 1 piece ++ take 1 piece) where
      ys_short : length ys ≡ len - at
      ys_short =
          let l = piece_length in
          let u = ap length h ∙ length-append (drop 1 piece) (take 1 piece) in
          let v = length-drop 1 piece in
          let w = length-take-le 1 piece (omega arith) in
          omega arith

      kept : drop 1 piece ≡ drop (suc at) (take len xs)
      kept = ap (drop 1) (between_is xs at len) ∙ (drop-drop 1 at (take len xs) ∙ ap (λ n. drop n (take len xs)) (add-one at))

      pub row_out : take (len - 1) (put_mid at (len - at) xs ys) ≡ remove (take len xs) at
      row_out =
          let n = ys_short in
          let l = piece_length in
          let v = length-take-le at xs (omega arith) in
          let w = length-drop 1 piece in
          sym (take-take (len - 1) len _ (omega arith))
          ∙ (ap (take (len - 1)) (take-put_mid at (len - at) xs ys len (omega arith) (omega arith) ∙ (ap (λ l. take at xs ++ l) h ∙ sym (append_assoc (take at xs) _ _)))
          ∙ (take_at (take at xs ++ drop 1 piece) (take 1 piece) (len - 1) (let u = length-append (take at xs) (drop 1 piece) in omega arith)
          ∙ ap₂ ◌++◌ (sym (take-take at len xs (omega arith))) kept))
