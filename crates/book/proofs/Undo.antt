-- A post that is put back: the opposite post is never declined, and leaves the book as it was.
use Rattle.std.proofs.Common.{◌≡◌, ℕ, ◌*◌, ◌≤◌, true, false, not, ◌&&◌, eqb, leb, ℤ, pos, ◌+ℤ◌, ◌-ℤ◌, neg_ℤ, nat_abs, Ok, Err, sym, ap, ◌∙◌, ap₂, ⊎_elim, arith, w64, SFits, to_z, of_z}
use Rattle.std.proofs.lemmas.Int.{ints}
use Rattle.std.proofs.lemmas.Bool.{cond-true, cond-false, cases_Bool, eq-eqb, eqb-true, and_parts, and_left, and_right, leb-true, le-leb, lt-leb}
use Rattle.terms.specs.Bounds.{quantity_bound}
use Rattle.terms.specs.declared.refusal.Refusal.{Refusal}
use Rattle.book.specs.Holding.{Holding, Sound, quantity_of, inside, is_zero, small, count, blocked, reply, put, with_pair, posted}
use Rattle.book.specs.Soundness.{bit}
use Rattle.book.proofs.Counts.{put_same, count_put}
use Rattle.book.proofs.Posts.{reply_done, posted_done, posted_declined, done_facts}

-- a pair that gets its old quantity back
pair_back : (b : Holding) (e c : ℕ) (q : ℤ) → with_pair (with_pair b e c q) e c (b.at e c) ≡ b
pair_back b e c q = λ i. record {
  entities = b.entities;
  contracts = b.contracts;
  capacity = b.capacity;
  at = λ k o. spot k o i;
}
  where
    spot : (k o : ℕ) → put (put b.at e c q) e c (b.at e c) k o ≡ b.at k o
    spot k o =
        ⊎_elim
        (λ t.
        let p = and_parts (eqb k e) (eqb o c) t in
        cond-true (eqb k e && eqb o c) _ _ t ∙ ap₂ b.at (sym (eqb-true k e p.0)) (sym (eqb-true o c p.1)))
        (λ t. cond-false (eqb k e && eqb o c) _ _ t ∙ cond-false (eqb k e && eqb o c) _ _ t)
        (cases_Bool (eqb k e && eqb o c))

-- there is room to put a pair back
not_blocked : (b : Holding) (e c : ℕ) (z q : ℤ) → count b ≤ b.capacity → inside b e c ≡ true → q ≡ b.at e c +ℤ z → blocked (with_pair b e c q) e c (neg_ℤ z) ≡ false
unfolding blocked
not_blocked b e c z q few h sum =
    let a = put_same b.at e c q in
    let n = count_put b e c q h in
    ⊎_elim
    (λ (t : is_zero q ≡ true).
    ⊎_elim
    (λ (u : is_zero (b.at e c) ≡ true).
    and_left _ _ (and_right _ (not (is_zero (neg_ℤ z))) (still q (b.at e c) sum t u)))
    (λ (u : is_zero (b.at e c) ≡ false).
    let v : bit (b.at e c) ≡ 1 = cond-false (is_zero (b.at e c)) 0 1 u in
    let w : bit q ≡ 0 = cond-true (is_zero q) 0 1 t in
    and_right _ (leb b.capacity (count (with_pair b e c q))) (lt-leb _ _ (omega arith)))
    (cases_Bool (is_zero (b.at e c))))
    (λ (t : is_zero q ≡ false). and_left _ _ (and_left (is_zero ((with_pair b e c q).at e c)) _ (ap is_zero a ∙ t)))
    (cases_Bool (is_zero q))
  where
    still : (q x : ℤ) → q ≡ x +ℤ z → is_zero q ≡ true → is_zero x ≡ true → not (is_zero (neg_ℤ z)) ≡ false
    still q x e t u =
        let f = eqb-true (nat_abs q) 0 t in
        let g = eqb-true (nat_abs x) 0 u in
        ap not (eq-eqb (nat_abs (neg_ℤ z)) 0 (omega (arith, ints)))

module _ (b : Holding) (e c : ℕ) (z q : ℤ) (sound : Sound b) (h : reply b e c z ≡ Ok q) where
  -- what was added is at most twice the largest quantity
  pub change_small : nat_abs z ≤ 2 * quantity_bound
  change_small =
      let f = done_facts b e c z q h in
      let k = leb-true (nat_abs (b.at e c +ℤ z)) quantity_bound f.1 in
      let m = sound.bounded e c in
      omega (arith, ints)

  -- the opposite post is accepted, and answers the old quantity
  pub undo_answer : reply (posted b e c z) e c (neg_ℤ z) ≡ Ok (quantity_of b e c)
  undo_answer =
      ap (λ d. reply d e c (neg_ℤ z)) (posted_done b e c z q h) ∙ back (done_facts b e c z q h)
    where
      cancel : (x y : ℤ) → (x +ℤ y) +ℤ neg_ℤ y ≡ x
      cancel x y = omega (arith, ints)

      back : (inside b e c ≡ true) × (small (b.at e c +ℤ z) ≡ true) × (q ≡ b.at e c +ℤ z) → reply (with_pair b e c q) e c (neg_ℤ z) ≡ Ok (quantity_of b e c)
      back f =
          let t : (with_pair b e c q).at e c +ℤ neg_ℤ z ≡ b.at e c =
          ap (λ x. x +ℤ neg_ℤ z) (put_same b.at e c q ∙ f.2) ∙ cancel (b.at e c) z in
          reply_done (with_pair b e c q) e c (neg_ℤ z) f.0 (ap small t ∙ le-leb _ _ (sound.bounded e c)) (not_blocked b e c z q sound.few f.0 f.2)
          ∙ ap Ok t

  -- and leaves the book as it was
  pub undo : posted (posted b e c z) e c (neg_ℤ z) ≡ b
  undo =
      posted_done (posted b e c z) e c (neg_ℤ z) (quantity_of b e c) undo_answer
      ∙ (ap (λ d. with_pair d e c (b.at e c)) (posted_done b e c z q h) ∙ pair_back b e c q)

pub twice_neg : (z : ℤ) → neg_ℤ (neg_ℤ z) ≡ z
twice_neg z = omega (arith, ints)

-- ---- a change posted off one pair, declined at another, and put back
module _ (b : Holding) (from to c : ℕ) (z q : ℤ) (x : Refusal) (sound : Sound b) (off : reply b from c (neg_ℤ z) ≡ Ok q) (on : reply (posted b from c (neg_ℤ z)) to c z ≡ Err x) where
  still : posted (posted b from c (neg_ℤ z)) to c z ≡ posted b from c (neg_ℤ z)
  still = posted_declined (posted b from c (neg_ℤ z)) to c z x on

  pub put_back : posted (posted (posted b from c (neg_ℤ z)) to c z) from c z ≡ b
  put_back = ap₂ (λ d y. posted d from c y) still (sym (twice_neg z)) ∙ undo b from c (neg_ℤ z) q sound off

-- ---- the opposite of a change, as it is computed
pub opposite : (z : ℤ) → nat_abs z ≤ 2 * quantity_bound → to_z w64 (of_z w64 (pos 0 -ℤ to_z w64 (of_z w64 z))) ≡ neg_ℤ z
opposite z h = ap (λ y. to_z w64 (of_z w64 (pos 0 -ℤ y))) same ∙ back
  where
    same : to_z w64 (of_z w64 z) ≡ z
    same = omega (arith, ints)

    back : to_z w64 (of_z w64 (pos 0 -ℤ z)) ≡ neg_ℤ z
    back = omega (arith, ints)
