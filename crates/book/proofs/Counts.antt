-- How many pairs are non-zero where one is at zero, and after one changes.
use Rattle.std.proofs.Common.{◌≡◌, ℕ, zero, suc, ◌+◌, ◌*◌, ◌<◌, true, ◌&&◌, eqb, ltb, ◌≢◌, ℤ, pos, sym, refl, ap, ◌∙◌, ap₂, ⊎_elim, suc-mul, arith}
use Rattle.std.proofs.lemmas.Bool.{cond-true, cond-false, cases_eq, eq-eqb, ne_eqb, and_parts, and_left, and_right, and_from, ltb-true}
use Rattle.book.specs.Holding.{Holding, inside, is_zero, nonzero, nonzeros, count, put, with_pair}
use Rattle.book.specs.Soundness.{bit, bit_le, nonzero_le, nonzeros_le}

-- ---- one value is zero
nonzero_lt : (f : ℕ → ℤ) (n c : ℕ) → c < n → is_zero (f c) ≡ true → nonzero f n < n
nonzero_lt f zero c l h = omega arith
nonzero_lt f (suc n) c l h =
    ⊎_elim
    (λ s.
    let k = nonzero_le f n in
    let z : bit (f n) ≡ 0 = cond-true (is_zero (f n)) 0 1 (ap (λ i. is_zero (f i)) (sym s) ∙ h) in
    omega arith)
    (λ s. let k = nonzero_lt f n c (omega arith) h in let j = bit_le (f n) in omega arith)
    (cases_eq c n)

pub nonzeros_lt : (f : ℕ → ℕ → ℤ) (e c i j : ℕ) → i < e → j < c → is_zero (f i j) ≡ true → nonzeros f e c < e * c
nonzeros_lt f zero c i j l m h = omega arith
nonzeros_lt f (suc e) c i j l m h =
    ⊎_elim
    (λ s.
    let k = nonzeros_le f e c in
    let o = nonzero_lt (f e) c j m (ap (λ t. is_zero (f t j)) (sym s) ∙ h) in
    omega (arith, suc-mul e c))
    (λ s.
    let k = nonzeros_lt f e c i j (omega arith) m h in
    let o = nonzero_le (f e) c in
    omega (arith, suc-mul e c))
    (cases_eq i e)

-- ---- every value is zero
nonzero_none : (f : ℕ → ℤ) (n : ℕ) → ((j : ℕ) → f j ≡ pos 0) → nonzero f n ≡ 0
nonzero_none f zero h = refl
nonzero_none f (suc n) h = ap₂ (λ a b. a + bit b) (nonzero_none f n h) (h n)

pub nonzeros_none : (f : ℕ → ℕ → ℤ) (e c : ℕ) → ((i j : ℕ) → f i j ≡ pos 0) → nonzeros f e c ≡ 0
nonzeros_none f zero c h = refl
nonzeros_none f (suc e) c h = ap₂ ◌+◌ (nonzeros_none f e c h) (nonzero_none (f e) c (h e))

-- ---- one value changes
nonzero_ext : (f g : ℕ → ℤ) (n : ℕ) → ((j : ℕ) → j < n → f j ≡ g j) → nonzero f n ≡ nonzero g n
nonzero_ext f g zero h = refl
nonzero_ext f g (suc n) h =
    ap₂ (λ a b. a + bit b) (nonzero_ext f g n (λ j l. h j (omega arith))) (h n (omega arith))

nonzero_put : (f g : ℕ → ℤ) (n c : ℕ) → c < n → ((j : ℕ) → j ≢ c → g j ≡ f j) → nonzero g n + bit (f c) ≡ nonzero f n + bit (g c)
nonzero_put f g zero c l h = absurd (omega arith)
nonzero_put f g (suc n) c l h =
    ⊎_elim
    (λ (s : c ≡ n).
    let e = nonzero_ext g f n (λ j m. h j (omega arith)) in
    let a = ap (λ i. bit (f i)) s in
    let b = ap (λ i. bit (g i)) s in
    omega arith)
    (λ (s : c ≢ n).
    let i = nonzero_put f g n c (omega arith) h in
    let e = ap bit (h n (λ t. s (sym t))) in
    omega arith)
    (cases_eq c n)

nonzeros_ext : (f g : ℕ → ℕ → ℤ) (e c : ℕ) → ((i : ℕ) → i < e → (j : ℕ) → f i j ≡ g i j) → nonzeros f e c ≡ nonzeros g e c
nonzeros_ext f g zero c h = refl
nonzeros_ext f g (suc e) c h =
    ap₂ ◌+◌ (nonzeros_ext f g e c (λ i l j. h i (omega arith) j)) (nonzero_ext (f e) (g e) c (λ j _. h e (omega arith) j))

nonzeros_put : (f g : ℕ → ℕ → ℤ) (e c i j : ℕ) → i < e → j < c → ((k : ℕ) → k ≢ i → (o : ℕ) → g k o ≡ f k o) → ((o : ℕ) → o ≢ j → g i o ≡ f i o) → nonzeros g e c + bit (f i j) ≡ nonzeros f e c + bit (g i j)
nonzeros_put f g zero c i j l m h r = absurd (omega arith)
nonzeros_put f g (suc e) c i j l m h r =
    ⊎_elim
    (λ (s : i ≡ e).
    let x = nonzeros_ext g f e c (λ k n o. h k (omega arith) o) in
    let y = nonzero_put (f i) (g i) c j m r in
    let a = ap (λ k. nonzero (f k) c) s in
    let b = ap (λ k. nonzero (g k) c) s in
    omega arith)
    (λ (s : i ≢ e).
    let x = nonzeros_put f g e c i j (omega arith) m h r in
    let y = nonzero_ext (g e) (f e) c (λ o _. h e (λ t. s (sym t)) o) in
    omega arith)
    (cases_eq i e)

-- ---- one pair is written
module _ (f : ℕ → ℕ → ℤ) (e c : ℕ) (q : ℤ) where
  pub put_same : put f e c q e c ≡ q
  put_same =
      cond-true (eqb e e && eqb c c) q (f e c) (and_from (eqb e e) (eqb c c) (eq-eqb e e refl) (eq-eqb c c refl))

  put_row : (k : ℕ) → k ≢ e → (o : ℕ) → put f e c q k o ≡ f k o
  put_row k n o = cond-false (eqb k e && eqb o c) q (f k o) (and_left (eqb k e) (eqb o c) (ne_eqb k e n))

  put_column : (o : ℕ) → o ≢ c → put f e c q e o ≡ f e o
  put_column o n = cond-false (eqb e e && eqb o c) q (f e o) (and_right (eqb e e) (eqb o c) (ne_eqb o c n))

  pub nonzeros_written : (m n : ℕ) → e < m → c < n → nonzeros (put f e c q) m n + bit (f e c) ≡ nonzeros f m n + bit q
  nonzeros_written m n l k =
      nonzeros_put f (put f e c q) m n e c l k put_row put_column ∙ ap (λ z. nonzeros f m n + bit z) put_same

pub count_put : (b : Holding) (e c : ℕ) (q : ℤ) → inside b e c ≡ true → count (with_pair b e c q) + bit (b.at e c) ≡ count b + bit q
unfolding count
count_put b e c q h =
    let p = and_parts (ltb e b.entities) (ltb c b.contracts) h in
    nonzeros_written b.at e c q b.entities b.contracts (ltb-true _ _ p.0) (ltb-true _ _ p.1)
