-- A grid's meaning, by the list of its cells.
use Rattle.std.proofs.Common.{◌≡◌, ℕ, zero, suc, ◌+◌, ◌*◌, ◌/◌, ◌%◌, ◌<◌, ◌≤◌, true, false, cond, not, ◌&&◌, eqb, ltb, leb, ◌≢◌, List, length, get_or, set, replicate, ℤ, pos, ◌+ℤ◌, nat_abs, Some, None, Option, MatchOption, Ok, Err, Result, sym, refl, ap, ◌∙◌, subst, ap₂, ⊎_elim, zero-mul, arith, w64, SFits, to_z, of_z}
use Rattle.std.proofs.lemmas.Nat.{div-mul-add, mod-mul-add}
use Rattle.std.proofs.lemmas.List.{get_or-set_same, get_or-set_other, length-replicate}
use Rattle.std.proofs.lemmas.Int.{ints}
use Rattle.std.proofs.lemmas.Bool.{cond-true, cond-false, cond_both, cases_eq, cases_Bool, eq-eqb, eqb-true, and_parts, and_left, and_right, and_from, leb-true, lt-ltb, ltb-true, both_ways}
use Rattle.std.proofs.lemmas.Bool.Decides.{nat_tests}
use Rattle.terms.specs.Bounds.{quantity_bound}
use Rattle.terms.specs.declared.refusal.Refusal.{Refusal}
use Rattle.terms.specs.declared.refusal.Refusal.TheVariants.{Pair}
use Rattle.book.specs.Holding.{Holding, inside, is_zero, small, count, blocked, reply, put, with_pair, posted, gridded, place_of, sum_of, blank, new_grid}
use Rattle.book.specs.Soundness.{place_lt}
use Rattle.book.proofs.Counts.{nonzeros_lt}
use Rattle.book.proofs.Posts.{stored, reply_pair, reply_size, reply_done, posted_done, heard, summed_ok, summed_err}

-- ---- places
-- two pairs of one place are one pair
pub same_place : (c i j k l : ℕ) → j < c → l < c → i * c + j ≡ k * c + l → (i ≡ k) × (j ≡ l)
same_place c i j k l m o h = (
  sym (div-mul-add i c j m) ∙ (ap (λ n. n / c) h ∙ div-mul-add k c l o),
  sym (mod-mul-add i c j m) ∙ (ap (λ n. n % c) h ∙ mod-mul-add k c l o),
)

pub placed_some : (e c i j at : ℕ) → Some at ≡ place_of e c i j → (i < e) × (j < c) × (at ≡ i * c + j)
placed_some e c i j at h = (grind (arith, nat_tests), grind (arith, nat_tests), grind (arith, nat_tests))

pub placed_none : (e c i j : ℕ) → None ≡ place_of e c i j → (ltb i e && ltb j c) ≡ false
placed_none e c i j h = grind (arith, nat_tests)

-- ---- a pair that is outside
module _ (e c : ℕ) (cells : List ℤ) (i j : ℕ) (p : None ≡ place_of e c i j) where
  pub at_none : pos 0 ≡ (gridded e c cells).at i j
  unfolding gridded
  at_none = sym (cond-false (ltb i e && ltb j c) _ _ (placed_none e c i j p))

  pub off : (z : ℤ) → Err Pair ≡ reply (gridded e c cells) i j z
  unfolding gridded
  off z = sym (reply_pair (gridded e c cells) i j z (placed_none e c i j p))

-- ---- a pair that is inside
module _ (e c : ℕ) (cells : List ℤ) (fits : e * c ≤ length cells) (i j : ℕ) (l : i < e) (m : j < c) where
  below : (ltb i e && ltb j c) ≡ true
  below = and_from (ltb i e) (ltb j c) (lt-ltb i e l) (lt-ltb j c m)

  at_inside : (gridded e c cells).at i j ≡ get_or cells (i * c + j) (pos 0)
  unfolding gridded
  at_inside = cond-true (ltb i e && ltb j c) _ _ below

  grid_inside : inside (gridded e c cells) i j ≡ true
  unfolding gridded
  grid_inside = below

  -- a grid is never full where a pair is at zero
  grid_free : (z : ℤ) → blocked (gridded e c cells) i j z ≡ false
  unfolding gridded blocked count
  grid_free z =
      let q = (gridded e c cells).at i j in
      ⊎_elim
      (λ t.
      let k = nonzeros_lt (gridded e c cells).at e c i j l m t in
      and_right (is_zero q && not (is_zero z)) _ (grind (arith, nat_tests)))
      (λ t. and_left (is_zero q && not (is_zero z)) _ (and_left (is_zero q) _ t))
      (cases_Bool (is_zero q))

  -- a cell is written
  module _ (q : ℤ) where
    abbrev written : List ℤ
    written = set cells (i * c + j) q

    written_here : get_or written (i * c + j) (pos 0) ≡ q
    written_here = get_or-set_same cells (i * c + j) q (pos 0) (place_lt e c i j (length cells) fits l m)

    written_other : (k o : ℕ) → (eqb k i && eqb o j) ≡ false → o < c → get_or written (k * c + o) (pos 0) ≡ get_or cells (k * c + o) (pos 0)
    written_other k o t h =
        get_or-set_other cells (i * c + j) (k * c + o) q (pos 0)
        (λ s.
        let p = same_place c k o i j h m s in
        both_ways (eqb k i && eqb o j) t (and_from (eqb k i) (eqb o j) (eq-eqb k i p.0) (eq-eqb o j p.1)))

    spot : (k o : ℕ) → (gridded e c written).at k o ≡ put (gridded e c cells).at i j q k o
    unfolding gridded
    spot k o =
        ⊎_elim
        (λ t.
        let p = and_parts (eqb k i) (eqb o j) t in
        let u : k ≡ i = eqb-true k i p.0 in
        let v : o ≡ j = eqb-true o j p.1 in
        let w : k * c + o ≡ i * c + j = cc in
        let b : (ltb k e && ltb o c) ≡ true = grind (arith, nat_tests) in
        cond-true (ltb k e && ltb o c) _ _ b ∙ (rw w written_here ∙ sym (cond-true (eqb k i && eqb o j) q _ t)))
        (λ t. elsewhere t ∙ sym (cond-false (eqb k i && eqb o j) q _ t))
        (cases_Bool (eqb k i && eqb o j))
      where
        elsewhere : (eqb k i && eqb o j) ≡ false → cond (ltb k e && ltb o c) (get_or written (k * c + o) (pos 0)) (pos 0) ≡ cond (ltb k e && ltb o c) (get_or cells (k * c + o) (pos 0)) (pos 0)
        elsewhere t =
            ⊎_elim
            (λ d. ap (λ x. cond (ltb k e && ltb o c) x (pos 0)) (written_other k o t (ltb-true o c (and_parts (ltb k e) (ltb o c) d).1)))
            (λ d. cond-false (ltb k e && ltb o c) _ _ d ∙ sym (cond-false (ltb k e && ltb o c) _ _ d))
            (cases_Bool (ltb k e && ltb o c))

    grid_put : gridded e c written ≡ with_pair (gridded e c cells) i j q
    unfolding gridded
    grid_put = λ n. record { entities = e; contracts = c; capacity = e * c; at = λ k o. spot k o n }

-- ---- what the methods compute
module _ (e c : ℕ) (cells : List ℤ) (fits : e * c ≤ length cells) (bounded : (k : ℕ) → k < e * c → nat_abs (get_or cells k (pos 0)) ≤ quantity_bound) (i j at : ℕ) (p : Some at ≡ place_of e c i j) where
  abbrev book : Holding
  book = gridded e c cells

  abbrev cell : ℤ
  cell = get_or cells at (pos 0)

  cell_is : cell ≡ book.at i j
  cell_is =
      let t = placed_some e c i j at p in
      ap (λ n. get_or cells n (pos 0)) t.2 ∙ sym (at_inside e c cells fits i j t.0 t.1)

  within : at < e * c
  within = let t = placed_some e c i j at p in rw t.2 (place_lt e c i j (e * c) (omega arith) t.0 t.1)

  pub at_some : to_z w64 (of_z w64 cell) ≡ book.at i j
  at_some = stored cell (bounded at within) ∙ cell_is

  module _ (z : ℤ) (f : SFits w64 z) where
    sum_of_is : (x : Result ℤ Refusal) → x ≡ sum_of (to_z w64 (of_z w64 cell)) (to_z w64 (of_z w64 z)) → x ≡ sum_of (book.at i j) z
    sum_of_is x h = let b = bounded at within in heard cell z (omega (arith, ints)) f x h ∙ ap (λ q. sum_of q z) cell_is

    is_inside : inside book i j ≡ true
    is_inside = let t = placed_some e c i j at p in grid_inside e c cells fits i j t.0 t.1

    pub over : (x : Refusal) → Err x ≡ sum_of (to_z w64 (of_z w64 cell)) (to_z w64 (of_z w64 z)) → Err x ≡ reply book i j z
    over x h =
        let s = summed_err _ z x (sum_of_is (Err x) h) in
        ap Err s.1 ∙ sym (reply_size book i j z is_inside s.0)

    module _ (q : ℤ) (h : Ok q ≡ sum_of (to_z w64 (of_z w64 cell)) (to_z w64 (of_z w64 z))) where
      abbrev kept : ℤ
      kept = to_z w64 (of_z w64 q)

      facts : (small (book.at i j +ℤ z) ≡ true) × (q ≡ book.at i j +ℤ z)
      facts = summed_ok _ z q (sum_of_is (Ok q) h)

      q_small : nat_abs q ≤ quantity_bound
      q_small = rw facts.1 (leb-true _ quantity_bound facts.0)

      kept_is : kept ≡ q
      kept_is = stored q q_small

      pub answered : Ok kept ≡ reply book i j z
      answered =
          let t = placed_some e c i j at p in
          ap Ok (kept_is ∙ facts.1)
          ∙ sym (reply_done book i j z is_inside facts.0 (grid_free e c cells fits i j t.0 t.1 z))

      pub left : gridded e c (set cells at kept) ≡ posted book i j z
      left =
          let t = placed_some e c i j at p in
          ap (λ n. gridded e c (set cells n kept)) t.2
          ∙ (grid_put e c cells fits i j t.0 t.1 kept ∙ sym (posted_done book i j z kept (sym answered)))

      pub still_bounded : (k : ℕ) → k < e * c → nat_abs (get_or (set cells at kept) k (pos 0)) ≤ quantity_bound
      still_bounded k l =
          ⊎_elim
          (λ (s : k ≡ at).
          let b = fits in
          let w = within in
          rw (s, get_or-set_same cells at kept (pos 0) (omega arith), kept_is) q_small)
          (λ (s : k ≢ at). rw (get_or-set_other cells at k kept (pos 0) s) (bounded k l))
          (cases_eq k at)

-- the quantity of a pair, by what is answered at its cell
pub quantity_is : (e c : ℕ) (cells : List ℤ) (fits : e * c ≤ length cells) (bounded : (k : ℕ) → k < e * c → nat_abs (get_or cells k (pos 0)) ≤ quantity_bound) (i j : ℕ) (o : Option ℕ) (q : ℤ) (Q : ℕ → Type 0) → o ≡ place_of e c i j → ((at : ℕ) → Q at → q ≡ to_z w64 (of_z w64 (get_or cells at (pos 0)))) → MatchOption o (q ≡ pos 0) Q → q ≡ (gridded e c cells).at i j
quantity_is e c cells fits bounded i j None q Q p f h = h ∙ at_none e c cells i j p
quantity_is e c cells fits bounded i j (Some at) q Q p f h = f at h ∙ at_some e c cells fits bounded i j at p

-- ---- a new grid
nought : (n k : ℕ) → get_or (replicate n (pos 0)) k (pos 0) ≡ pos 0
nought zero k = refl
nought (suc n) zero = refl
nought (suc n) (suc k) = nought n k

grid_blank : (n e c : ℕ) → gridded e c (replicate n (pos 0)) ≡ blank e c (e * c)
unfolding gridded
grid_blank n e c = λ s. record { entities = e; contracts = c; capacity = e * c; at = λ i j. spot i j s }
  where
    spot : (i j : ℕ) → (gridded e c (replicate n (pos 0))).at i j ≡ pos 0
    spot i j = cond_both (ltb i e && ltb j c) (get_or (replicate n (pos 0)) (i * c + j) (pos 0)) (pos 0) (λ z. z ≡ pos 0) (λ _. nought n (i * c + j)) (λ _. refl)

module _ (n e c k : ℕ) (cells : List ℤ) (fitting : k ≡ cond (leb (e * c) (length cells)) e 0) (filled : cells ≡ replicate n (pos 0)) where
  pub new_fits : k * c ≤ length cells
  new_fits =
      subst (λ m. m * c ≤ length cells) (sym fitting)
      (cond_both (leb (e * c) (length cells)) e 0 (λ m. m * c ≤ length cells) (leb-true (e * c) (length cells)) (λ _. omega arith))

  pub new_bounded : (i : ℕ) → nat_abs (get_or cells i (pos 0)) ≤ quantity_bound
  new_bounded i = rw (filled, nought n i) (omega arith)

  pub new_state : gridded k c cells ≡ new_grid n e c
  new_state =
      let l = ap length filled ∙ length-replicate n (pos 0) in
      ap₂ (λ m r. gridded m c r) (fitting ∙ ap (λ m. cond (leb (e * c) m) e 0) l) filled
      ∙ (grid_blank n (cond (leb (e * c) n) e 0) c
      ∙ cond_both (leb (e * c) n) e 0 (λ m. blank m c (m * c) ≡ new_grid n e c)
      (λ t. sym (cond-true (leb (e * c) n) _ _ t))
      (λ t. ap (blank 0 c) (zero-mul c) ∙ sym (cond-false (leb (e * c) n) _ _ t)))
