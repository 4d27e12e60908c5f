-- A list's meaning, by the table of its rows.
use Rattle.std.proofs.Common.{◌≡◌, ℕ, ◌+◌, ◌-◌, ◌*◌, ◌<◌, ◌≤◌, min, Bool, true, false, cond, not, ◌&&◌, ◌||◌, T, eqb, ltb, leb, ◌≢◌, ℤ, pos, negsuc, ◌+ℤ◌, nat_abs, is_some, Some, None, Ok, Err, Option, Result, sym, refl, ap, ◌∙◌, subst, ap₂, ⊎_elim, arith, w64, SFits, to_z, of_z}
use mathlib.Core.Path.{fun_ext}
use Rattle.std.specs.Map.{update}
use Rattle.std.specs.Ordering.{nat_cmp}
use Rattle.std.specs.Cmp.{nat_cmp_total}
use Rattle.std.specs.FinMap.{insert, get-insert, get-remove, get-empty, len-insert, len-remove, len-empty}
use Rattle.std.proofs.lemmas.Map.{update_here, update_apart}
use Rattle.std.proofs.lemmas.Int.{ints}
use Rattle.std.proofs.lemmas.Bool.{cond-true, cond-false, cond_both, cases_Bool, eq-eqb, ne_eqb, eqb-true, and_parts, and_left, and_right, and_from, lt-ltb, ltb-true, leb-true, both_ways}
use Rattle.std.proofs.lemmas.Bool.Decides.{nat_tests}
use Rattle.terms.specs.Bounds.{quantity_bound, most_pairs}
use Rattle.terms.specs.declared.refusal.Refusal.{Refusal}
use Rattle.terms.specs.declared.refusal.Refusal.TheVariants.{Pair, Full}
use Rattle.book.specs.Tables.{Table, size, value_of, taken, put_reply, putted, removed, emptied}
use Rattle.book.specs.Holding.{Holding, inside, is_zero, small, nonzeros, count, blocked, reply, put, with_pair, posted, place_of, sum_of}
use Rattle.book.specs.Holding.{or_zero}
use Rattle.book.specs.Listed.{proper, spread, listed, listed_count, Stored, new_list}
use Rattle.book.specs.Soundness.{bit}
use Rattle.book.proofs.Counts.{nonzeros_none, nonzeros_written}
use Rattle.book.proofs.Grids.{same_place, placed_some, placed_none}
use Rattle.book.proofs.Posts.{reply_pair, reply_size, reply_full, reply_done, posted_done, posted_declined, stored as stored_is, heard, summed_ok, summed_err}

-- ---- a pair that is outside
module _ (e c : ℕ) (t : Table ℤ) (i j : ℕ) (p : None ≡ place_of e c i j) where
  pub spread_none : pos 0 ≡ (listed e c t).at i j
  unfolding listed
  spread_none = sym (cond-false (ltb i e && ltb j c) _ _ (placed_none e c i j p))

  pub listed_off : (z : ℤ) → Err Pair ≡ reply (listed e c t) i j z
  unfolding listed
  listed_off z = sym (reply_pair (listed e c t) i j z (placed_none e c i j p))

-- ---- a pair that is inside, and its row
module _ (e c : ℕ) (f : ℕ → Option ℤ) (i j key : ℕ) (p : Some key ≡ place_of e c i j) where
  spread_inside : (ltb i e && ltb j c) ≡ true
  spread_inside =
      let t = placed_some e c i j key p in
      and_from (ltb i e) (ltb j c) (lt-ltb i e t.0) (lt-ltb j c t.1)

  spread_at : or_zero (f key) ≡ spread e c f i j
  spread_at =
      let t = placed_some e c i j key p in
      ap (λ n. or_zero (f n)) t.2 ∙ sym (cond-true (ltb i e && ltb j c) _ _ spread_inside)

  -- a row that changes changes its pair
  spread_put : (w : Option ℤ) (k o : ℕ) → spread e c (update eqb f key w) k o ≡ put (spread e c f) i j (or_zero w) k o
  spread_put w k o =
      ⊎_elim
      (λ t.
      let m = and_parts (eqb k i) (eqb o j) t in
      here (eqb-true k i m.0) (eqb-true o j m.1) ∙ sym (cond-true (eqb k i && eqb o j) _ _ t))
      (λ t. other t ∙ sym (cond-false (eqb k i && eqb o j) _ _ t))
      (cases_Bool (eqb k i && eqb o j))
    where
      here : k ≡ i → o ≡ j → spread e c (update eqb f key w) k o ≡ or_zero w
      here u v =
          let q = placed_some e c i j key p in
          ap₂ (spread e c (update eqb f key w)) u v
          ∙ (cond-true (ltb i e && ltb j c) _ _ spread_inside
          ∙ ap or_zero (ap (update eqb f key w) (sym q.2) ∙ update_here f key w))

      far : (eqb k i && eqb o j) ≡ false → o < c → k * c + o ≢ key
      far t l s =
          let q = placed_some e c i j key p in
          let m = same_place c k o i j l q.1 (s ∙ q.2) in
          both_ways (eqb k i && eqb o j) t (and_from (eqb k i) (eqb o j) (eq-eqb k i m.0) (eq-eqb o j m.1))

      other : (eqb k i && eqb o j) ≡ false → spread e c (update eqb f key w) k o ≡ spread e c f k o
      other t =
          ⊎_elim
          (λ d.
          ap (λ x. cond (ltb k e && ltb o c) (or_zero x) (pos 0))
          (update_apart f key w (k * c + o) (far t (ltb-true o c (and_parts (ltb k e) (ltb o c) d).1))))
          (λ d. cond-false (ltb k e && ltb o c) _ _ d ∙ sym (cond-false (ltb k e && ltb o c) _ _ d))
          (cases_Bool (ltb k e && ltb o c))

  -- and the count by itself
  spread_count : (w : Option ℤ) → nonzeros (spread e c (update eqb f key w)) e c + bit (or_zero (f key)) ≡ nonzeros (spread e c f) e c + bit (or_zero w)
  spread_count w =
      let q = placed_some e c i j key p in
      ap₂ (λ g x. nonzeros g e c + bit x) (fun_ext (λ k. fun_ext (λ o. spread_put w k o))) spread_at
      ∙ nonzeros_written (spread e c f) i j (or_zero w) e c q.0 q.1

-- ---- rows that may be stored
right : (a b : Bool) → T (a && not b) → b ≡ false
right true true h = absurd h
right true false h = refl
right false b h = absurd h

proper_bit : (o : Option ℤ) → T (proper o) → bit (or_zero o) ≡ cond (is_some o) 1 0
proper_bit None h = refl
proper_bit (Some z) h = cond-false (is_zero z) 0 1 (right (small z) (is_zero z) h)

proper_some : (z : ℤ) → small z ≡ true → is_zero z ≡ false → T (proper (Some z))
proper_some z h k = subst T (sym (and_from (small z) (not (is_zero z)) h (ap not k))) tt

proper_put : (f : ℕ → Option ℤ) (key : ℕ) (w : Option ℤ) → T (proper w) → ((k : ℕ) → T (proper (f k))) → (k : ℕ) → T (proper (update eqb f key w k))
proper_put f key w h g k = cond_both (eqb key k) w (f k) (λ o. T (proper o)) (λ _. h) (λ _. g k)

nat_abs_zero : (z : ℤ) → nat_abs z ≡ 0 → z ≡ pos 0
nat_abs_zero (pos n) e = ap pos e
nat_abs_zero (negsuc n) e = absurd (omega arith)

-- ---- what a put and a removal leave, at each key
module _ (t : Table ℤ) (key : ℕ) where
  abbrev grown : ℤ → Table ℤ
  grown q = record { capacity = t.capacity; rows = insert t.rows key q }

  gets_grown : (q : ℤ) → value_of (grown q) ≡ update eqb (value_of t) key (Some q)
  gets_grown q = fun_ext (λ k. get-insert nat_cmp_total t.rows key q k ∙ grind (arith, nat_tests))

  gets_removed : value_of (removed t key) ≡ update eqb (value_of t) key None
  gets_removed = fun_ext (λ k. get-remove nat_cmp_total t.rows key k ∙ grind (arith, nat_tests))

  put_ok : (o : Option ℤ) → Ok o ≡ put_reply t key → taken t key ≡ true
  put_ok o h =
      ⊎_elim (λ u. u)
      (λ u. let e = h ∙ cond-false (taken t key) (Ok (value_of t key)) (Err Full) u in absurd (let z : ◌≡◌ {A = ℕ} 0 1 = cc in omega arith))
      (cases_Bool (taken t key))

  put_err : (x : Refusal) → Err x ≡ put_reply t key → (taken t key ≡ false) × (x ≡ Full)
  put_err x h =
      ⊎_elim
      (λ u. let e = h ∙ cond-true (taken t key) (Ok (value_of t key)) (Err Full) u in absurd (let z : ◌≡◌ {A = ℕ} 0 1 = cc in omega arith))
      (λ u. let e = h ∙ cond-false (taken t key) (Ok (value_of t key)) (Err Full) u in (u, (cc)))
      (cases_Bool (taken t key))

  putted_ok : (q : ℤ) → taken t key ≡ true → putted t key q ≡ grown q
  putted_ok q u = cond-true (taken t key) _ _ u

  putted_err : (q : ℤ) → taken t key ≡ false → putted t key q ≡ t
  putted_err q u = cond-false (taken t key) _ _ u

-- ---- what a post does
module _ (e c : ℕ) (t : Table ℤ) (s : Stored e c t) (i j key : ℕ) (p : Some key ≡ place_of e c i j) where
  abbrev book : Holding
  book = listed e c t

  pub old_is : or_zero (value_of t key) ≡ book.at i j
  unfolding listed
  old_is = spread_at e c (value_of t) i j key p

  is_inside : inside book i j ≡ true
  unfolding listed
  is_inside = spread_inside e c (value_of t) i j key p

  count_is : count book ≡ size t
  unfolding listed count
  count_is = sym s.counted

  -- the row is removed
  pub out_stored : (t' : Table ℤ) → t' ≡ removed t key → Stored e c t'
  out_stored t' h = subst (Stored e c) (sym h) (record {
    each = λ k. rw (gets_removed t key) (proper_put (value_of t) key None tt s.each k);
    counted = by_some (value_of t key) (size (removed t key)) (listed_count e c (removed t key)) (len-remove nat_cmp_total t.rows key) count_out (proper_bit (value_of t key) (s.each key));
    room = let r = s.room in let l = len-remove nat_cmp_total t.rows key in fewer (value_of t key) (size (removed t key)) l r;
  })
    where
      count_out : listed_count e c (removed t key) + bit (or_zero (value_of t key)) ≡ listed_count e c t + 0
      count_out = ap (λ f. nonzeros (spread e c f) e c + bit (or_zero (value_of t key))) (gets_removed t key) ∙ spread_count e c (value_of t) i j key p None

      by_some : (o : Option ℤ) (m n : ℕ) → m ≡ cond (is_some o) (size t - 1) (size t) → n + bit (or_zero o) ≡ listed_count e c t + 0 → bit (or_zero o) ≡ cond (is_some o) 1 0 → m ≡ n
      by_some None m n x y z = let k = s.counted in omega arith
      by_some (Some v) m n x y z = let k = s.counted in omega arith

      fewer : (o : Option ℤ) (m : ℕ) → m ≡ cond (is_some o) (size t - 1) (size t) → size t ≤ t.capacity → m ≤ t.capacity
      fewer None m x y = omega arith
      fewer (Some v) m x y = omega arith

  out_listed : listed e c (removed t key) ≡ with_pair book i j (pos 0)
  unfolding listed
  out_listed = λ n. record { entities = e; contracts = c; capacity = t.capacity; at = λ k o. (ap (λ f. spread e c f k o) (gets_removed t key) ∙ spread_put e c (value_of t) i j key p None k o) n }

  -- the row is put
  in_stored : (q : ℤ) → small q ≡ true → is_zero q ≡ false → taken t key ≡ true → Stored e c (grown t key q)
  in_stored q sm nz u = record {
    each = λ k. rw (gets_grown t key q) (proper_put (value_of t) key (Some q) (proper_some q sm nz) s.each k);
    counted = by_some (value_of t key) (size (grown t key q)) (listed_count e c (grown t key q)) (len-insert nat_cmp_total t.rows key q) count_in (proper_bit (value_of t key) (s.each key)) (cond-false (is_zero q) 0 1 nz);
    room = more (value_of t key) (size (grown t key q)) (len-insert nat_cmp_total t.rows key q) s.room u;
  }
    where
      count_in : listed_count e c (grown t key q) + bit (or_zero (value_of t key)) ≡ listed_count e c t + bit q
      count_in = ap (λ f. nonzeros (spread e c f) e c + bit (or_zero (value_of t key))) (gets_grown t key q) ∙ spread_count e c (value_of t) i j key p (Some q)

      by_some : (o : Option ℤ) (m n : ℕ) → m ≡ cond (is_some o) (size t) (size t + 1) → n + bit (or_zero o) ≡ listed_count e c t + bit q → bit (or_zero o) ≡ cond (is_some o) 1 0 → bit q ≡ 1 → m ≡ n
      by_some None m n x y z w = let k = s.counted in omega arith
      by_some (Some v) m n x y z w = let k = s.counted in omega arith

      more : (o : Option ℤ) (m : ℕ) → m ≡ cond (is_some o) (size t) (size t + 1) → size t ≤ t.capacity → (is_some o || ltb (size t) t.capacity) ≡ true → m ≤ t.capacity
      more None m x y u = let l = ltb-true (size t) t.capacity u in omega arith
      more (Some v) m x y u = omega arith

  in_listed : (q : ℤ) → listed e c (grown t key q) ≡ with_pair book i j q
  unfolding listed
  in_listed q = λ n. record { entities = e; contracts = c; capacity = t.capacity; at = λ k o. (ap (λ f. spread e c f k o) (gets_grown t key q) ∙ spread_put e c (value_of t) i j key p (Some q) k o) n }

-- what stands once the old quantity a of a pair has been read, to which z is added
pub record Asked (e c : ℕ) (t : Table ℤ) (i j key : ℕ) (a z : ℤ) : Type 0 where
  pub stored : Stored e c t
  pub placed : Some key ≡ place_of e c i j
  pub read : a ≡ or_zero (value_of t key)
  pub fits_read : SFits w64 a
  pub fits_change : SFits w64 z

pub asked : {e c : ℕ} {t : Table ℤ} {i j key : ℕ} {a z : ℤ} → Stored e c t → Some key ≡ place_of e c i j → a ≡ or_zero (value_of t key) → SFits w64 a → SFits w64 z → Asked e c t i j key a z
asked s p r f g = record { stored = s; placed = p; read = r; fits_read = f; fits_change = g }

module _ {e c : ℕ} {t : Table ℤ} {i j key : ℕ} {a z : ℤ} (k : Asked e c t i j key a z) where
  abbrev held : Holding
  held = listed e c t

  old : or_zero (value_of t key) ≡ held.at i j
  old = old_is e c t k.stored i j key k.placed

  held_inside : inside held i j ≡ true
  held_inside = is_inside e c t k.stored i j key k.placed

  sum_of_is : (x : Result ℤ Refusal) → x ≡ sum_of (to_z w64 (of_z w64 a)) (to_z w64 (of_z w64 z)) → x ≡ sum_of (held.at i j) z
  sum_of_is x h = heard a z k.fits_read k.fits_change x h ∙ ap (λ y. sum_of y z) (k.read ∙ old)

  pub over : (x : Refusal) → Err x ≡ sum_of (to_z w64 (of_z w64 a)) (to_z w64 (of_z w64 z)) → Err x ≡ reply held i j z
  over x h =
      let s = summed_err _ z x (sum_of_is (Err x) h) in
      ap Err s.1 ∙ sym (reply_size held i j z held_inside s.0)

  module _ (q : ℤ) (h : Ok q ≡ sum_of (to_z w64 (of_z w64 a)) (to_z w64 (of_z w64 z))) where
    facts : (small (held.at i j +ℤ z) ≡ true) × (q ≡ held.at i j +ℤ z)
    facts = summed_ok (held.at i j) z q (sum_of_is (Ok q) h)

    is_small : small q ≡ true
    is_small = ap small facts.1 ∙ facts.0

    kept : to_z w64 (of_z w64 q) ≡ q
    kept = stored_is q (leb-true (nat_abs q) quantity_bound is_small)

    done : blocked held i j z ≡ false → Ok q ≡ reply held i j z
    done free = ap Ok facts.1 ∙ sym (reply_done held i j z held_inside facts.0 free)

    -- it is zero
    module _ (nought : of_z w64 q ≡ 0) where
      is_nought : q ≡ pos 0
      is_nought = sym kept ∙ ap (to_z w64) nought

      zero_free : blocked held i j z ≡ false
      unfolding blocked
      zero_free =
          ⊎_elim
          (λ (u : is_zero (held.at i j) ≡ true). and_left _ _ (and_right _ (not (is_zero z)) (still (held.at i j) u facts.1 is_nought)))
          (λ (u : is_zero (held.at i j) ≡ false). and_left _ _ (and_left (is_zero (held.at i j)) _ u))
          (cases_Bool (is_zero (held.at i j)))
        where
          still : (x : ℤ) → is_zero x ≡ true → q ≡ x +ℤ z → q ≡ pos 0 → not (is_zero z) ≡ false
          still x u s n =
              let f = eqb-true (nat_abs x) 0 u in
              ap not (eq-eqb (nat_abs z) 0 (omega (arith, ints)))

      pub zero_answer : Ok (pos 0) ≡ reply held i j z
      zero_answer = ap Ok (sym is_nought) ∙ done zero_free

      pub zero_state : (t' : Table ℤ) → t' ≡ removed t key → listed e c t' ≡ posted held i j z
      zero_state t' s =
          ap (listed e c) s ∙ (out_listed e c t k.stored i j key k.placed ∙ sym (posted_done held i j z (pos 0) (sym zero_answer)))

    -- it is not zero
    module _ (some : of_z w64 q ≡ 0 → ⊥) where
      nonzero : is_zero q ≡ false
      nonzero = ne_eqb (nat_abs q) 0 (λ n. some (ap (of_z w64) (nat_abs_zero q n)))

      -- whether the register has room is whether the held has
      blocked_is : blocked held i j z ≡ not (taken t key)
      unfolding blocked listed
      blocked_is =
          ap₂ (λ x n. (is_zero x && not (is_zero z)) && leb t.capacity n) (sym old) (count_is e c t k.stored i j key k.placed)
          ∙ by_some (value_of t key) (k.stored.each key) (rw (sym old) at facts.1)
        where
          by_some : (o : Option ℤ) → T (proper o) → q ≡ or_zero o +ℤ z → ((is_zero (or_zero o) && not (is_zero z)) && leb t.capacity (size t)) ≡ not (is_some o || ltb (size t) t.capacity)
          by_some None h s =
              let x : pos 0 +ℤ z ≡ z = omega (arith, ints) in
              let y : is_zero z ≡ false = ap is_zero (sym (s ∙ x)) ∙ nonzero in
              rw y (grind (arith, nat_tests))
          by_some (Some v) h s = and_left _ _ (and_left (is_zero v) _ (right (small v) (is_zero v) h))

      -- whatever the put answers
      module _ (t' : Table ℤ) (put_is : t' ≡ putted t key (to_z w64 (of_z w64 q))) where
        after : t' ≡ putted t key q
        after = put_is ∙ ap (putted t key) kept

        pub put_stored : Stored e c t'
        put_stored =
            ⊎_elim
            (λ u. subst (Stored e c) (sym (after ∙ putted_ok t key q u)) (in_stored e c t k.stored i j key k.placed q is_small nonzero u))
            (λ u. subst (Stored e c) (sym (after ∙ putted_err t key q u)) k.stored)
            (cases_Bool (taken t key))

        -- it is accepted
        module _ (o : Option ℤ) (accepted : Ok o ≡ put_reply t key) where
          answer : Ok q ≡ reply held i j z
          answer = done (blocked_is ∙ ap not (put_ok t key o accepted))

          pub put_answer : Ok (to_z w64 (of_z w64 q)) ≡ reply held i j z
          put_answer = ap Ok kept ∙ answer

          pub put_state : listed e c t' ≡ posted held i j z
          put_state =
              ap (listed e c) (after ∙ putted_ok t key q (put_ok t key o accepted))
              ∙ (in_listed e c t k.stored i j key k.placed q ∙ sym (posted_done held i j z q (sym answer)))

        -- it is declined
        module _ (x : Refusal) (declined : Err x ≡ put_reply t key) where
          pub full_answer : Err x ≡ reply held i j z
          full_answer =
              let u = put_err t key x declined in
              ap Err u.1 ∙ sym (reply_full held i j z held_inside facts.0 (blocked_is ∙ ap not u.0))

          pub full_state : listed e c t' ≡ posted held i j z
          full_state =
              ap (listed e c) (after ∙ putted_err t key q (put_err t key x declined).0)
              ∙ sym (posted_declined held i j z x (sym full_answer))

-- ---- a new list
spread_empty : (e c i j : ℕ) → spread e c (λ _. None) i j ≡ pos 0
spread_empty e c i j = cond_both (ltb i e && ltb j c) (pos 0) (pos 0) (λ z. z ≡ pos 0) (λ _. refl) (λ _. refl)

gets_none : (n : ℕ) → value_of {V = ℤ} (emptied n) ≡ (λ _. None)
gets_none n = fun_ext (λ k. get-empty nat_cmp k)

pub new_stored : (e c n : ℕ) (t : Table ℤ) → t ≡ emptied n → Stored e c t
new_stored e c n t h = subst (Stored e c) (sym h) (record {
  each = λ k. rw (get-empty nat_cmp k) tt;
  counted = len-empty nat_cmp ℤ ∙ sym (nonzeros_none (spread e c (value_of (emptied n))) e c (λ i j. ap (λ f. spread e c f i j) (gets_none n) ∙ spread_empty e c i j));
  room = rw (len-empty nat_cmp ℤ) (omega arith);
})

pub new_state : (e c n m : ℕ) (t : Table ℤ) (e' : ℕ) → e' ≡ cond (eqb n 0) 0 e → t ≡ emptied m → m ≡ min n most_pairs → listed e' c t ≡ new_list n e c
unfolding listed
new_state e c n m t e' h k l =
    ap₂ (λ d u. listed d c u) h (k ∙ ap emptied l)
    ∙ (λ s. record { entities = cond (eqb n 0) 0 e; contracts = c; capacity = min n most_pairs; at = λ i j. (ap (λ f. spread (cond (eqb n 0) 0 e) c f i j) (gets_none (min n most_pairs)) ∙ spread_empty (cond (eqb n 0) 0 e) c i j) s })
