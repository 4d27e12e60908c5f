-- What new cash keeps, and what a report leaves.
use Rattle.std.proofs.Common.{◌≡◌, ℕ, ◌≤◌, ◌<◌, true, false, cond, ◌&&◌, eqb, ltb, Some, None, Ok, Err, Option, refl, ap, ◌∙◌, ⊎_elim, arith}
use Rattle.std.specs.Option.{unwrap_or}
use Rattle.std.specs.Ordering.{nat_cmp}
use Rattle.std.specs.Cmp.{nat_cmp_total}
use Rattle.std.specs.FinMap.{insert, get-insert, get-empty}
use Rattle.std.proofs.lemmas.Bool.{cond_both, cond-false, cases_Bool, and_parts, ltb-true}
use Rattle.std.proofs.lemmas.Bool.Decides.{nat_tests}
use Rattle.terms.specs.declared.refusal.Refusal.TheVariants.{Full}
use Rattle.terms.specs.Bounds.{amount_bound, most_entities, most_underlyings}
use Rattle.book.specs.Tables.{Table, value_of, emptied, taken, put_reply, putted}
use Rattle.cover.specs.Reports.{is_watched, key_of, report_of, Small}

pub empty_small : (n : ℕ) (t : Table ℕ) → t ≡ emptied n → Small t
empty_small n t h key = rw (h, get-empty nat_cmp key) (omega arith)

module _ (t : Table ℕ) (key amount : ℕ) where
  -- each value once a key has a value
  abbrev grown : Table ℕ
  grown = record { capacity = t.capacity; rows = insert t.rows key amount }

  grown_is : (k : ℕ) → value_of grown k ≡ cond (eqb k key) (Some amount) (value_of t k)
  grown_is k = get-insert nat_cmp_total t.rows key amount k ∙ grind (arith, nat_tests)

  pub put_small : Small t → amount ≤ amount_bound → Small (putted t key amount)
  put_small h l k =
      cond_both (taken t key) grown t (λ t'. unwrap_or (value_of t' k) 0 ≤ amount_bound)
      (λ _. rw (grown_is k) (cond_both (eqb k key) (Some amount) (value_of t k) (λ o. unwrap_or o 0 ≤ amount_bound) (λ _. l) (λ _. h k)))
      (λ _. h k)

-- two pairs that can be watched have one key only where they are the same
same_key : (e u i j : ℕ) → u < most_underlyings → j < most_underlyings → eqb (key_of i j) (key_of e u) ≡ (eqb i e && eqb j u)
same_key e u i j l m = grind (arith, nat_tests)

-- a pair's key is its own, and there is one where it can be watched
keyed : (e u key : ℕ) → Some key ≡ cond (is_watched e u) (Some (key_of e u)) None → (is_watched e u ≡ true) × (key ≡ key_of e u)
keyed e u key h = (grind (arith, nat_tests), grind (arith, nat_tests))

-- a put that is answered is taken
put_taken : (t : Table ℕ) (key : ℕ) (o : Option ℕ) → Ok o ≡ put_reply t key → taken t key ≡ true
put_taken t key o h =
    ⊎_elim (λ v. v)
    (λ v. let e = h ∙ cond-false (taken t key) (Ok (value_of t key)) (Err Full) v in absurd (let z : ◌≡◌ {A = ℕ} 0 1 = cc in omega arith))
    (cases_Bool (taken t key))

module _ (t : Table ℕ) (e u key amount : ℕ) (o : Option ℕ) (k : Some key ≡ cond (is_watched e u) (Some (key_of e u)) None) (h : Ok o ≡ put_reply t key) where
  -- what is reported of each pair once a report is taken
  pub pairs_put : (i j : ℕ) → report_of (putted t key amount) i j ≡ cond (eqb i e && eqb j u) (Some amount) (report_of t i j)
  pairs_put i j = ⊎_elim (λ v. inside v) (λ v. outside v) (cases_Bool (is_watched i j))
    where
      w : is_watched e u ≡ true
      w = (keyed e u key k).0

      room : taken t key ≡ true
      room = put_taken t key o h

      inside : is_watched i j ≡ true → report_of (putted t key amount) i j ≡ cond (eqb i e && eqb j u) (Some amount) (report_of t i j)
      inside v =
          let p = and_parts (ltb e most_entities) (ltb u most_underlyings) w in
          let q = and_parts (ltb i most_entities) (ltb j most_underlyings) v in
          let same = ap (eqb (key_of i j)) (keyed e u key k).1 ∙ same_key e u i j (ltb-true _ _ p.1) (ltb-true _ _ q.1) in
          rw (v, room) (grown_is t key amount (key_of i j) ∙ ap (λ b. cond b (Some amount) (value_of t (key_of i j))) same)

      apart : is_watched i j ≡ false → (eqb i e && eqb j u) ≡ false
      apart v = let x = w in grind (arith, nat_tests)

      outside : is_watched i j ≡ false → report_of (putted t key amount) i j ≡ cond (eqb i e && eqb j u) (Some amount) (report_of t i j)
      outside v = rw (v, apart v) refl
