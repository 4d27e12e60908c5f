-- Rows in ascending order of key, as the entries of a map: a row at its place, put in, written over and taken out.
use Rattle.std.proofs.Common.{◌≡◌, ℕ, zero, suc, ◌+◌, ◌-◌, ◌*◌, ◌/◌, ◌<◌, ◌≤◌, ◌⊎◌, inl, inr, if◌then◌else◌, nat_le, Bool, true, false, cond, not, ◌&&◌, T, ◌≢◌, List, [], ◌∷◌, length, get_or, set, take, drop, Some, None, Ok, Err, Result, MatchResult, sym, refl, ap, ◌∙◌, subst, arith}
use Rattle.std.specs.List.{insert, remove as without}
use Rattle.std.specs.Result.{result_ok}
use Rattle.std.specs.Ordering.{nat_cmp, is_lt, eq_by_cmp}
use Rattle.std.specs.Cmp.{nat_cmp_total}
use Rattle.std.specs.FinMap.{FinMap, entries, from_sorted, get, len, remove, empty, same_entries_map, entries-from_sorted, entries-insert, get-from_sorted, len-entries, same_map, get-remove, get-empty, nat_cmp-IsAntisymmetric}
use Rattle.std.specs.FinMap as map
use Rattle.std.specs.FinMap.Entries.{find, put, where_key, below_all, is_sorted-put, is_sorted-where_key, find-where_key}
use Rattle.std.proofs.lemmas.List.{length-map, length-drop, get_or_default, get_or-drop, drop-drop, take_all}
use Rattle.std.proofs.lemmas.Bool.{cases_lt}
use Rattle.std.proofs.lemmas.Bool.Decides.{nat_tests}
use Rattle.book.specs.declared.row.Row.{Row}
use Rattle.book.specs.Places.{pairs, Ascending, Bracket, Found, Gap}

both_parts : (a b : Bool) → T (a && b) → T a × T b
both_parts true b h = (tt, h)
both_parts false b h = absurd h

is_below : (x y : ℕ) → T (is_lt (nat_cmp x y)) → x < y
is_below x y h = grind (arith, nat_tests)

-- the place that was found, or that of the gap
pub found : (P Q : ℕ → Type 0) (r : Result ℕ ℕ) (at : ℕ) → MatchResult r P Q → Some at ≡ result_ok r → P at
found P Q (Ok i) at h e = subst P (let s : at ≡ i = grind arith in sym s) h
found P Q (Err i) at h e = absurd (let z : ◌≡◌ {A = ℕ} 0 1 = cc in omega arith)

pub not_found : (P Q : ℕ → Type 0) (r : Result ℕ ℕ) → MatchResult r P Q → None ≡ result_ok r → (at : ℕ) × Q at
not_found P Q (Ok i) h e = absurd (let z : ◌≡◌ {A = ℕ} 0 1 = cc in omega arith)
not_found P Q (Err i) h e = (i, h)

module _ {V : Type 0} where
  -- each of some rows is above a key
  abbrev Above : ℕ → List (Row V) → Type 0
  Above x rows = T (below_all nat_cmp x (pairs rows))

  above_at : (x : ℕ) (rows : List (Row V)) (at : ℕ) (d : Row V) → Above x rows → at < length rows → x < (get_or rows at d).key
  above_at x [] at d h l = absurd (omega arith)
  above_at x (r ∷ rows) zero d h l = is_below x r.key (both_parts _ _ h).0
  above_at x (r ∷ rows) (suc at) d h l = above_at x rows at d (both_parts _ _ h).1 (omega arith)

  rises : (rows : List (Row V)) → Ascending rows → (i j : ℕ) (d : Row V) → i < j → j < length rows → (get_or rows i d).key < (get_or rows j d).key
  rises [] up i j d l m = absurd (omega arith)
  rises (r ∷ rows) up i zero d l m = absurd (omega arith)
  rises (r ∷ rows) up zero (suc j) d l m = above_at r.key rows j d (both_parts _ _ up).0 (omega arith)
  rises (r ∷ rows) up (suc i) (suc j) d l m = rises rows (both_parts _ _ up).1 i j d (omega arith) (omega arith)

  -- a bracket that is cut, by the rows from its base on alone; d is any row, and stands for what is read past the end
  module _ (rows : List (Row V)) (key base size : ℕ) (up : Ascending rows) (b : Bracket rows key base size) (rest : List (Row V)) (alone : rest ≡ drop base rows) (d : Row V) where
    abbrev at : ℕ → ℕ
    at p = (get_or rows (base + p) d).key

    same : (k : ℕ) (e : Row V) → k < length rows → (get_or rows k d).key ≡ (get_or rows k e).key
    same k e l = ap (λ (r : Row V). r.key) (get_or_default rows k d e l)

    read : (p : ℕ) (e : Row V) → p < size → (get_or rest p e).key ≡ at p
    read p e l =
        let w = b.within in
        ap (λ xs. (get_or xs p e).key) alone ∙ ap (λ (r : Row V). r.key) (get_or-drop base rows p e) ∙ sym (same (base + p) e (omega arith))

    climbs : (p q : ℕ) → p < q → q < size → at p < at q
    climbs p q l m = let w = b.within in rises rows up (base + p) (base + q) d (omega arith) (omega arith)

    -- to s places from p on: the key is no lower than the row at p, and below the one at top
    cut : (p s top : ℕ) → 0 < s → p + s ≤ size → top ≤ p + s → (0 < p → at p ≤ key) → (top ≡ size) ⊎ (top < size) × (key < at top) → Bracket rows key (base + p) s
    cut p s top some fits less low high =
        let w = b.within in
        record {
          some = some;
          within = omega arith;
          below = λ k f l.
              elim (cases_lt k base) [
                | inl m ↦ b.below k f m
                | inr m ↦
                    let h = low (omega arith) in
                    let r = rises rows up k (base + p) f l (omega arith) in
                    let t = same (base + p) f (omega arith) in
                    omega arith
              ];
          above = λ k f l m.
              elim high [
                | inl h ↦ b.above k f (omega arith) m
                | inr h ↦
                    let i = h.0 in
                    let j = h.1 in
                    let t = same (base + top) f (omega arith) in
                    elim (cases_lt (base + top) k) [
                      | inl n ↦ let r = rises rows up (base + top) k f n m in omega arith
                      | inr n ↦ let u = ap (λ n. (get_or rows n f).key) (let q : base + top ≡ k = omega arith in q) in omega arith
                    ]
              ];
        }

    -- a step to p, and what is then left alone
    stepped : (p n s : ℕ) → p ≡ n → Bracket rows key (base + p) s → Bracket rows key (base + n) s × (take (length rest - n) (drop n rest) ≡ drop (base + n) rows)
    stepped p n s e c =
        let long = length-drop n rest in
        (subst (λ n. Bracket rows key (base + n) s) e c, take_all _ _ (omega (arith, long)) ∙ ap (drop n) alone ∙ drop-drop n base rows)

    -- the half that the key is in, where r tells whether the row in the middle is at or below it
    pub halved : (e : Row V) → 1 < size → (r : ℕ) → r ≡ (if nat_le (get_or rest (size / 2) e).key key then 1 else 0) → Bracket rows key (base + size / 2 * r) (size - size / 2) × (take (length rest - size / 2 * r) (drop (size / 2 * r) rest) ≡ drop (base + size / 2 * r) rows)
    halved e more r h =
        let half = size / 2 in
        let i = read half e (omega arith) in
        elim (cases_lt key (at half)) [
          | inl f ↦
              let z : r ≡ 0 = grind (arith, nat_tests) in
              stepped 0 _ _ (rw z (omega arith)) (cut 0 (size - half) half (omega arith) (omega arith) (omega arith) (λ l. absurd (omega arith)) (inr (omega arith, f)))
          | inr g ↦
              let z : r ≡ 1 = grind (arith, nat_tests) in
              stepped half _ _ (rw z (omega arith)) (cut half (size - half) size (omega arith) (omega arith) (omega arith) (λ l. omega arith) (inl refl))
        ]

    -- the quarter that it is in, where x, y and z tell the same of the rows between them; the last quarter has what is over
    module _ (e f g : Row V) (more : 3 < size) where
      pub quartered : (x y z : ℕ) → x ≡ (if nat_le (get_or rest (size / 4) e).key key then 1 else 0) → y ≡ (if nat_le (get_or rest (2 * (size / 4)) f).key key then 1 else 0) → z ≡ (if nat_le (get_or rest (3 * (size / 4)) g).key key then 1 else 0) → Bracket rows key (base + size / 4 * (x + y + z)) (size - 3 * (size / 4)) × (take (length rest - size / 4 * (x + y + z)) (drop (size / 4 * (x + y + z)) rest) ≡ drop (base + size / 4 * (x + y + z)) rows)
      quartered x y z h i j =
          let q = size / 4 in
          let s = size - 3 * q in
          let a = read q e (omega arith) in
          let b = read (2 * q) f (omega arith) in
          let c = read (3 * q) g (omega arith) in
          let l = climbs q (2 * q) (omega arith) (omega arith) in
          let m = climbs (2 * q) (3 * q) (omega arith) (omega arith) in
          elim (cases_lt key (at q)) [
            | inl n ↦
                let t : x + y + z ≡ 0 = grind (arith, nat_tests) in
                stepped 0 _ _ (rw t (omega arith)) (cut 0 s q (omega arith) (omega arith) (omega arith) (λ l. absurd (omega arith)) (inr (omega arith, n)))
            | inr n ↦
                elim (cases_lt key (at (2 * q))) [
                  | inl o ↦
                      let t : x + y + z ≡ 1 = grind (arith, nat_tests) in
                      stepped q _ _ (rw t (omega arith)) (cut q s (2 * q) (omega arith) (omega arith) (omega arith) (λ l. omega arith) (inr (omega arith, o)))
                  | inr o ↦
                      elim (cases_lt key (at (3 * q))) [
                        | inl p ↦
                            let t : x + y + z ≡ 2 = grind (arith, nat_tests) in
                            stepped (2 * q) _ _ (rw t (omega arith)) (cut (2 * q) s (3 * q) (omega arith) (omega arith) (omega arith) (λ l. omega arith) (inr (omega arith, p)))
                        | inr p ↦
                            let t : x + y + z ≡ 3 = grind (arith, nat_tests) in
                            stepped (3 * q) _ _ (rw t (omega arith)) (cut (3 * q) s size (omega arith) (omega arith) (omega arith) (λ l. omega arith) (inl refl))
                      ]
                ]
          ]

  -- ---- a key that is missing
  module _ (key : ℕ) where
    missing : (rows : List (Row V)) → ((k : ℕ) (d : Row V) → k < length rows → (get_or rows k d).key ≢ key) → find nat_cmp key (pairs rows) ≡ None
    missing [] h = refl
    missing (r ∷ rows) h =
        let a = h 0 r (omega arith) in
        let i = missing rows (λ k d l. h (suc k) d (omega arith)) in
        grind (arith, nat_tests)

    find_none : (rows : List (Row V)) (at : ℕ) → Gap rows key at → find nat_cmp key (pairs rows) ≡ None
    find_none rows at g = missing rows (λ k d l e. let a = g.above k d in let b = g.below k d in grind (arith, cases_lt k at))

    -- its row is put in at its place
    insert_put : (rows : List (Row V)) (at : ℕ) (v : V) → Gap rows key at → pairs (insert rows at (record { key = key; value = v })) ≡ put nat_cmp key v (pairs rows)
    insert_put [] zero v g = refl
    insert_put [] (suc at) v g = absurd (let w = g.within in omega arith)
    insert_put (r ∷ rows) zero v g = let a = g.above 0 r (omega arith) (omega arith) in grind (arith, nat_tests)
    insert_put (r ∷ rows) (suc at) v g =
        let b = g.below 0 r (omega arith) in
        let i = insert_put rows at v (record {
          within = let w = g.within in omega arith;
          below = λ k d l. g.below (suc k) d (omega arith);
          above = λ k d l m. g.above (suc k) d (omega arith) (omega arith);
        }) in
        grind (arith, nat_tests)

  -- ---- a key that is there
  module _ (key : ℕ) where
    -- behind a row
    module _ (r : Row V) (rows : List (Row V)) (at : ℕ) (up : Ascending (r ∷ rows)) (f : Found (r ∷ rows) key (suc at)) where
      later : Found rows key at
      later = record { within = let w = f.within in omega arith; is = λ d. f.is d }

      up_later : Ascending rows
      up_later = (both_parts _ _ up).1

      beyond : r.key < key
      beyond =
          let l = later.within in
          let a = above_at r.key rows at r (both_parts _ _ up).0 l in
          let e = f.is r in
          omega arith

    find_some : (rows : List (Row V)) (at : ℕ) (d : Row V) → Ascending rows → Found rows key at → find nat_cmp key (pairs rows) ≡ Some (get_or rows at d).value
    find_some [] at d up f = absurd (let w = f.within in omega arith)
    find_some (r ∷ rows) zero d up f = let e = f.is r in grind (arith, nat_tests)
    find_some (r ∷ rows) (suc at) d up f =
        let b = beyond r rows at up f in
        let i = find_some rows at d (up_later r rows at up f) (later r rows at up f) in
        grind (arith, nat_tests)

    -- its row is written over
    set_put : (rows : List (Row V)) (at : ℕ) (row : Row V) → row.key ≡ key → Ascending rows → Found rows key at → pairs (set rows at row) ≡ put nat_cmp key row.value (pairs rows)
    set_put [] at row k up f = absurd (let w = f.within in omega arith)
    set_put (r ∷ rows) zero row k up f = let e = f.is r in grind (arith, nat_tests)
    set_put (r ∷ rows) (suc at) row k up f =
        let b = beyond r rows at up f in
        let i = set_put rows at row k (up_later r rows at up f) (later r rows at up f) in
        grind (arith, nat_tests)

    -- its row is taken out
    abbrev others : List (ℕ × V) → List (ℕ × V)
    others = where_key nat_cmp (λ x. not (eq_by_cmp nat_cmp key x))

    all_stay : (rows : List (Row V)) → Above key rows → others (pairs rows) ≡ pairs rows
    all_stay [] h = refl
    all_stay (r ∷ rows) h =
        let l = is_below key r.key (both_parts _ _ h).0 in
        let i : others (pairs rows) ≡ pairs rows = all_stay rows (both_parts _ _ h).1 in
        grind (arith, nat_tests)

    remove_others : (rows : List (Row V)) (at : ℕ) → Ascending rows → Found rows key at → pairs (without rows at) ≡ others (pairs rows)
    remove_others [] at up f = absurd (let w = f.within in omega arith)
    remove_others (r ∷ rows) zero up f =
        let e = f.is r in
        let s = all_stay rows (subst (λ k. Above k rows) e (both_parts _ _ up).0) in
        grind (arith, nat_tests)
    remove_others (r ∷ rows) (suc at) up f =
        let b = beyond r rows at up f in
        let i = remove_others rows at (up_later r rows at up f) (later r rows at up f) in
        grind (arith, nat_tests)

-- ---- the map that rows make
module _ {V : Type 0} where
  abbrev pub mapped : List (Row V) → FinMap nat_cmp V
  mapped rows = from_sorted (pairs rows)

  entries_mapped : (rows : List (Row V)) → Ascending rows → entries (mapped rows) ≡ pairs rows
  entries_mapped rows up = entries-from_sorted nat_cmp (pairs rows) up

  pub len_mapped : (rows : List (Row V)) → Ascending rows → len (mapped rows) ≡ length rows
  len_mapped rows up = len-entries _ ∙ ap length (entries_mapped rows up) ∙ length-map rows (λ r. (r.key, r.value))

  pub empty_mapped : mapped [] ≡ empty
  empty_mapped = same_map nat_cmp_total nat_cmp-IsAntisymmetric _ _ (λ q. get-from_sorted nat_cmp [] q tt ∙ sym (get-empty nat_cmp q))

  pub get_some : (key : ℕ) (rows : List (Row V)) (at : ℕ) (d : Row V) → Ascending rows → Found rows key at → get (mapped rows) key ≡ Some (get_or rows at d).value
  get_some key rows at d up f = get-from_sorted nat_cmp _ key up ∙ find_some key rows at d up f

  pub get_none : (key : ℕ) (rows : List (Row V)) (at : ℕ) → Ascending rows → Gap rows key at → get (mapped rows) key ≡ None
  get_none key rows at up g = get-from_sorted nat_cmp _ key up ∙ find_none key rows at g

  -- what other rows make, which are in order too
  pub record Makes (rows : List (Row V)) (m : FinMap nat_cmp V) : Type 0 where
    pub ascending : Ascending rows
    pub is : mapped rows ≡ m

  module _ (key : ℕ) (rows : List (Row V)) (at : ℕ) (up : Ascending rows) where
    putting : (v : V) (rows' : List (Row V)) → pairs rows' ≡ put nat_cmp key v (pairs rows) → Makes rows' (map.insert (mapped rows) key v)
    putting v rows' e =
        let u : Ascending rows' = rw e (is_sorted-put nat_cmp nat_cmp_total key v (pairs rows) up) in
        record {
          ascending = u;
          is = same_entries_map _ _ (entries_mapped rows' u ∙ e ∙ sym (entries-insert nat_cmp_total _ key v ∙ ap (put nat_cmp key v) (entries_mapped rows up)));
        }

    pub make_set : (row : Row V) → row.key ≡ key → Found rows key at → Makes (set rows at row) (map.insert (mapped rows) key row.value)
    make_set row k f = putting row.value _ (set_put key rows at row k up f)

    pub make_insert : (v : V) → Gap rows key at → Makes (insert rows at (record { key = key; value = v })) (map.insert (mapped rows) key v)
    make_insert v g = putting v _ (insert_put key rows at v g)

    pub make_remove : Found rows key at → Makes (without rows at) (remove (mapped rows) key)
    make_remove f =
        let e = remove_others key rows at up f in
        let u : Ascending (without rows at) = rw e (is_sorted-where_key nat_cmp _ (pairs rows) up) in
        record { ascending = u; is = same_map nat_cmp_total nat_cmp-IsAntisymmetric _ _ (λ q. get-from_sorted nat_cmp _ q u ∙ (ap (find nat_cmp q) e ∙ left q)) }
      where
        left : (q : ℕ) → find nat_cmp q (others key (pairs rows)) ≡ get (remove (mapped rows) key) q
        left q =
            let p = λ (x : ℕ). not (eq_by_cmp nat_cmp key x) in
            let a : find nat_cmp q (others key (pairs rows)) ≡ cond (p q) (find nat_cmp q (pairs rows)) None = find-where_key nat_cmp p q (λ x e. ap p (sym (nat_cmp-IsAntisymmetric q x e))) (pairs rows) in
            let b = get-remove nat_cmp_total (mapped rows) key q in
            let c = get-from_sorted nat_cmp (pairs rows) q up in
            grind (arith, nat_tests)
