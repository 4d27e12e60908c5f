-- The table of the rows in use: what finding, putting and removing mean.
use Rattle.std.proofs.Common.{◌≡◌, ℕ, ◌+◌, ◌-◌, ◌<◌, ◌≤◌, cond, List, length, get_or, take, set, Some, None, Ok, Err, sym, refl, ap, ◌∙◌, subst, ap₂, arith}
use lib.Seq.{take-set-lt}
use Rattle.std.specs.List.{insert, remove as without}
use Rattle.std.specs.Ordering.{nat_cmp, eq_by_cmp}
use Rattle.std.specs.Cmp.{nat_cmp_total}
use Rattle.std.specs.FinMap.{FinMap, get, same_map, get-remove, nat_cmp-IsAntisymmetric}
use Rattle.std.specs.FinMap as map
use Rattle.std.proofs.lemmas.List.{length-set, length-take-le, get_or-take}
use Rattle.std.proofs.lemmas.Bool.{cases_eq, lt-ltb, le-ltb}
use Rattle.std.proofs.lemmas.Bool.Decides.{nat_tests}
use Rattle.terms.specs.declared.refusal.Refusal.TheVariants.{Full}
use Rattle.book.specs.declared.row.Row.{Row}
use Rattle.book.specs.Tables.{Table, size, value_of, put_reply, putted, removed}
use Rattle.book.specs.Places.{Ascending, Found, Gap}
use Rattle.book.proofs.Rows.{mapped, Makes, len_mapped, get_some, get_none, make_set, make_insert, make_remove}

-- ---- any table
module _ {V : Type 0} (t : Table V) (key : ℕ) where
  abbrev grown : V → Table V
  grown v = record { capacity = t.capacity; rows = map.insert t.rows key v }

  put_known : (old v : V) → value_of t key ≡ Some old → (put_reply t key ≡ Ok (Some old)) × (putted t key v ≡ grown v)
  put_known old v h = (rw h refl, rw h refl)

  put_new : (v : V) → value_of t key ≡ None → size t < t.capacity → (put_reply t key ≡ Ok None) × (putted t key v ≡ grown v)
  put_new v h l = (rw (h, lt-ltb _ _ l) refl, rw (h, lt-ltb _ _ l) refl)

  put_full : (v : V) → value_of t key ≡ None → t.capacity ≤ size t → (put_reply t key ≡ Err Full) × (putted t key v ≡ t)
  put_full v h l = (rw (h, le-ltb _ _ l) refl, rw (h, le-ltb _ _ l) refl)

  remove_none : value_of t key ≡ None → removed t key ≡ t
  remove_none h =
      ap (λ (m : FinMap nat_cmp V). record { capacity = t.capacity; rows = m })
      (same_map nat_cmp_total nat_cmp-IsAntisymmetric _ _ (λ q. get-remove nat_cmp_total t.rows key q ∙ same q))
    where
      same : (q : ℕ) → cond (eq_by_cmp nat_cmp q key) None (get t.rows q) ≡ get t.rows q
      same q = let e : q ≡ key → get t.rows q ≡ get t.rows key = ap (get t.rows) in grind (arith, nat_tests, cases_eq q key)

-- ---- the table of the first n of some places
module _ {V : Type 0} (places : List (Row V)) (n key : ℕ) (fits : n ≤ length places) (up : Ascending (take n places)) where
  abbrev made : List (Row V) → ℕ → Table V
  made places n = record { capacity = length places; rows = mapped (take n places) }

  abbrev before : Table V
  before = made places n

  pub size_is : size before ≡ n
  size_is = len_mapped (take n places) up ∙ length-take-le n places fits

  -- no more keys have a value than may have one
  pub size_le : size before ≤ before.capacity
  size_le = rw size_is fits

  -- what other places keep, and the table that they make
  pub record Leaves (places' : List (Row V)) (n' : ℕ) (t : Table V) : Type 0 where
    pub room : n' ≤ length places'
    pub ascending : Ascending (take n' places')
    pub is : made places' n' ≡ t

  leaves : (places' : List (Row V)) (n' : ℕ) (rows : List (Row V)) (m : FinMap nat_cmp V) → n' ≤ length places' → length places' ≡ length places → take n' places' ≡ rows → Makes rows m → Leaves places' n' (record { capacity = length places; rows = m })
  leaves places' n' rows m r c e k = record {
    room = r;
    ascending = rw e k.ascending;
    is = ap₂ (λ (c : ℕ) (m : FinMap nat_cmp V). record { capacity = c; rows = m }) c (ap mapped e ∙ k.is);
  }

  module _ (at : ℕ) (f : Found (take n places) key at) where
    below : at < n
    below = let w = f.within in let l = length-take-le n places fits in omega arith

    pub known : (d : Row V) → value_of before key ≡ Some (get_or places at d).value
    known d = get_some key (take n places) at d up f ∙ ap (λ (r : Row V). Some r.value) (get_or-take n places at d below)

    pub known_reply : (d : Row V) → Ok (Some (get_or places at d).value) ≡ put_reply before key
    known_reply d = sym (put_known before key _ d.value (known d)).0

    pub key_is : (d : Row V) → (get_or places at d).key ≡ key
    key_is d = sym (ap (λ (r : Row V). r.key) (get_or-take n places at d below)) ∙ f.is d

    pub put_over : (row : Row V) → row.key ≡ key → Leaves (set places at row) n (putted before key row.value)
    put_over row k =
        let l = length-set places at row in
        subst (Leaves _ n) (sym (put_known before key _ row.value (known row)).1)
        (leaves _ n _ _ (omega arith) l (take-set-lt n places at _ below) (make_set key (take n places) at up row k f))

    pub take_out : (places' : List (Row V)) (m : ℕ) → m ≡ n - 1 → length places' ≡ length places → take m places' ≡ without (take n places) at → Leaves places' m (removed before key)
    take_out places' m k l e = leaves places' m _ _ (omega arith) l e (make_remove key (take n places) at up f)

  module _ (at : ℕ) (g : Gap (take n places) key at) where
    pub unknown : value_of before key ≡ None
    unknown = get_none key (take n places) at up g

    pub none_out : before ≡ removed before key
    none_out = sym (remove_none before key unknown)

    module _ (v : V) where
      pub full : n ≡ length places → (Err Full ≡ put_reply before key) × (before ≡ putted before key v)
      full l = let p = put_full before key v unknown (rw size_is (omega arith)) in (sym p.0, sym p.1)

      module _ (l : n < length places) where
        pub new_reply : Ok None ≡ put_reply before key
        new_reply = sym (put_new before key v unknown (rw size_is l)).0

        pub put_in : (places' : List (Row V)) (m : ℕ) → m ≡ n + 1 → length places' ≡ length places → take m places' ≡ insert (take n places) at (record { key = key; value = v }) → Leaves places' m (putted before key v)
        put_in places' m j k e =
            subst (Leaves _ m) (sym (put_new before key v unknown (rw size_is l)).1)
            (leaves places' m _ _ (omega arith) k e (make_insert key (take n places) at up v g))
