-- What a report writes: one mark more, and that the order in which it goes names each kept breach once.
use Rattle.std.proofs.Common.{◌≡◌, ◌⊎◌, ℕ, zero, suc, ◌+◌, ◌*◌, ◌<◌, ◌≤◌, List, [], ◌∷◌, ◌++◌, length, set, drop, get_or, Option, Some, None, sym, refl, ap, ◌∙◌, subst, add-zero, inl, inr, arith}
use Rattle.std.specs.List.{Contains}
use Rattle.std.proofs.lemmas.List.{length_push}
use Rattle.std.proofs.lemmas.List.Elements.{All-push, All-weaker, Contains-push, Contains-append_left}
use Rattle.std.proofs.lemmas.List.Quantifiers.{all_pairs_push}
use Rattle.std.proofs.lemmas.Bool.{cases_lt}
use Rattle.terms.specs.declared.mark.Mark.{Mark}
use Rattle.terms.specs.declared.mark.Mark.TheVariants.{NetLong, NetShort, GrossLong, GrossShort}
use Rattle.index.specs.declared.mark.MarkRow.{MarkRow}
use Rattle.index.specs.declared.report.Breach.{Breach}
use Rattle.index.specs.Kept.{IsKept, AreApart, Names}
use Rattle.index.specs.Listing.{mark_at, with_kept, with_marks, listing, over}

-- ---- rows with a list written over them
over_more : (list old : List Breach) (b : Breach) → set (over list old) (length list) b ≡ over (list ++ (b ∷ [])) old
over_more [] [] b = refl
over_more [] (row ∷ old) b = refl
over_more (x ∷ list) [] b = refl
over_more (x ∷ list) (row ∷ old) b = ap (λ (l : List Breach). x ∷ l) (over_more list old b)

pub over_whole : (list old : List Breach) → length list ≤ length old → over list old ≡ list ++ drop (length list) old
over_whole [] old h = refl
over_whole (b ∷ list) [] h = absurd (omega arith)
over_whole (b ∷ list) (row ∷ old) h = ap (λ (l : List Breach). b ∷ l) (over_whole list old (omega arith))

-- a list is written over the rows old, and told is its length
pub record Told (list old rows : List Breach) (told : ℕ) : Type 0 where
  pub rows_are : rows ≡ over list old
  pub told_is : told ≡ length list

-- one mark more: nothing is written where it keeps nothing, and else its breach behind those told
module _ (list old : List Breach) (e : ℕ) (m : Mark) (o : Option ℕ) (rows rows' : List Breach) (told told' : ℕ) where
  pub told_none : o ≡ None → Told list old rows told → rows' ≡ rows → told' ≡ told → Told (with_kept e m o list) old rows' told'
  told_none h t r n = rw h (record { rows_are = r ∙ t.rows_are; told_is = n ∙ t.told_is })

  pub told_some : (v : ℕ) → o ≡ Some v → Told list old rows told → rows' ≡ set rows told (record { entity = e; mark = m; largest = v }) → told' ≡ told + 1 → Told (with_kept e m o list) old rows' told'
  told_some v h t r n =
      let b : Breach = record { entity = e; mark = m; largest = v } in
      rw h (record {
        rows_are = r ∙ rw (t.rows_are, t.told_is) (over_more list old b);
        told_is = n ∙ ap (λ k. k + 1) t.told_is ∙ sym (length_push list b);
      })

-- ---- how many they are, at most
kept_small : (e : ℕ) (m : Mark) (o : Option ℕ) (list : List Breach) → length (with_kept e m o list) ≤ length list + 1
kept_small e m None list = omega arith
kept_small e m (Some v) list = omega (arith, length_push list (record { entity = e; mark = m; largest = v }))

module _ (rows : ℕ → Mark → MarkRow) where
  pub marks_small : (k e : ℕ) (list : List Breach) → length (with_marks k rows e list) ≤ length list + k
  marks_small zero e list = omega arith
  marks_small (suc k) e list =
      omega (arith, marks_small k e list, kept_small e (mark_at k) (rows e (mark_at k)).kept (with_marks k rows e list))

  pub listing_small : (n : ℕ) → length (listing n rows) ≤ 4 * n
  listing_small zero = omega arith
  listing_small (suc n) = omega (arith, listing_small n, marks_small 4 n (listing n rows))

-- ---- what they are
-- the places of the four marks, and below that of a breach among all that may be
abbrev place_of : Mark → ℕ
place_of NetLong = 0
place_of NetShort = 1
place_of GrossLong = 2
place_of GrossShort = 3

place_small : (m : Mark) → place_of m < 4
place_small NetLong = omega arith
place_small NetShort = omega arith
place_small GrossLong = omega arith
place_small GrossShort = omega arith

at_place : (m : Mark) → mark_at (place_of m) ≡ m
at_place NetLong = refl
at_place NetShort = refl
at_place GrossLong = refl
at_place GrossShort = refl

place_at : (k : ℕ) → k < 4 → place_of (mark_at k) ≡ k
place_at zero h = refl
place_at (suc zero) h = refl
place_at (suc (suc zero)) h = refl
place_at (suc (suc (suc zero))) h = refl
place_at (suc (suc (suc (suc k)))) h = absurd (omega arith)

abbrev place : Breach → ℕ
place b = 4 * b.entity + place_of b.mark

-- breaches at one place are of one mark of one entity
same_place : (b c : Breach) → place b ≡ place c → (b.entity ≡ c.entity) × (b.mark ≡ c.mark)
same_place b c h =
    let i = place_small b.mark in
    let j = place_small c.mark in
    let m : place_of b.mark ≡ place_of c.mark = omega arith in
    (omega arith, sym (at_place b.mark) ∙ ap mark_at m ∙ at_place c.mark)

same_breach : (i e : ℕ) (j m : Mark) (k v : ℕ) → i ≡ e → j ≡ m → k ≡ v → ◌≡◌ {A = Breach} (record { entity = i; mark = j; largest = k }) (record { entity = e; mark = m; largest = v })
same_breach i e j m k v p q r = cc

-- what a list names, said otherwise, and with one breach more
module _ {P Q : Breach → Type 0} (list : List Breach) (h : Names P list) (f : (b : Breach) → P b → Q b) where
  same_names : ((b : Breach) → Q b → P b) → Names Q list
  same_names g = record { named = All-weaker P Q f list h.named; whole = λ b q. h.whole b (g b q); once = h.once }

  name_more : (x : Breach) → Q x → ((b : Breach) → Q b → P b ⊎ (b ≡ x)) → ((b : Breach) → P b → AreApart b x) → Names Q (list ++ (x ∷ []))
  name_more x q g apart = record {
    named = All-push Q list x (All-weaker P Q f list h.named) q;
    whole = λ b r. elim (g b r) [
      | inl p ↦ Contains-append_left list (x ∷ []) b (h.whole b p)
      | inr e ↦ subst (Contains (list ++ (x ∷ []))) (sym e) (Contains-push list x)
    ];
    once = all_pairs_push AreApart list x h.once (λ k d l. apart (get_or list k d) (h.named k d l));
  }

module _ (rows : ℕ → Mark → MarkRow) where
  -- kept, and at one of the first k places
  abbrev Before : ℕ → Breach → Type 0
  Before k b = (place b < k) × ((rows b.entity b.mark).kept ≡ Some b.largest)

  -- one mark more
  mark_more : (e : ℕ) (m : Mark) (list : List Breach) (k j : ℕ) → k ≡ 4 * e + place_of m → j ≡ k + 1 → Names (Before k) list → Names (Before j) (with_kept e m (rows e m).kept list)
  mark_more e m list k j at next h = go (rows e m).kept refl
    where
      -- a breach before the next place stands before this one, or is of this mark
      cases : (b : Breach) → Before j b → Before k b ⊎ ((b.entity ≡ e) × (b.mark ≡ m))
      cases b q =
          elim (cases_lt (place b) k) [
            | inl l ↦ inl (l, q.1)
            | inr l ↦ inr (same_place b (record { entity = e; mark = m; largest = 0 }) (omega (arith, q.0)))
          ]

      go : (o : Option ℕ) → (rows e m).kept ≡ o → Names (Before j) (with_kept e m o list)
      go None n =
          same_names list h (λ b p. (omega (arith, p.0), p.1))
          (λ b q. elim (cases b q) [ inl p ↦ p | inr s ↦ absurd (cc (q.1, s.0, s.1)) ])
      go (Some v) n =
          name_more list h (λ b p. (omega (arith, p.0), p.1)) (record { entity = e; mark = m; largest = v }) (omega arith, n)
          (λ b q. elim (cases b q) [ inl p ↦ inl p | inr s ↦ inr (same_breach b.entity e b.mark m b.largest v s.0 s.1 (cc (q.1, s.0, s.1))) ])
          (λ b p s t. omega (arith, p.0, s, ap place_of t))

  marks_more : (k e : ℕ) (list : List Breach) → k ≤ 4 → Names (Before (4 * e)) list → Names (Before (4 * e + k)) (with_marks k rows e list)
  marks_more zero e list l h = rw add-zero h
  marks_more (suc k) e list l h =
      mark_more e (mark_at k) (with_marks k rows e list) (4 * e + k) (4 * e + suc k) (omega (arith, place_at k (omega arith))) (omega arith) (marks_more k e list (omega arith) h)

  all_more : (n : ℕ) → Names (Before (4 * n)) (listing n rows)
  all_more zero = record { named = λ k d l. absurd (omega arith); whole = λ b q. absurd (omega (arith, q.0)); once = λ i j d l m. absurd (omega arith) }
  all_more (suc n) =
      subst (λ k. Names (Before k) (listing (suc n) rows)) (omega arith) (marks_more 4 n (listing n rows) (omega arith) (all_more n))

  -- each of the first n entities' kept breaches, once
  pub listed : (n : ℕ) → Names (IsKept n rows) (listing n rows)
  listed n =
      same_names (listing n rows) (all_more n)
      (λ b p. record { within = omega (arith, p.0, place_small b.mark); value = p.1 })
      (λ b q. (omega (arith, q.within, place_small b.mark), q.value))
