-- A mark's row tells the truth: step by step, whatever the call at a place is to its index.
use Rattle.std.proofs.Common.{◌≡◌, ℕ, suc, ◌+◌, ◌*◌, ◌<◌, ◌≤◌, ◌↔◌, Bool, true, false, cond, ◌&&◌, ltb, max, Some, None, sym, refl, ap, ◌∙◌, subst, inl, inr, ⊎_elim, le_refl, arith}
use Rattle.std.proofs.lemmas.Bool.{ltb-true, lt-ltb, cond-true, both_ways, and_parts, and_from, cases_eq, cases_lt, cases_order, false≢true}
use Rattle.terms.specs.declared.mark.Mark.{Mark}
use Rattle.terms.specs.Marks.{side_of}
use Rattle.delta.specs.Sources.{Source}
use Rattle.cover.specs.Covers.{Amounts}
use Rattle.index.specs.Bounds.{per_paisa}
use Rattle.index.specs.declared.day.Day.{Day}
use Rattle.index.specs.declared.day.Due.{Due}
use Rattle.index.specs.declared.day.Due.TheVariants as due
use Rattle.index.specs.declared.day.Round.TheVariants.{Regular, Final}
use Rattle.index.specs.declared.mark.MarkRow.{MarkRow}
use Rattle.index.specs.Days.{round_at, one_more, owes_cure, awaits_snapshot}
use Rattle.index.specs.Calls.{over_by}
use Rattle.index.specs.Marks.{limit_for, is_over, is_final, provisional, sighted, finished, cured, settled}
use Rattle.model.specs.Readings.{reading_at}
use Rattle.model.specs.Calls.{Call, snapshot, cure, settle}
use Rattle.model.specs.Runs.{Run, before, book_at, listing_of, Accepted}
use Rattle.model.specs.Breaches.{value_at, Over, LastSnapshot, Sighted, ProvisionalAt, at_final, at_cure, Breached, LargestBreach, LargestOrNone, FinalAt, Stands, HowMany, has, lacks}
use Rattle.model.specs.Handbook.{Truthful}
use Rattle.model.proofs.HowMany.{how_many_alike, how_many_none, how_many_zero, how_many_some}
use Rattle.model.proofs.Events.{is_about}
use Rattle.model.proofs.Days.{not_snapshot_and_cure, differ, snapshot_or_cure, snapshot_or_settlement, cure_or_settlement, one_snapshot, one_cure, one_settlement, no_snapshot, no_cure, no_settlement, at_snapshot, at_cure_is, last_here, unsettled_on, unsettled_back, owed_on, owed_back, owed_here, none_after_final, none_after_cure, none_after_settlement, owed_is}

max_of_smaller : (a b : ℕ) → a ≤ b → max a b ≡ b
max_of_smaller a b h = omega arith

zero_smaller : (a b : ℕ) → a ≡ 0 → a ≤ b
zero_smaller a b h = omega arith

-- ---- breaches from place k to the next
module _ (r : Run) (k u e : ℕ) (m : Mark) where
  abbrev NoSettlement : Type 0
  NoSettlement = (a : Amounts) → Accepted r k (settle u a) → ⊥

  abbrev NoBreach : Type 0
  NoBreach = (d : Source) → ProvisionalAt r k u d e m → ⊥

  abbrev breached_on : NoSettlement → (j : ℕ) → Breached r k u e m j → Breached r (suc k) u e m j
  breached_on n j b = record { source = b.source; earlier = let h = b.earlier in omega arith; breach = b.breach; unsettled = unsettled_on r k u j b.unsettled n }

  abbrev breached_back : (j : ℕ) → j < k → Breached r (suc k) u e m j → Breached r k u e m j
  breached_back j l b = record { source = b.source; earlier = l; breach = b.breach; unsettled = unsettled_back r k u j b.unsettled }

  breached_alike : NoSettlement → (j : ℕ) → j < k → Breached r k u e m j ↔ Breached r (suc k) u e m j
  breached_alike n j l = (breached_on n j, breached_back j l)

  -- a place at which the mark is not breached
  module _ (n : NoSettlement) (w : NoBreach) where
    calm_count : (c : ℕ) → HowMany (Breached r k u e m) k c → HowMany (Breached r (suc k) u e m) (suc k) c
    calm_count c h = lacks (how_many_alike (Breached r k u e m) (Breached r (suc k) u e m) h (breached_alike n)) (λ b. w b.source b.breach)

    older : (j : ℕ) → Breached r (suc k) u e m j → j < k
    older j b = ⊎_elim (λ q. absurd (w b.source (subst (λ (p : ℕ). ProvisionalAt r p u b.source e m) q b.breach))) (λ q. let h = b.earlier in omega arith) (cases_eq j k)

    calm_largest : (v : ℕ) → LargestOrNone r k u e m v → LargestOrNone r (suc k) u e m v
    calm_largest v (inl l) = inl (record {
      place = l.place;
      breach = breached_on n l.place l.breach;
      value = l.value;
      none_larger = λ j b. l.none_larger j (breached_back j (older j b) b);
    })
    calm_largest v (inr h) = inr (λ j b. h.0 j (breached_back j (older j b) b), h.1)

  -- a place at which it is
  module _ (n : NoSettlement) (d : Source) (x : ProvisionalAt r k u d e m) (one_source : (d' : Source) → ProvisionalAt r k u d' e m → d' ≡ d) where
    abbrev newest : Breached r (suc k) u e m k
    newest = record { source = d; earlier = le_refl (suc k); breach = x; unsettled = λ i a p q y. absurd (omega arith) }

    broken_count : (c : ℕ) → HowMany (Breached r k u e m) k c → HowMany (Breached r (suc k) u e m) (suc k) (suc c)
    broken_count c h = has (how_many_alike (Breached r k u e m) (Breached r (suc k) u e m) h (breached_alike n)) newest

    -- the value of the breach at place k itself
    here_is : (j : ℕ) (b : Breached r (suc k) u e m j) → j ≡ k → value_at r j u b.source e m ≡ value_at r k u d e m
    here_is j b q =
        let s : b.source ≡ d = one_source b.source (subst (λ (p : ℕ). ProvisionalAt r p u b.source e m) q b.breach) in
        λ i. value_at r (q i) u (s i) e m

    bounded : (v : ℕ) → ((j : ℕ) (b : Breached r k u e m j) → value_at r j u b.source e m ≤ v) → (j : ℕ) (b : Breached r (suc k) u e m j) → value_at r j u b.source e m ≤ max v (value_at r k u d e m)
    bounded v h j b = ⊎_elim here before_it (cases_eq j k)
      where
        here : j ≡ k → value_at r j u b.source e m ≤ max v (value_at r k u d e m)
        here q = let s = here_is j b q in omega arith

        before_it : (j ≡ k → ⊥) → value_at r j u b.source e m ≤ max v (value_at r k u d e m)
        before_it q = let s = h j (breached_back j (let p = b.earlier in omega arith) b) in omega arith

    broken_largest : (v : ℕ) → LargestOrNone r k u e m v → LargestBreach r (suc k) u e m (max v (value_at r k u d e m))
    broken_largest v (inr h) = record { place = k; breach = newest; value = max_of_smaller v (value_at r k u d e m) (zero_smaller v (value_at r k u d e m) h.1); none_larger = bounded v (λ j b. absurd (h.0 j b)) }
    broken_largest v (inl l) = ⊎_elim old new (cases_lt (value_at r k u d e m) v)
      where
        old : value_at r k u d e m < v → LargestBreach r (suc k) u e m (max v (value_at r k u d e m))
        old p = record { place = l.place; breach = breached_on n l.place l.breach; value = let q = l.value in omega arith; none_larger = bounded v l.none_larger }

        new : v ≤ value_at r k u d e m → LargestBreach r (suc k) u e m (max v (value_at r k u d e m))
        new p = record { place = k; breach = newest; value = max_of_smaller v (value_at r k u d e m) p; none_larger = bounded v l.none_larger }

  -- a place with a settlement
  module _ (a : Amounts) (x : Accepted r k (settle u a)) where
    no_breach_at_settlement : NoBreach
    no_breach_at_settlement d (at_final b f v) = snapshot_or_settlement r k u d a b x
    no_breach_at_settlement d (at_cure b v j s l w) = cure_or_settlement r k u d a b x

    none_since : (j : ℕ) → Breached r (suc k) u e m j → ⊥
    none_since j b =
        ⊎_elim (λ q. no_breach_at_settlement b.source (subst (λ (p : ℕ). ProvisionalAt r p u b.source e m) q b.breach))
        (λ q. let h = b.earlier in b.unsettled k a (omega arith) (le_refl (suc k)) x)
        (cases_eq j k)

  -- ---- what stands
  stands_on : NoSettlement → (v : ℕ) → Stands r k u e m v ↔ Stands r (suc k) u e m v
  stands_on n v = (on, back)
    where
      on : Stands r k u e m v → Stands r (suc k) u e m v
      on s = record {
        place = s.place;
        cover = s.cover;
        last = record {
          earlier = let h = s.last.earlier in omega arith;
          accepted = s.last.accepted;
          last = λ i a p q x. ⊎_elim (λ t. n a (subst (λ (y : ℕ). Accepted r y (settle u a)) t x)) (λ t. s.last.last i a p (omega arith) x) (cases_eq i k);
        };
        breach = s.breach;
      }

      back : Stands r (suc k) u e m v → Stands r k u e m v
      back s = record {
        place = s.place;
        cover = s.cover;
        last = record {
          earlier = ⊎_elim (λ t. absurd (n s.cover (subst (λ (y : ℕ). Accepted r y (settle u s.cover)) t s.last.accepted))) (λ t. let h = s.last.earlier in omega arith) (cases_eq s.place k);
          accepted = s.last.accepted;
          last = λ i a p q x. s.last.last i a p (omega arith) x;
        };
        breach = s.breach;
      }

-- ---- one place more, by what a row holds
module _ (r : Run) (k u e : ℕ) (m : Mark) (old new : MarkRow) (so : Truthful r k u e m old) where
  -- where the mark is not breached and the index not settled
  calm : NoSettlement r k u e m → NoBreach r k u e m → new.count ≡ old.count → new.largest ≡ old.largest → new.kept ≡ old.kept → (new.sighted ≡ true) ↔ Sighted r (suc k) u e m → Truthful r (suc k) u e m new
  calm n w c l s g = record {
    sighted = g;
    count = subst (HowMany (Breached r (suc k) u e m) (suc k)) (sym c) (calm_count r k u e m n w old.count so.count);
    largest = subst (LargestOrNone r (suc k) u e m) (sym l) (calm_largest r k u e m n w old.largest so.largest);
    kept = λ v. let a = so.kept v in let b = stands_on r k u e m n v in (λ t. b.0 (a.0 (sym s ∙ t)), λ t. s ∙ a.1 (b.1 t));
  }

  -- where it is breached
  broken : NoSettlement r k u e m → (d : Source) → ProvisionalAt r k u d e m → ((d' : Source) → ProvisionalAt r k u d' e m → d' ≡ d) → new.count ≡ suc old.count → new.largest ≡ max old.largest (value_at r k u d e m) → new.kept ≡ old.kept → (new.sighted ≡ true) ↔ Sighted r (suc k) u e m → Truthful r (suc k) u e m new
  broken n d x one c l s g = record {
    sighted = g;
    count = subst (HowMany (Breached r (suc k) u e m) (suc k)) (sym c) (broken_count r k u e m n d x one old.count so.count);
    largest = inl (subst (LargestBreach r (suc k) u e m) (sym l) (broken_largest r k u e m n d x one old.largest so.largest));
    kept = λ v. let a = so.kept v in let b = stands_on r k u e m n v in (λ t. b.0 (a.0 (sym s ∙ t)), λ t. s ∙ a.1 (b.1 t));
  }

none_sighted : (b : Bool) (P : Type 0) → b ≡ false → (P → ⊥) → (b ≡ true) ↔ P
none_sighted b P e n = (λ t. absurd (both_ways b e t), λ p. absurd (n p))

-- ---- a watched entity's mark
module _ (r : Run) (u e : ℕ) (m : Mark) (watched : e < r.opening.book.entities) where
  abbrev pub row : ℕ → MarkRow
  row k = (before r k).marks u e m

  -- the mark is over, by its value
  abbrev pub over_test : ℕ → Source → Bool
  over_test k d = over_by r.opening.limits d.price (reading_at (listing_of r) u d (book_at r k)) e m

  pub over_from : (k : ℕ) (d : Source) → over_test k d ≡ true → Over r k u d e m
  over_from k d t = record { watched = watched; exceeds = ltb-true (limit_for r.opening.limits m * per_paisa) (value_at r k u d e m) t }

  pub is_over_by : (k : ℕ) (d : Source) → Over r k u d e m → over_test k d ≡ true
  is_over_by k d v = lt-ltb (limit_for r.opening.limits m * per_paisa) (value_at r k u d e m) v.exceeds

  -- what a breach at a snapshot and at a cure is
  pub breach_at_snapshot : (k : ℕ) (d d' : Source) → Accepted r k (snapshot u d) → ProvisionalAt r k u d' e m → (d' ≡ d) × (round_at d.minute ≡ Some Final) × Over r k u d e m
  breach_at_snapshot k d d' a (at_final b f v) =
      let p = one_snapshot r k u d' d b a in
      (p, ap (λ (x : Source). round_at x.minute) (sym p) ∙ f, subst (λ (x : Source). Over r k u x e m) p v)
  breach_at_snapshot k d d' a (at_cure b v j s l w) = absurd (snapshot_or_cure r k u d d' a b)

  pub breach_at_cure : (k : ℕ) (d d' : Source) → Accepted r k (cure u d) → ProvisionalAt r k u d' e m → (d' ≡ d) × Over r k u d e m × ((j : ℕ) × (s : Source) × LastSnapshot r k u j s × Over r j u s e m)
  breach_at_cure k d d' a (at_final b f v) = absurd (snapshot_or_cure r k u d' d b a)
  breach_at_cure k d d' a (at_cure b v j s l w) =
      let p = one_cure r k u d' d b a in
      (p, subst (λ (x : Source). Over r k u x e m) p v, (j, s, l, w))

  -- the last snapshot is one
  one_last : (k j j' : ℕ) (d d' : Source) → LastSnapshot r k u j d → LastSnapshot r k u j' d' → j ≡ j'
  one_last k j j' d d' l l' = ⊎_elim (λ q. q) (⊎_elim (λ p. absurd (l.last j' d' p l'.earlier l'.accepted)) (λ p. absurd (l'.last j d p l.earlier l.accepted))) (cases_order j j')

  -- at an accepted cure a mark is sighted if it was over at the last snapshot
  pub sighted_if : (k : ℕ) (d : Source) → Accepted r k (cure u d) → (j : ℕ) (s : Source) → LastSnapshot r k u j s → Over r j u s e m → Sighted r k u e m
  sighted_if k d a j s l v =
      let o = (owed_is r u k).0 (at_cure_is r k u d a).0 in
      let p = one_last k j o.0 s o.1 l o.2.last in
      let q = one_snapshot r o.0 u s o.1 (subst (λ (i : ℕ). Accepted r i (snapshot u s)) p l.accepted) o.2.last.accepted in
      record { place = o.0; source = o.1; owed = o.2; over = subst (λ (i : ℕ). Over r i u o.1 e m) p (subst (λ (x : Source). Over r j u x e m) q v) }

  -- ---- each call of the day, at a place that has it
  module _ (k : ℕ) (so : Truthful r k u e m (row k)) where
    -- a regular snapshot
    pub at_regular : (d : Source) → Accepted r k (snapshot u d) → round_at d.minute ≡ Some Regular → Truthful r (suc k) u e m (sighted (over_test k d) (row k))
    at_regular d a g =
        calm r k u e m (row k) (sighted (over_test k d) (row k)) so
        (λ c x. snapshot_or_settlement r k u d c a x)
        (λ d' x. differ (sym (breach_at_snapshot k d d' a x).1 ∙ g))
        refl refl refl
        (there, back)
      where
        there : over_test k d ≡ true → Sighted r (suc k) u e m
        there t = record { place = k; source = d; owed = owed_here r k u d a g; over = over_from k d t }

        back : Sighted r (suc k) u e m → over_test k d ≡ true
        back s =
            let q = last_here r k u s.place d s.source a s.owed.last in
            let p = one_snapshot r k u s.source d (subst (λ (i : ℕ). Accepted r i (snapshot u s.source)) q s.owed.last.accepted) a in
            is_over_by k d (subst (λ (x : Source). Over r k u x e m) p (subst (λ (i : ℕ). Over r i u s.source e m) q s.over))

    -- a final one
    pub at_final_one : one_more (row k).count ≡ suc (row k).count → (d : Source) → Accepted r k (snapshot u d) → round_at d.minute ≡ Some Final → Truthful r (suc k) u e m (finished (over_test k d) (value_at r k u d e m) (row k))
    at_final_one small d a g = go (over_test k d) refl
      where
        none_now : ((row k).sighted ≡ true) ↔ Sighted r (suc k) u e m
        none_now = (
          λ t. let s = so.sighted.0 t in absurd (not_snapshot_and_cure ((before r k).ledger.days u).due (at_snapshot r k u d a).0 ((owed_is r u k).1 (s.place, s.source, s.owed))),
          λ s. absurd (none_after_final r k u d a g s.place s.source s.owed),
        )

        go : (b : Bool) → over_test k d ≡ b → Truthful r (suc k) u e m (finished b (value_at r k u d e m) (row k))
        go true t =
            broken r k u e m (row k) (provisional (value_at r k u d e m) (row k)) so
            (λ c x. snapshot_or_settlement r k u d c a x) d (at_final a g (over_from k d t)) (λ d' x. (breach_at_snapshot k d d' a x).0) small refl refl none_now
        go false t =
            calm r k u e m (row k) (row k) so
            (λ c x. snapshot_or_settlement r k u d c a x) (λ d' x. both_ways (over_test k d) t (is_over_by k d (breach_at_snapshot k d d' a x).2)) refl refl refl none_now

    -- a cure
    pub at_cure_one : one_more (row k).count ≡ suc (row k).count → (d : Source) → Accepted r k (cure u d) → Truthful r (suc k) u e m (cured (over_test k d) (value_at r k u d e m) (row k))
    at_cure_one small d a = go ((row k).sighted && over_test k d) refl
      where
        none_now : (false ≡ true) ↔ Sighted r (suc k) u e m
        none_now = none_sighted false _ refl (λ s. none_after_cure r k u d a s.place s.source s.owed)

        breach : (row k).sighted ≡ true → over_test k d ≡ true → ProvisionalAt r k u d e m
        breach p q = let s = so.sighted.0 p in at_cure a (over_from k d q) s.place s.source s.owed.last s.over

        go : (b : Bool) → ((row k).sighted && over_test k d) ≡ b → Truthful r (suc k) u e m (sighted false (finished b (value_at r k u d e m) (row k)))
        go true t =
            let p = and_parts (row k).sighted (over_test k d) t in
            broken r k u e m (row k) (sighted false (provisional (value_at r k u d e m) (row k))) so
            (λ c x. cure_or_settlement r k u d c a x) d (breach p.0 p.1) (λ d' x. (breach_at_cure k d d' a x).0) small refl refl none_now
        go false t =
            calm r k u e m (row k) (sighted false (row k)) so
            (λ c x. cure_or_settlement r k u d c a x)
            (λ d' x.
            let b = breach_at_cure k d d' a x in
            let s = sighted_if k d a b.2.0 b.2.1 b.2.2 b.2.3 in
            both_ways ((row k).sighted && over_test k d) t (and_from (row k).sighted (over_test k d) (so.sighted.1 s) (is_over_by k d b.1)))
            refl refl refl none_now

    -- ---- a settlement
    abbrev pub final_test : Amounts → Bool
    final_test a = is_final (limit_for r.opening.limits m) (a e u (side_of m)) (row k)

    -- the row's largest value is that of the mark's breaches
    largest_is : (v : ℕ) → LargestBreach r k u e m v → (row k).largest ≡ v
    largest_is v l = ⊎_elim same (λ h. absurd (h.0 l.place l.breach)) so.largest
      where
        same : LargestBreach r k u e m (row k).largest → (row k).largest ≡ v
        same l' = omega (arith, l'.none_larger l.place l.breach, l.none_larger l'.place l'.breach, l.value, l'.value)

    pub final_from : (a : Amounts) → Accepted r k (settle u a) → final_test a ≡ true → FinalAt r k u a e m (row k).largest
    final_from a x t =
        let p = and_parts (ltb 0 (row k).count) (is_over (limit_for r.opening.limits m + a e u (side_of m)) (row k).largest) t in
        let some = ltb-true 0 (row k).count p.0 in
        record {
          accepted = x;
          largest = ⊎_elim (λ l. l) (λ h. let z = how_many_zero (Breached r k u e m) so.count h.0 in absurd (omega (arith, some, z))) so.largest;
          exceeds = ltb-true ((limit_for r.opening.limits m + a e u (side_of m)) * per_paisa) (row k).largest p.1;
        }

    pub is_final_by : (a : Amounts) (v : ℕ) → FinalAt r k u a e m v → final_test a ≡ true
    is_final_by a v f =
        let same = largest_is v f.largest in
        and_from (ltb 0 (row k).count) (is_over (limit_for r.opening.limits m + a e u (side_of m)) (row k).largest)
        (lt-ltb 0 (row k).count (how_many_some (Breached r k u e m) so.count f.largest.place f.largest.breach.earlier f.largest.breach))
        (lt-ltb ((limit_for r.opening.limits m + a e u (side_of m)) * per_paisa) (row k).largest (omega (arith, f.exceeds, same)))

    pub at_settlement : (a : Amounts) → Accepted r k (settle u a) → Truthful r (suc k) u e m (settled (final_test a) (row k))
    at_settlement a x = record {
      sighted = none_sighted false _ refl (λ s. none_after_settlement r k u a x s.place s.source s.owed);
      count = how_many_none (Breached r (suc k) u e m) (suc k) (λ j l b. none_since r k u e m a x j b);
      largest = inr (none_since r k u e m a x, refl);
      kept = λ v. (there v (final_test a) refl, back v);
    }
      where
        here : (v : ℕ) → FinalAt r k u a e m v → Stands r (suc k) u e m v
        here v f = record { place = k; cover = a; last = record { earlier = le_refl (suc k); accepted = x; last = λ i c p q y. absurd (omega arith) }; breach = f }

        there : (v : ℕ) (b : Bool) → final_test a ≡ b → cond b (Some (row k).largest) None ≡ Some v → Stands r (suc k) u e m v
        there v false t p = let z : ◌≡◌ {A = ℕ} 0 1 = cc in absurd (omega arith)
        there v true t p = let q : (row k).largest ≡ v = cc in here v (subst (FinalAt r k u a e m) q (final_from a x t))

        back : (v : ℕ) → Stands r (suc k) u e m v → cond (final_test a) (Some (row k).largest) None ≡ Some v
        back v s =
            let q : s.place ≡ k = ⊎_elim (λ q. q) (λ q. let h = s.last.earlier in absurd (s.last.last k a (omega arith) (le_refl (suc k)) x)) (cases_eq s.place k) in
            let c = one_settlement r k u s.cover a (subst (λ (i : ℕ). Accepted r i (settle u s.cover)) q s.last.accepted) x in
            let f = subst (λ (z : Amounts). FinalAt r k u z e m v) c (subst (λ (i : ℕ). FinalAt r i u s.cover e m v) q s.breach) in
            cond-true (final_test a) _ _ (is_final_by a v f) ∙ ap Some (largest_is v f.largest)

    -- ---- and a place that has none of these
    pub at_rest : ((c : Call) → Accepted r k c → is_about u c ≡ false) → Truthful r (suc k) u e m (row k)
    at_rest n =
        calm r k u e m (row k) (row k) so (no_settlement r k u n) quiet refl refl refl (
          λ t. let s = so.sighted.0 t in record { place = s.place; source = s.source; owed = owed_on r k u n s.place s.source s.owed; over = s.over },
          λ s. so.sighted.1 (record { place = s.place; source = s.source; owed = owed_back r k u (no_snapshot r k u n) s.place s.source s.owed; over = s.over }),
        )
      where
        quiet : (d : Source) → ProvisionalAt r k u d e m → ⊥
        quiet d (at_final b f v) = no_snapshot r k u n d b
        quiet d (at_cure b v j s l w) = no_cure r k u n d b
