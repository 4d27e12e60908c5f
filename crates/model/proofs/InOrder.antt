-- The index's day goes in order.
use Rattle.std.proofs.Common.{◌≡◌, ℕ, zero, suc, ◌+◌, ◌<◌, ◌≤◌, ◌↔◌, true, false, not, ltb, Some, Ok, Option, sym, refl, ap, ◌∙◌, subst, ⊎_elim, le_refl, arith}
use Rattle.std.proofs.lemmas.Bool.{not-false, ltb-false, or_parts, cases_eq, both_ways, false≢true}
use Rattle.delta.specs.Sources.{Source}
use Rattle.cover.specs.Covers.{Amounts}
use Rattle.index.specs.Bounds.{cure_minutes, snapshots_least}
use Rattle.index.specs.declared.day.Day.{Day}
use Rattle.index.specs.declared.day.Due.{Due}
use Rattle.index.specs.declared.day.Due.TheVariants as due
use Rattle.index.specs.declared.day.Round.{Round}
use Rattle.index.specs.declared.day.Round.TheVariants.{Regular, Final}
use Rattle.index.specs.Days.{round_at, one_more, awaits_snapshot, owes_cure, is_complete, owed_by, is_short}
use Rattle.terms.specs.declared.kind.Underlying.TheVariants as kind
use Rattle.terms.specs.Causes.{checked}
use Rattle.model.specs.Causes.{kind_table}
use Rattle.model.specs.Indices.{settlement_table, round_in}
use Rattle.model.specs.Calls.{snapshot, settle}
use Rattle.model.specs.Runs.{Run, before, Accepted}
use Rattle.model.specs.Breaches.{Owed, Taken, Finished, HowMany, none, has, lacks}
use Rattle.model.specs.Handbook.{InOrder, DaysGoInOrder}
use Rattle.model.proofs.HowMany.{how_many_alike, how_many_none}
use Rattle.model.proofs.Events.{cleared, verdict_of_accepted, Event, snaps_at, cures_at, settles_at, rests_at, event}
use Rattle.model.proofs.Days.{not_snapshot_and_cure, not_snapshot_and_settlement, not_cure_and_settlement, differ, snapshot_or_cure, snapshot_or_settlement, cure_or_settlement, one_snapshot, no_snapshot, no_settlement, at_snapshot, at_cure_is, which_round, snapshot_on, snapshot_back, last_here, unsettled_on, unsettled_back, owed_back, none_after_cure, none_after_settlement, owed_is, minute_in, snapshot_minute, cure_minute, minutes}

module _ (r : Run) (u : ℕ) where
  abbrev day : ℕ → Day
  day k = (before r k).ledger.days u

  -- ---- the minute of the snapshot for which a cure is owed is the day's last
  owed_minute_next : (k : ℕ) → ((j : ℕ) (d : Source) → Owed r k u j d → minute_in (day k).last ≡ d.minute) → Event r k u → (j : ℕ) (d : Source) → Owed r (suc k) u j d → minute_in (day (suc k)).last ≡ d.minute
  owed_minute_next k ih (snaps_at d' a m p) j d o =
      let q = last_here r k u j d' d a o.last in
      let s = one_snapshot r k u d' d a (subst (λ (i : ℕ). Accepted r i (snapshot u d)) q o.last.accepted) in
      ap (λ (x : Day). minute_in x.last) p ∙ ap (λ (x : Source). x.minute) s
  owed_minute_next k ih (cures_at d' a m p) j d o = absurd (none_after_cure r k u d' a j d o)
  owed_minute_next k ih (settles_at c a m p) j d o = absurd (none_after_settlement r k u c a j d o)
  owed_minute_next k ih (rests_at n m p) j d o = ap (λ (x : Day). minute_in x.last) p ∙ ih j d (owed_back r k u (no_snapshot r k u n) j d o)

  owed_minute : (k : ℕ) (j : ℕ) (d : Source) → Owed r k u j d → minute_in (day k).last ≡ d.minute
  owed_minute zero j d o = let l = o.last.earlier in absurd (omega arith)
  owed_minute (suc k) j d o = owed_minute_next k (owed_minute k) (event r k u) j d o

  -- ---- the final snapshot was taken exactly if the day waits for its settlement
  abbrev Says : ℕ → Type 0
  Says k = (is_complete (day k).due ≡ true) ↔ Finished r k u

  unfinished : (k : ℕ) → is_complete (day k).due ≡ false → (Finished r k u → ⊥) → Says k
  unfinished k e n = (λ t. absurd (both_ways (is_complete (day k).due) e t), λ f. absurd (n f))

  finished_on : (k : ℕ) → ((d : Source) → Accepted r k (snapshot u d) → ⊥) → ((c : Amounts) → Accepted r k (settle u c) → ⊥) → Finished r k u → Finished r (suc k) u
  finished_on k s c f = record { place = f.place; source = f.source; last = snapshot_on r k u f.place f.source f.last s; final = f.final; unsettled = unsettled_on r k u f.place f.unsettled c }

  -- after a regular snapshot, a cure and a settlement it was not
  not_final : (k : ℕ) (d : Source) → Accepted r k (snapshot u d) → round_at d.minute ≡ Some Regular → Finished r (suc k) u → ⊥
  not_final k d a g f =
      let q = last_here r k u f.place d f.source a f.last in
      let s = one_snapshot r k u f.source d (subst (λ (i : ℕ). Accepted r i (snapshot u f.source)) q f.last.accepted) a in
      differ (sym f.final ∙ ap (λ (x : Source). round_at x.minute) s ∙ g)

  abbrev finished_back : (k : ℕ) → ((d : Source) → Accepted r k (snapshot u d) → ⊥) → Finished r (suc k) u → Finished r k u
  finished_back k n f = record {
    place = f.place;
    source = f.source;
    last = snapshot_back r k u f.place f.source f.last n;
    final = f.final;
    unsettled = unsettled_back r k u f.place f.unsettled;
  }

  -- what the day waits for after the call at place k
  due_by : (k : ℕ) (x : Day) → day (suc k) ≡ x → is_complete (day (suc k)).due ≡ is_complete x.due
  due_by k x p = ap (λ (y : Day). is_complete y.due) p

  after_snapshot : (k : ℕ) (d : Source) → Accepted r k (snapshot u d) → is_complete (day (suc k)).due ≡ is_complete (owed_by (round_in (round_at d.minute))) → Says (suc k)
  after_snapshot k d a p = ⊎_elim regular final (which_round r k u d a)
    where
      regular : round_at d.minute ≡ Some Regular → Says (suc k)
      regular g = unfinished (suc k) (p ∙ ap (λ (o : Option Round). is_complete (owed_by (round_in o))) g) (not_final k d a g)

      here : round_at d.minute ≡ Some Final → Finished r (suc k) u
      here g = record {
        place = k;
        source = d;
        last = record { earlier = le_refl (suc k); accepted = a; last = λ i d' x y z. absurd (omega arith) };
        final = g;
        unsettled = λ i c x y z. absurd (omega arith);
      }

      final : round_at d.minute ≡ Some Final → Says (suc k)
      final g = (λ t. here g, λ f. p ∙ ap (λ (o : Option Round). is_complete (owed_by (round_in o))) g)

  says_next : (k : ℕ) → Says k → Event r k u → Says (suc k)
  says_next k ih (snaps_at d a m p) = after_snapshot k d a (due_by k _ p)
  says_next k ih (cures_at d a m p) =
      unfinished (suc k) (due_by k _ p)
      (λ f.
      let b = finished_back k (λ d' x. snapshot_or_cure r k u d' d x a) f in
      not_cure_and_settlement (day k).due (at_cure_is r k u d a).0 (ih.1 b))
  says_next k ih (settles_at c a m p) =
      unfinished (suc k) (due_by k _ p)
      (λ f.
      let b = finished_back k (λ d' x. snapshot_or_settlement r k u d' c x a) f in
      f.unsettled k c b.last.earlier (le_refl (suc k)) a)
  says_next k ih (rests_at n m p) = (
    λ t. finished_on k (no_snapshot r k u n) (no_settlement r k u n) (ih.0 (sym (due_by k _ p) ∙ t)),
    λ f. due_by k _ p ∙ ih.1 (finished_back k (no_snapshot r k u n) f),
  )

  says : (k : ℕ) → Says k
  says zero = unfinished 0 refl (λ f. let l = f.last.earlier in absurd (omega arith))
  says (suc k) = says_next k (says k) (event r k u)

  -- ---- how many snapshots were taken
  abbrev Counts : ℕ → Type 0
  Counts k = HowMany (Taken r k u) k (day k).taken × ((day k).taken ≤ minute_in (day k).last)

  taken_alike : (k : ℕ) → ((c : Amounts) → Accepted r k (settle u c) → ⊥) → (j : ℕ) → j < k → Taken r k u j ↔ Taken r (suc k) u j
  taken_alike k n j l = (
    λ t. record { source = t.source; earlier = omega arith; accepted = t.accepted; unsettled = unsettled_on r k u j t.unsettled n },
    λ t. record { source = t.source; earlier = l; accepted = t.accepted; unsettled = unsettled_back r k u j t.unsettled },
  )

  -- one more where a snapshot was accepted, and as many where none was
  with_one : (k n : ℕ) (d : Source) → Accepted r k (snapshot u d) → HowMany (Taken r k u) k n → HowMany (Taken r (suc k) u) (suc k) (suc n)
  with_one k n d a h =
      has (how_many_alike (Taken r k u) (Taken r (suc k) u) h (taken_alike k (λ c x. snapshot_or_settlement r k u d c a x)))
      (record { source = d; earlier = le_refl (suc k); accepted = a; unsettled = λ i c x y z. absurd (omega arith) })

  with_none : (k n : ℕ) → ((d : Source) → Accepted r k (snapshot u d) → ⊥) → ((c : Amounts) → Accepted r k (settle u c) → ⊥) → HowMany (Taken r k u) k n → HowMany (Taken r (suc k) u) (suc k) n
  with_none k n s c h = lacks (how_many_alike (Taken r k u) (Taken r (suc k) u) h (taken_alike k c)) (λ t. s t.source t.accepted)

  since_settlement : (k : ℕ) (c : Amounts) → Accepted r k (settle u c) → (j : ℕ) → Taken r (suc k) u j → ⊥
  since_settlement k c a j t =
      ⊎_elim (λ q. snapshot_or_settlement r k u t.source c (subst (λ (i : ℕ). Accepted r i (snapshot u t.source)) q t.accepted) a)
      (λ q. let h = t.earlier in t.unsettled k c (omega arith) (le_refl (suc k)) a)
      (cases_eq j k)

  counts_by : (k : ℕ) (x : Day) → day (suc k) ≡ x → HowMany (Taken r (suc k) u) (suc k) x.taken → x.taken ≤ minute_in x.last → Counts (suc k)
  counts_by k x p h l = subst (λ (y : Day). HowMany (Taken r (suc k) u) (suc k) y.taken × (y.taken ≤ minute_in y.last)) (sym p) (h, l)

  counts_next : (k : ℕ) → Counts k → Event r k u → Counts (suc k)
  counts_next k ih (snaps_at d a m p) =
      let t = at_snapshot r k u d a in
      let l = snapshot_minute (day k).last d.minute t.2 t.1 in
      let b = (minutes r u k).0 in
      let e : one_more (day k).taken ≡ suc (day k).taken = omega (arith, ih.1, b) in
      counts_by k _ p (subst (HowMany (Taken r (suc k) u) (suc k)) (sym e) (with_one k (day k).taken d a ih.0)) (omega (arith, e, l, ih.1))
  counts_next k ih (cures_at d a m p) =
      let e = cure_minute (day k).last d.minute (at_cure_is r k u d a).1 in
      counts_by k _ p (with_none k (day k).taken (λ d' x. snapshot_or_cure r k u d' d x a) (λ c x. cure_or_settlement r k u d c a x) ih.0) (omega (arith, e, ih.1))
  counts_next k ih (settles_at c a m p) = counts_by k _ p (how_many_none (Taken r (suc k) u) (suc k) (λ j l t. since_settlement k c a j t)) (omega arith)
  counts_next k ih (rests_at n m p) = counts_by k _ p (with_none k (day k).taken (no_snapshot r k u n) (no_settlement r k u n) ih.0) ih.1

  counts : (k : ℕ) → Counts k
  counts zero = (none, omega arith)
  counts (suc k) = counts_next k (counts k) (event r k u)

  -- ---- and so
  at_settlement : (k : ℕ) (c : Amounts) → Accepted r k (settle u c) → is_short (day k) ≡ false
  at_settlement k c a =
      let l = (before r k).terms.listing in
      let e = cleared (kind_table l kind.Index u) (checked (settlement_table (day k))) (verdict_of_accepted r k (settle u c) a) in
      (cleared (settlement_table (day k)) (Ok tt) e.1).0.0

  pub in_order : (k : ℕ) → InOrder r k u
  in_order k = record {
    cure_first = λ j d o. let w = (owed_is r u k).1 (j, d, o) in (λ d' a. not_snapshot_and_cure (day k).due (at_snapshot r k u d' a).0 w, λ c a. not_cure_and_settlement (day k).due w (complete c a));
    cures_owed = λ d a. let t = at_cure_is r k u d a in let o = (owed_is r u k).0 t.0 in (o.0, o.1, o.2, cure_minute (day k).last d.minute t.1 ∙ ap (λ (n : ℕ). n + cure_minutes) (owed_minute k o.0 o.1 o.2));
    final = λ f. let w = (says k).1 f in (λ d a. not_snapshot_and_settlement (day k).due (at_snapshot r k u d a).0 w, λ d a. not_cure_and_settlement (day k).due (at_cure_is r k u d a).0 w);
    settlement = λ c a. ((says k).0 (complete c a), ((day k).taken, (counts k).0, ltb-false (day k).taken snapshots_least (or_parts _ _ (at_settlement k c a)).0));
  }
    where
      complete : (c : Amounts) → Accepted r k (settle u c) → is_complete (day k).due ≡ true
      complete c a = not-false _ (or_parts (ltb (day k).taken snapshots_least) (not (is_complete (day k).due)) (at_settlement k c a)).1

pub days_go_in_order : DaysGoInOrder
days_go_in_order r k u = in_order r u k
