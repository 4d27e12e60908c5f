-- Larger limits and covers add no breach.
use Rattle.std.proofs.Common.{◌≡◌, ℕ, zero, suc, ◌<◌, ◌≤◌, List, Some, None, Option, sym, refl, ap, ◌∙◌, subst, ⊎_elim, arith}
use Rattle.std.specs.List.{slice_get}
use Rattle.terms.specs.declared.mark.Mark.{Mark}
use Rattle.terms.specs.declared.mark.Mark.TheVariants.{NetLong, NetShort, GrossLong, GrossShort}
use Rattle.terms.specs.Marks.{side_of}
use Rattle.delta.specs.Sources.{Source, EqualSources}
use Rattle.delta.proofs.Equal.{same_source}
use Rattle.cover.specs.Covers.{Amounts, NowhereSmaller}
use Rattle.index.specs.Days.{round_at}
use Rattle.index.specs.Marks.{limit_for}
use Rattle.index.specs.Values.{value_for}
use Rattle.model.specs.Opening.{Listing}
use Rattle.model.specs.Readings.{reading_at}
use Rattle.model.specs.Calls.{Call, snapshot, cure, settle}
use Rattle.model.specs.Runs.{Run, before, refusal_at, Accepted}
use Rattle.model.specs.Breaches.{value_at, Over, LastSnapshot, Unsettled, ProvisionalAt, at_final, at_cure, Breached, LargestBreach, FinalAt}
use Rattle.model.specs.Handbook.{Same, same, snapshots, cures, settlements, SameCalls, none, more, Larger, MarksTellTheTruth, LargerAddsNoBreach}
use Rattle.model.proofs.Limits.{listing_same, ledger_same, refusal_same, agree}

-- ---- the like of a call in the other list

data SameAt : Option Call → Option Call → Type 0 where
  neither : SameAt None None
  both : {c c' : Call} → Same NowhereSmaller c c' → SameAt (Some c) (Some c')

nth_same : {cs cs' : List Call} → SameCalls NowhereSmaller cs cs' → (k : ℕ) → SameAt (slice_get cs k) (slice_get cs' k)
nth_same none k = neither
nth_same (more p h) zero = both p
nth_same (more p h) (suc k) = nth_same h k

some_inj : {a b : Call} → Some a ≡ Some b → a ≡ b
some_inj e = cc

pull : {x x' : Option Call} → SameAt x x' → (c' : Call) → x' ≡ Some c' → (c : Call) × Same NowhereSmaller c c' × (x ≡ Some c)
pull neither c' e = let z : ◌≡◌ {A = ℕ} 0 1 = cc in absurd (omega arith)
pull (both {c = a} q) c' e = (a, subst (Same NowhereSmaller a) (some_inj e) q, refl)

push : {x x' : Option Call} → SameAt x x' → (c : Call) → x ≡ Some c → (c' : Call) × Same NowhereSmaller c c' × (x' ≡ Some c')
push neither c e = let z : ◌≡◌ {A = ℕ} 0 1 = cc in absurd (omega arith)
push (both {c' = b} q) c e = (b, subst (λ (y : Call). Same NowhereSmaller y b) (some_inj e) q, refl)

equal_refl : (d : Source) → EqualSources d d
equal_refl d = record { answers = λ c k. refl; minutes = refl; prices = refl }

snapshot_back : {c : Call} {u : ℕ} {d' : Source} → Same NowhereSmaller c (snapshot u d') → (d : Source) × (c ≡ snapshot u d) × EqualSources d d'
snapshot_back {d' = d'} same = (d', refl, equal_refl d')
snapshot_back (snapshots {d = d} q) = (d, refl, q)

snapshot_on : {c : Call} {u : ℕ} {d : Source} → Same NowhereSmaller (snapshot u d) c → (d' : Source) × (c ≡ snapshot u d')
snapshot_on {d = d} same = (d, refl)
snapshot_on (snapshots {d' = d'} q) = (d', refl)

cure_back : {c : Call} {u : ℕ} {d' : Source} → Same NowhereSmaller c (cure u d') → (d : Source) × (c ≡ cure u d) × EqualSources d d'
cure_back {d' = d'} same = (d', refl, equal_refl d')
cure_back (cures {d = d} q) = (d, refl, q)

settle_back : {c : Call} {u : ℕ} {a' : Amounts} → Same NowhereSmaller c (settle u a') → (a : Amounts) × (c ≡ settle u a) × NowhereSmaller a a'
settle_back {a' = a'} same = (a', refl, λ e u s. omega arith)
settle_back (settlements {a = a} q) = (a, refl, q)

settle_on : {c : Call} {u : ℕ} {a : Amounts} → Same NowhereSmaller (settle u a) c → (a' : Amounts) × (c ≡ settle u a')
settle_on {a = a} same = (a, refl)
settle_on (settlements {a' = a'} q) = (a', refl)

-- ---- the breaches of the second are the first's
module _ (r r' : Run) (larger : Larger r r') where
  refusals : (k : ℕ) → refusal_at r k ≡ refusal_at r' k
  refusals = refusal_same NowhereSmaller r r' larger.alike

  ledgers : (k : ℕ) → (before r k).ledger ≡ (before r' k).ledger
  ledgers = ledger_same NowhereSmaller r r' larger.alike

  back : (k : ℕ) (c' : Call) → Accepted r' k c' → (c : Call) × Same NowhereSmaller c c' × Accepted r k c
  back k c' a = let p = pull (nth_same larger.alike.calls k) c' a.holds in (p.0, p.1, record { holds = p.2; passed = refusals k ∙ a.passed })

  on : (k : ℕ) (c : Call) → Accepted r k c → (c' : Call) × Same NowhereSmaller c c' × Accepted r' k c'
  on k c a = let p = push (nth_same larger.alike.calls k) c a.holds in (p.0, p.1, record { holds = p.2; passed = sym (refusals k) ∙ a.passed })

  snapshot_from : (k u : ℕ) (d' : Source) → Accepted r' k (snapshot u d') → (d : Source) × EqualSources d d' × Accepted r k (snapshot u d)
  snapshot_from k u d' a = let p = back k (snapshot u d') a in let q = snapshot_back p.1 in (q.0, q.2, subst (Accepted r k) q.1 p.2)

  cure_from : (k u : ℕ) (d' : Source) → Accepted r' k (cure u d') → (d : Source) × EqualSources d d' × Accepted r k (cure u d)
  cure_from k u d' a = let p = back k (cure u d') a in let q = cure_back p.1 in (q.0, q.2, subst (Accepted r k) q.1 p.2)

  settlement_from : (k u : ℕ) (a' : Amounts) → Accepted r' k (settle u a') → (a : Amounts) × NowhereSmaller a a' × Accepted r k (settle u a)
  settlement_from k u a' h = let p = back k (settle u a') h in let q = settle_back p.1 in (q.0, q.2, subst (Accepted r k) q.1 p.2)

  unsettled_from : (u j k : ℕ) → Unsettled r' u j k → Unsettled r u j k
  unsettled_from u j k h i a p q x = let y = on i (settle u a) x in let z = settle_on y.1 in h i z.0 p q (subst (Accepted r' i) z.1 y.2)

  limits : (m : Mark) → limit_for r.opening.limits m ≤ limit_for r'.opening.limits m
  limits NetLong = larger.net
  limits NetShort = larger.net
  limits GrossLong = larger.gross
  limits GrossShort = larger.gross

  values : (k u : ℕ) (d d' : Source) (e : ℕ) (m : Mark) → EqualSources d d' → value_at r k u d e m ≡ value_at r' k u d' e m
  values k u d d' e m q =
      λ i. value_for (reading_at (listing_same NowhereSmaller r r' larger.alike i) u (same_source q i) (ledgers k i).book.at e) (same_source q i).price m

  over_from : (k u : ℕ) (d d' : Source) (e : ℕ) (m : Mark) → EqualSources d d' → Over r' k u d' e m → Over r k u d e m
  over_from k u d d' e m q v = record {
    watched = subst (λ (n : ℕ). e < n) (sym (ap (λ (l : Listing). l.entities) (listing_same NowhereSmaller r r' larger.alike))) v.watched;
    exceeds = omega (arith, limits m, values k u d d' e m q, v.exceeds);
  }

  last_from : (k u j : ℕ) (d' : Source) → LastSnapshot r' k u j d' → (d : Source) × EqualSources d d' × LastSnapshot r k u j d
  last_from k u j d' l =
      let p = snapshot_from j u d' l.accepted in
      (p.0, p.1, record { earlier = l.earlier; accepted = p.2; last = λ i d a b x. let y = on i (snapshot u d) x in let z = snapshot_on y.1 in l.last i z.0 a b (subst (Accepted r' i) z.1 y.2) })

  provisional_from : (k u : ℕ) (d' : Source) (e : ℕ) (m : Mark) → ProvisionalAt r' k u d' e m → (d : Source) × EqualSources d d' × ProvisionalAt r k u d e m
  provisional_from k u d' e m (at_final a f v) =
      let p = snapshot_from k u d' a in
      (p.0, p.1, at_final p.2 (ap round_at p.1.minutes ∙ f) (over_from k u p.0 d' e m p.1 v))
  provisional_from k u d' e m (at_cure a v j s l w) =
      let p = cure_from k u d' a in
      let q = last_from k u j s l in
      (p.0, p.1, at_cure p.2 (over_from k u p.0 d' e m p.1 v) j q.0 q.2 (over_from j u q.0 s e m q.1 w))

  -- a breach since the settlement is one of the first too, with the same value
  breached_from : (k u e : ℕ) (m : Mark) (j : ℕ) (b : Breached r' k u e m j) → (c : Breached r k u e m j) × (value_at r j u c.source e m ≡ value_at r' j u b.source e m)
  breached_from k u e m j b =
      let p = provisional_from j u b.source e m b.breach in
      (record { source = p.0; earlier = b.earlier; breach = p.2; unsettled = unsettled_from u j k b.unsettled }, values j u p.0 b.source e m p.1)

  -- and so the first's largest value is no smaller
  final_from : MarksTellTheTruth → (k u : ℕ) (a' : Amounts) (e : ℕ) (m : Mark) (v : ℕ) → FinalAt r' k u a' e m v → (a : Amounts) × (w : ℕ) × FinalAt r k u a e m w
  final_from truth k u a' e m v f = ⊎_elim some none (truth r k u e m).largest
    where
      given : (a : Amounts) × NowhereSmaller a a' × Accepted r k (settle u a)
      given = settlement_from k u a' f.accepted

      place : ℕ
      place = f.largest.place

      here : (c : Breached r k u e m f.largest.place) × (value_at r f.largest.place u c.source e m ≡ value_at r' f.largest.place u f.largest.breach.source e m)
      here = breached_from k u e m f.largest.place f.largest.breach

      some : LargestBreach r k u e m ((before r k).marks u e m).largest → (a : Amounts) × (w : ℕ) × FinalAt r k u a e m w
      some l = (
        given.0,
        ((before r k).marks u e m).largest,
        record {
          accepted = given.2;
          largest = l;
          exceeds = let h = l.none_larger f.largest.place here.0 in omega (arith, limits m, given.1 e u (side_of m), h, here.1, f.largest.value, f.exceeds);
        },
      )

      none : (((j : ℕ) → Breached r k u e m j → ⊥) × (((before r k).marks u e m).largest ≡ 0)) → (a : Amounts) × (w : ℕ) × FinalAt r k u a e m w
      none h = absurd (h.0 f.largest.place here.0)

pub larger_adds_no_breach : MarksTellTheTruth → LargerAddsNoBreach
larger_adds_no_breach truth r r' larger k = record {
  agree = agree NowhereSmaller r r' larger.alike k;
  provisional = λ e m p. let q = provisional_from r r' larger k p.index p.source e m p.breach in record { index = p.index; source = q.0; breach = q.2 };
  final = λ e m f. let q = final_from r r' larger truth k f.index f.cover e m f.value f.breach in record { index = f.index; cover = q.0; value = q.1; breach = q.2 };
}
