-- Marks and answers tell the truth, at every place of a run.
use Rattle.std.proofs.Common.{◌≡◌, ℕ, zero, suc, ◌<◌, ◌≤◌, ◌↔◌, Bool, true, false, ◌&&◌, ltb, ℤ, pos, Some, Ok, Option, sym, refl, ap, ◌∙◌, subst, inr, ⊎_elim, arith}
use Rattle.std.proofs.lemmas.Bool.{ltb-true, lt-ltb, cond-true, cond-false, both_ways, and_parts, and_from, false≢true}
use Rattle.terms.specs.declared.mark.Mark.{Mark}
use Rattle.delta.specs.Sources.{Source}
use Rattle.cover.specs.Covers.{Amounts}
use Rattle.index.specs.declared.calls.Rule.{Rule}
use Rattle.index.specs.declared.calls.Rule.TheVariants.{Sight, Finish, Cure}
use Rattle.index.specs.declared.day.Day.{Day}
use Rattle.index.specs.declared.day.Round.{Round}
use Rattle.index.specs.declared.day.Round.TheVariants.{Regular, Final}
use Rattle.index.specs.declared.mark.MarkRow.{MarkRow}
use Rattle.index.specs.declared.report.Breach.{Breach}
use Rattle.index.specs.Days.{round_at, one_more}
use Rattle.index.specs.Kept.{IsKept}
use Rattle.index.specs.Calls.{rule_of, judged_by, told_by, settled_by, final_by, over_by, cover_in}
use Rattle.index.specs.Marks.{no_row, finished}
use Rattle.index.specs.Sweeps.{told_count}
use Rattle.terms.specs.declared.limits.Limits.{Limits}
use Rattle.model.specs.Opening.{Terms, terms_of}
use Rattle.model.specs.Readings.{reading_at}
use Rattle.model.specs.Indices.{round_in, round_of, watched_count, final_count}
use Rattle.model.specs.Calls.{Call, snapshot, cure, settle}
use Rattle.model.specs.Runs.{Run, before, after, book_at, listing_of, Accepted, answer_at}
use Rattle.model.specs.Breaches.{Over, Sighted, ProvisionalAt, at_final, at_cure, Breached, FinalAt, Stands}
use Rattle.model.specs.Handbook.{Truthful, MarksTellTheTruth, AnswersHowMany, AnswersCount, AnswersTellTheTruth, ReportsTellTheTruth}
use Rattle.model.proofs.HowMany.{how_many_none}
use Rattle.model.proofs.Places.{terms_stay}
use Rattle.model.proofs.Events.{watched_rows, settled_rows, answer_of_accepted, Event, snaps_at, cures_at, settles_at, rests_at, event}
use Rattle.model.proofs.Days.{at_snapshot, at_cure_is, which_round, minute_in, snapshot_minute, cure_minute, minutes}
use Rattle.model.proofs.Marks.{over_test, over_from, is_over_by, breach_at_snapshot, breach_at_cure, sighted_if, at_regular, at_final_one, at_cure_one, at_settlement, at_rest, final_from, is_final_by}

-- ---- a count is no larger than the minute of the day's last snapshot or cure
finished_count : (b : Bool) (v : ℕ) (x : MarkRow) → (finished b v x).count ≤ suc x.count
finished_count true v x = omega arith
finished_count false v x = omega arith

judged_count : (w : Rule) (l : Limits) (price : ℕ) (q : ℕ → ℤ × ℤ × ℤ) (e : ℕ) (m : Mark) (x : MarkRow) → (judged_by w l price q e m x).count ≤ suc x.count
judged_count Sight l price q e m x = omega arith
judged_count Finish l price q e m x = finished_count (over_by l price q e m) _ x
judged_count Cure l price q e m x = finished_count (x.sighted && over_by l price q e m) _ x

-- a mark's row just before place k
abbrev row_at : Run → ℕ → ℕ → Mark → ℕ → MarkRow
row_at r u e m k = (before r k).marks u e m

module _ (r : Run) (u e : ℕ) (m : Mark) where
  -- the row after the call at a place, by what that made of the index's rows
  row_by : (k : ℕ) (f : ℕ → Mark → MarkRow) → (after r k).marks u ≡ f → row_at r u e m (suc k) ≡ f e m
  row_by k f p = ap (λ (g : ℕ → Mark → MarkRow). g e m) p

  watched_row : (k : ℕ) (w : Rule) (d : Source) → ltb e r.opening.book.entities ≡ true → watched_rows (terms_of r.opening) (before r k) w u d e m ≡ judged_by w r.opening.limits d.price (reading_at (listing_of r) u d (book_at r k)) e m (row_at r u e m k)
  watched_row k w d h = cond-true (ltb e r.opening.book.entities) _ _ h

  settled_row : (k : ℕ) (a : Amounts) → ltb e r.opening.book.entities ≡ true → settled_rows (terms_of r.opening) (before r k) u a e m ≡ settled_by r.opening.limits (cover_in a u) e m (row_at r u e m k)
  settled_row k a h = cond-true (ltb e r.opening.book.entities) _ _ h

  -- ---- an entity that is not watched has no row
  unwatched_next : (k : ℕ) → ltb e r.opening.book.entities ≡ false → row_at r u e m k ≡ no_row → Event r k u → row_at r u e m (suc k) ≡ no_row
  unwatched_next k h ih (snaps_at d a p q) = row_by k _ p ∙ cond-false (ltb e r.opening.book.entities) _ _ h ∙ ih
  unwatched_next k h ih (cures_at d a p q) = row_by k _ p ∙ cond-false (ltb e r.opening.book.entities) _ _ h ∙ ih
  unwatched_next k h ih (settles_at a x p q) = row_by k _ p ∙ cond-false (ltb e r.opening.book.entities) _ _ h ∙ ih
  unwatched_next k h ih (rests_at n p q) = row_by k _ p ∙ ih

  unwatched : (k : ℕ) → ltb e r.opening.book.entities ≡ false → row_at r u e m k ≡ no_row
  unwatched zero h = refl
  unwatched (suc k) h = unwatched_next k h (unwatched k h) (event r k u)

  module _ (h : ltb e r.opening.book.entities ≡ true) where
    is_watched : e < r.opening.book.entities
    is_watched = ltb-true e r.opening.book.entities h

    abbrev Counted : ℕ → Type 0
    Counted k = (row_at r u e m k).count ≤ minute_in ((before r k).ledger.days u).last

    counted_by : (k : ℕ) (x : MarkRow) (y : Day) → row_at r u e m (suc k) ≡ x → (after r k).ledger.days u ≡ y → x.count ≤ minute_in y.last → Counted (suc k)
    counted_by k x y p q l = subst (λ (z : ℕ). z ≤ minute_in ((after r k).ledger.days u).last) (sym (ap (λ (z : MarkRow). z.count) p)) (subst (λ (z : Day). x.count ≤ minute_in z.last) (sym q) l)

    counted_next : (k : ℕ) → Counted k → Event r k u → Counted (suc k)
    counted_next k ih (snaps_at d a p q) =
        let w = rule_of (round_of d) in
        let t = at_snapshot r k u d a in
        let l = snapshot_minute ((before r k).ledger.days u).last d.minute t.2 t.1 in
        let c = judged_count w r.opening.limits d.price (reading_at (listing_of r) u d (book_at r k)) e m (row_at r u e m k) in
        counted_by k _ _ (row_by k _ p ∙ watched_row k w d h) q (omega (arith, l, c, ih))
    counted_next k ih (cures_at d a p q) =
        let l = cure_minute ((before r k).ledger.days u).last d.minute (at_cure_is r k u d a).1 in
        let c = judged_count Cure r.opening.limits d.price (reading_at (listing_of r) u d (book_at r k)) e m (row_at r u e m k) in
        counted_by k _ _ (row_by k _ p ∙ watched_row k Cure d h) q (omega (arith, l, c, ih))
    counted_next k ih (settles_at a x p q) = counted_by k _ _ (row_by k _ p ∙ settled_row k a h) q (omega arith)
    counted_next k ih (rests_at n p q) = counted_by k _ _ (row_by k _ p) q ih

    counted : (k : ℕ) → Counted k
    counted zero = omega arith
    counted (suc k) = counted_next k (counted k) (event r k u)

    -- so that one more is one more
    small : (k : ℕ) → one_more (row_at r u e m k).count ≡ suc (row_at r u e m k).count
    small k = let a = counted k in let b = (minutes r u k).0 in omega arith

    -- ---- and so every row tells the truth
    abbrev So : ℕ → MarkRow → Type 0
    So k x = Truthful r k u e m x

    so_by : (k : ℕ) (x : MarkRow) → row_at r u e m (suc k) ≡ x → So (suc k) x → So (suc k) (row_at r u e m (suc k))
    so_by k x p t = subst (So (suc k)) (sym p) t

    so_snapshot : (k : ℕ) (d : Source) → So k (row_at r u e m k) → Accepted r k (snapshot u d) → row_at r u e m (suc k) ≡ judged_by (rule_of (round_of d)) r.opening.limits d.price (reading_at (listing_of r) u d (book_at r k)) e m (row_at r u e m k) → So (suc k) (row_at r u e m (suc k))
    so_snapshot k d ih a p = ⊎_elim regular final (which_round r k u d a)
      where
        by_round : (x : Round) → round_at d.minute ≡ Some x → row_at r u e m (suc k) ≡ judged_by (rule_of x) r.opening.limits d.price (reading_at (listing_of r) u d (book_at r k)) e m (row_at r u e m k)
        by_round x g = p ∙ ap (λ (o : Option Round). judged_by (rule_of (round_in o)) r.opening.limits d.price (reading_at (listing_of r) u d (book_at r k)) e m (row_at r u e m k)) g

        regular : round_at d.minute ≡ Some Regular → So (suc k) (row_at r u e m (suc k))
        regular g = so_by k _ (by_round Regular g) (at_regular r u e m is_watched k ih d a g)

        final : round_at d.minute ≡ Some Final → So (suc k) (row_at r u e m (suc k))
        final g = so_by k _ (by_round Final g) (at_final_one r u e m is_watched k ih (small k) d a g)

    so_next : (k : ℕ) → So k (row_at r u e m k) → Event r k u → So (suc k) (row_at r u e m (suc k))
    so_next k ih (snaps_at d a p q) = so_snapshot k d ih a (row_by k _ p ∙ watched_row k (rule_of (round_of d)) d h)
    so_next k ih (cures_at d a p q) = so_by k _ (row_by k _ p ∙ watched_row k Cure d h) (at_cure_one r u e m is_watched k ih (small k) d a)
    so_next k ih (settles_at a x p q) = so_by k _ (row_by k _ p ∙ settled_row k a h) (at_settlement r u e m is_watched k ih a x)
    so_next k ih (rests_at n p q) = so_by k _ (row_by k _ p) (at_rest r u e m is_watched k ih n)

-- ---- a row that holds nothing is true where there was no breach
module _ (r : Run) (k u e : ℕ) (m : Mark) where
  nothing_true : (Sighted r k u e m → ⊥) → ((j : ℕ) → Breached r k u e m j → ⊥) → ((v : ℕ) → Stands r k u e m v → ⊥) → Truthful r k u e m no_row
  nothing_true s b f = record {
    sighted = (λ t. absurd (false≢true t), λ x. absurd (s x));
    count = how_many_none (Breached r k u e m) k (λ j l x. b j x);
    largest = inr (b, refl);
    kept = λ v. (λ t. let z : ◌≡◌ {A = ℕ} 0 1 = cc in absurd (omega arith), λ x. absurd (f v x));
  }

-- there is none before the first call
new_true : (r : Run) (u e : ℕ) (m : Mark) → Truthful r 0 u e m no_row
new_true r u e m =
    nothing_true r 0 u e m (λ s. let l = s.owed.last.earlier in absurd (omega arith)) (λ j b. let l = b.earlier in absurd (omega arith)) (λ v s. let l = s.last.earlier in absurd (omega arith))

-- and none of an entity that is not watched
breach_watched : (r : Run) (k u : ℕ) (d : Source) (e : ℕ) (m : Mark) → ProvisionalAt r k u d e m → e < r.opening.book.entities
breach_watched r k u d e m (at_final a f v) = v.watched
breach_watched r k u d e m (at_cure a v j s l w) = v.watched

unwatched_true : (r : Run) (k u e : ℕ) (m : Mark) → (e < r.opening.book.entities → ⊥) → Truthful r k u e m no_row
unwatched_true r k u e m n =
    nothing_true r k u e m (λ s. n s.over.watched) (λ j b. n (breach_watched r j u b.source e m b.breach)) (λ v s. let b = s.breach.largest.breach in n (breach_watched r s.breach.largest.place u b.source e m b.breach))

watched_true : (r : Run) (k u e : ℕ) (m : Mark) → ltb e r.opening.book.entities ≡ true → Truthful r k u e m (row_at r u e m k)
watched_true r zero u e m h = new_true r u e m
watched_true r (suc k) u e m h = so_next r u e m h k (watched_true r k u e m h) (event r k u)

pub marks_tell_the_truth : MarksTellTheTruth
marks_tell_the_truth r k u e m = go (ltb e r.opening.book.entities) refl
  where
    go : (b : Bool) → ltb e r.opening.book.entities ≡ b → Truthful r k u e m (row_at r u e m k)
    go true h = watched_true r k u e m h
    go false h = subst (Truthful r k u e m) (sym (unwatched r u e m k h)) (unwatched_true r k u e m (λ l. both_ways (ltb e r.opening.book.entities) h (lt-ltb e r.opening.book.entities l)))

-- ---- the answers
module _ (r : Run) (k u : ℕ) where
  abbrev rows : ℕ → Mark → MarkRow
  rows = (before r k).marks u

  -- an answer that counts what a test tells
  counting : (P : ℕ → Mark → Type 0) (tells : ℕ → Mark → MarkRow → Bool) → ((e : ℕ) (m : Mark) → e < r.opening.book.entities → (tells e m (rows e m) ≡ true) ↔ P e m) → answer_at r k ≡ Some (Ok (pos (told_count r.opening.book.entities tells rows))) → AnswersHowMany r k P
  counting P tells decides a = record { number = told_count r.opening.book.entities tells rows; counts = record { test = λ e m. tells e m (rows e m); decides = decides; number = refl }; answer = a }

  watched_answer : (w : Rule) (d : Source) (c : Call) → Accepted r k c → answer_at r k ≡ Some (Ok (pos (watched_count w (before r k).terms (book_at r k) (before r k).marks u d))) → answer_at r k ≡ Some (Ok (pos (told_count r.opening.book.entities (told_by w r.opening.limits d.price (reading_at (listing_of r) u d (book_at r k))) rows)))
  watched_answer w d c a p = p ∙ ap (λ (t : Terms). Some (Ok (pos (watched_count w t (book_at r k) (before r k).marks u d)))) (terms_stay r k)

  snapshot_answer : (d : Source) → Accepted r k (snapshot u d) → (x : Round) → round_at d.minute ≡ Some x → answer_at r k ≡ Some (Ok (pos (told_count r.opening.book.entities (told_by (rule_of x) r.opening.limits d.price (reading_at (listing_of r) u d (book_at r k))) rows)))
  snapshot_answer d a x g =
      watched_answer (rule_of (round_of d)) d (snapshot u d) a (answer_of_accepted r k (snapshot u d) a)
      ∙ ap (λ (o : Option Round). Some (Ok (pos (told_count r.opening.book.entities (told_by (rule_of (round_in o)) r.opening.limits d.price (reading_at (listing_of r) u d (book_at r k))) rows)))) g

  truth : (e : ℕ) (m : Mark) → Truthful r k u e m (rows e m)
  truth e m = marks_tell_the_truth r k u e m

  pub answers_count : AnswersCount r k u
  answers_count = record {
    regular = λ d a g. counting (Over r k u d) (told_by Sight r.opening.limits d.price (reading_at (listing_of r) u d (book_at r k)))
        (λ e m l. (over_from r u e m l k d, is_over_by r u e m l k d)) (snapshot_answer d a Regular g);
    final = λ d a g. counting (ProvisionalAt r k u d) (told_by Finish r.opening.limits d.price (reading_at (listing_of r) u d (book_at r k)))
        (λ e m l. (λ t. at_final a g (over_from r u e m l k d t), λ x. is_over_by r u e m l k d (breach_at_snapshot r u e m l k d d a x).2)) (snapshot_answer d a Final g);
    cure = λ d a. counting (ProvisionalAt r k u d) (told_by Cure r.opening.limits d.price (reading_at (listing_of r) u d (book_at r k)))
        (λ e m l. (there d a e m l, back d a e m l)) (watched_answer Cure d (cure u d) a (answer_of_accepted r k (cure u d) a));
    settlement = λ c a. counting (λ e m. (v : ℕ) × FinalAt r k u c e m v) (final_by r.opening.limits (cover_in c u))
        (λ e m l. (λ t. ((rows e m).largest, final_from r u e m l k (truth e m) c a t), λ f. is_final_by r u e m l k (truth e m) c f.0 f.1))
        (answer_of_accepted r k (settle u c) a ∙ ap (λ (t : Terms). Some (Ok (pos (final_count t (before r k).marks u c)))) (terms_stay r k));
  }
    where
      there : (d : Source) → Accepted r k (cure u d) → (e : ℕ) (m : Mark) (l : e < r.opening.book.entities) → ((rows e m).sighted && over_test r u e m l k d) ≡ true → ProvisionalAt r k u d e m
      there d a e m l t =
          let p = and_parts (rows e m).sighted (over_test r u e m l k d) t in
          let s = (truth e m).sighted.0 p.0 in
          at_cure a (over_from r u e m l k d p.1) s.place s.source s.owed.last s.over

      back : (d : Source) → Accepted r k (cure u d) → (e : ℕ) (m : Mark) (l : e < r.opening.book.entities) → ProvisionalAt r k u d e m → ((rows e m).sighted && over_test r u e m l k d) ≡ true
      back d a e m l x =
          let b = breach_at_cure r u e m l k d d a x in
          let s = sighted_if r u e m l k d a b.2.0 b.2.1 b.2.2 b.2.3 in
          and_from (rows e m).sighted (over_test r u e m l k d) ((truth e m).sighted.1 s) (is_over_by r u e m l k d b.1)

pub answers_tell_the_truth : AnswersTellTheTruth
answers_tell_the_truth r k u = answers_count r k u

-- ---- the report
module _ (r : Run) (k u : ℕ) where
  abbrev Kept : Breach → Type 0
  Kept = IsKept r.opening.book.entities ((before r k).marks u)

  abbrev Standing : Breach → Type 0
  Standing b = Stands r k u b.entity b.mark b.largest

  final_of : (b : Breach) → Kept b → Standing b
  final_of b h = ((marks_tell_the_truth r k u b.entity b.mark).kept b.largest).0 h.value

  kept_of : (b : Breach) → Standing b → Kept b
  kept_of b s =
      let x = s.breach.largest.breach in
      record {
        within = breach_watched r s.breach.largest.place u x.source b.entity b.mark x.breach;
        value = ((marks_tell_the_truth r k u b.entity b.mark).kept b.largest).1 s;
      }

pub reports_tell_the_truth : ReportsTellTheTruth
reports_tell_the_truth r k u list h = record {
  named = λ i d l. final_of r k u _ (h.named i d l);
  whole = λ b s. h.whole b (kept_of r k u b s);
  once = h.once;
}
