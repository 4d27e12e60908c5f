-- The index's day, computed; what a settlement keeps is a final breach by the law of the marks.
use Rattle.std.specs.Prelude.{◌≡◌, ℕ, ◌*◌, ◌-◌, true, nat_le, Option, refl}
use Rattle.std.proofs.Common.{ap, sym, ◌∙◌, arith}
use Rattle.std.specs.FinMap.{gets}
use Rattle.terms.specs.Bounds.{amount_bound}
use Rattle.terms.specs.declared.mark.Mark.TheVariants.{NetLong}
use Rattle.terms.specs.declared.mark.Side.TheVariants.{Long, Short}
use Rattle.book.specs.Holding.{count, blocked, reply, posted}
use Rattle.delta.specs.Sources.{Source}
use Rattle.cover.specs.Covers.{Amounts}
use Rattle.index.specs.Bounds.{per_paisa}
use Rattle.index.specs.Days.{round_at}
use Rattle.reading.specs.Readings.{net, long, short}
use Rattle.reading.specs.Missing.{missing}
use Rattle.model.specs.Calls.{snapshot}
use Rattle.model.specs.Runs.{Accepted, answer_at}
use Rattle.model.specs.Breaches.{ProvisionalAt, at_final, at_cure}
use Rattle.model.proofs.Days.{differ, one_snapshot, snapshot_or_cure}
use Rattle.model.proofs.Rules.{rules}
use Rattle.examples.specs.Words.{index, crore, mark_after}
use Rattle.examples.specs.IndexDay.{NetLimit, Settlement, Minutes, at_minute, cash, settled_over, covered, uncovered, taken_at}

pub net_limit : NetLimit
unfolding count blocked reply posted net long short missing
net_limit = record {
  net = refl;
  value = refl;
  over = record { watched = omega arith; exceeds = omega arith };
  answer = refl;
  net_at_limit = refl;
  value_at_limit = refl;
  net_above = refl;
  value_above = refl;
  one_over = refl;
  entity_0 = refl;
  entity_1 = refl;
}

-- ---- a settlement: only the cover of the long side counts, and it is what was reported

cash_is : (amount : ℕ) → nat_le amount amount_bound ≡ true → cash amount 0 index Long ≡ amount
cash_is amount h = simp (gets, h) refl

abbrev only : ℕ → Amounts
only n e u Long = n
only n e u Short = 0

-- what the settlement keeps of the mark
abbrev kept_over : Amounts → Option ℕ
kept_over cover = (mark_after (settled_over cover) 8 0 NetLong).kept

module _ (amount : ℕ) (h : nat_le amount amount_bound ≡ true) where
  answer_over : answer_at (settled_over (cash amount)) 8 ≡ answer_at (settled_over (only amount)) 8
  unfolding count blocked reply posted net long short missing
  answer_over = ap (λ (n : ℕ). answer_at (settled_over (only n)) 8) (cash_is amount h)

  kept_is : kept_over (cash amount) ≡ kept_over (only amount)
  unfolding count blocked reply posted net long short missing
  kept_is = ap (λ (n : ℕ). kept_over (only n)) (cash_is amount h)

pub settlement : Settlement
unfolding count blocked reply posted net long short missing
settlement = record {
  count = refl;
  covered_answer = answer_over (310 * crore) refl;
  no_breach = λ v s.
      let e = sym (kept_is (310 * crore) refl) ∙ ((rules.marks covered 9 index 0 NetLong).kept v).1 s in
      let z : ◌≡◌ {A = ℕ} 0 1 = cc in absurd (omega arith);
  uncovered_answer = answer_over (310 * crore - 1) refl;
  breach = ((rules.marks uncovered 9 index 0 NetLong).kept (5310 * crore * per_paisa)).0 (kept_is (310 * crore - 1) refl);
}

-- ---- minutes

accepted_884 : Accepted (taken_at 884) 1 (snapshot index (at_minute 884))
unfolding count blocked reply posted net long short missing
accepted_884 = record { holds = refl; passed = refl }

not_at_884 : (d : Source) → ProvisionalAt (taken_at 884) 1 index d 0 NetLong → ⊥
not_at_884 d (at_final a f o) = differ (sym f ∙ ap (λ (x : Source). round_at x.minute) (one_snapshot (taken_at 884) 1 index d (at_minute 884) a accepted_884))
not_at_884 d (at_cure a o j d' l o') = snapshot_or_cure (taken_at 884) 1 index (at_minute 884) d accepted_884 a

pub minutes : Minutes
unfolding count blocked reply posted net long short missing
minutes = record {
  regular = refl;
  final = refl;
  too_early = refl;
  too_late = refl;
  row_884 = refl;
  sighted = (rules.marks (taken_at 884) 2 index 0 NetLong).sighted.0 refl;
  not_yet = not_at_884;
  row_885 = refl;
  provisional = at_final (record { holds = refl; passed = refl }) refl (record { watched = omega arith; exceeds = omega arith });
}
