-- One entity more: the step of a sweep.
use Rattle.std.proofs.Common.{◌≡◌, ℕ, zero, suc, ◌+◌, ◌*◌, ◌<◌, ◌≤◌, Bool, true, false, cond, ltb, List, length, set, refl, ap, ap₂, ◌∙◌, ⊎_elim, arith}
use mathlib.Core.Path.{fun_ext}
use Rattle.std.proofs.lemmas.List.{get_or-set_same, get_or-set_other}
use Rattle.std.proofs.lemmas.Bool.{cases_lt, le-ltb}
use Rattle.std.proofs.lemmas.Bool.Decides.{nat_tests}
use Rattle.terms.specs.declared.mark.Mark.{Mark}
use Rattle.terms.specs.declared.mark.Mark.TheVariants.{NetLong, NetShort, GrossLong, GrossShort}
use Rattle.reading.proofs.Sums.{sum_more, sum_small}
use Rattle.index.specs.declared.mark.Four.{Four}
use Rattle.index.specs.declared.mark.MarkRow.{MarkRow}
use Rattle.index.specs.Marks.{four}
use Rattle.index.specs.Sweeps.{rows_in, tally, swept, told_count}

-- ---- how many count
bit_small : (b : Bool) → cond b 1 0 ≤ 1
bit_small true = omega arith
bit_small false = omega arith

pub tally_small : (p : Mark → Bool) → tally p ≤ 4
tally_small p = omega (arith, bit_small (p NetLong), bit_small (p NetShort), bit_small (p GrossLong), bit_small (p GrossShort))

module _ (tells : ℕ → Mark → MarkRow → Bool) (rows : ℕ → Mark → MarkRow) where
  pub told_more : (i : ℕ) → told_count (i + 1) tells rows ≡ told_count i tells rows + tally (λ m. tells i m (rows i m))
  told_more i = sum_more (λ e. tally (λ m. tells e m (rows e m))) i

  pub told_small : (n : ℕ) → told_count n tells rows ≤ n * 4
  told_small = sum_small (λ e. tally (λ m. tells e m (rows e m))) 4 (λ e. tally_small (λ m. tells e m (rows e m)))

-- ---- only what is judged of the first n entities counts
pub told_below : (n : ℕ) (tells tells' : ℕ → Mark → MarkRow → Bool) (rows : ℕ → Mark → MarkRow) → ((e : ℕ) → e < n → tells e ≡ tells' e) → told_count n tells rows ≡ told_count n tells' rows
told_below zero tells tells' rows h = refl
told_below (suc n) tells tells' rows h =
    ap₂ (λ a b. a + b) (told_below n tells tells' rows (λ e l. h e (omega arith))) (ap (λ (t : Mark → MarkRow → Bool). tally (λ m. t m (rows n m))) (h n (omega arith)))

pub swept_below : (n : ℕ) (judged judged' : ℕ → Mark → MarkRow → MarkRow) (rows : ℕ → Mark → MarkRow) → ((e : ℕ) → e < n → judged e ≡ judged' e) → swept n judged rows ≡ swept n judged' rows
swept_below n judged judged' rows h =
    fun_ext (λ e. ⊎_elim
    (λ l. ap {B = Mark → MarkRow} (λ (j : Mark → MarkRow → MarkRow) (m : Mark). cond (ltb e n) (j m (rows e m)) (rows e m)) (h e l))
    (λ l. rw (le-ltb e n l) refl)
    (cases_lt e n))

-- ---- the rows
module _ (judged : ℕ → Mark → MarkRow → MarkRow) (old : ℕ → Mark → MarkRow) where
  -- an entity that is not reached yet is as it was
  unreached_at : (i : ℕ) (m : Mark) → swept i judged old i m ≡ old i m
  unreached_at i m = grind (arith, nat_tests)

  pub unreached : (i : ℕ) (q : ℕ → Mark → MarkRow) → q ≡ swept i judged old → q i ≡ old i
  unreached i q h = ap (λ (q : ℕ → Mark → MarkRow). q i) h ∙ fun_ext (unreached_at i)

  -- entity i more has what it is judged
  more_at : (table : List (Four MarkRow)) (i : ℕ) (x : Four MarkRow) → i < length table → (e : ℕ) (m : Mark) → four x m ≡ judged i m (old i m) → rows_in table e m ≡ swept i judged old e m → rows_in (set table i x) e m ≡ swept (i + 1) judged old e m
  more_at table i x l e m g h = grind (arith, nat_tests, get_or-set_same, get_or-set_other)

  pub more : (table : List (Four MarkRow)) (i : ℕ) (x : Four MarkRow) → i < length table → four x ≡ (λ m. judged i m (old i m)) → rows_in table ≡ swept i judged old → rows_in (set table i x) ≡ swept (i + 1) judged old
  more table i x l g h =
      fun_ext (λ e. fun_ext (λ m. more_at table i x l e m (ap (λ (f : Mark → MarkRow). f m) g) (ap (λ (f : ℕ → Mark → MarkRow). f e m) h)))
