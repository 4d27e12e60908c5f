-- The table of readings, and what is found by it.
use Rattle.std.proofs.Common.{◌≡◌, ℕ, ◌<◌, ◌≤◌, ℤ, pos, refl, ap, arith}
use Rattle.std.proofs.lemmas.Bool.{le-ltb, lt-ltb}
use Rattle.terms.specs.Bounds.{most_entities}
use Rattle.terms.specs.declared.limits.Limits.{Limits}
use Rattle.terms.specs.declared.mark.Mark.{Mark}
use Rattle.reading.proofs.Firsts.{same_below}
use Rattle.reading.specs.Readings.{reading_of}
use Rattle.reading.specs.Sums.{first_below}
use Rattle.index.specs.declared.calls.Rule.{Rule}
use Rattle.index.specs.declared.calls.Rule.TheVariants.{Sight, Finish, Cure}
use Rattle.index.specs.declared.mark.MarkRow.{MarkRow}
use Rattle.index.specs.Calls.{judged_by, told_by}
use Rattle.index.specs.Sweeps.{swept, told_count}
use Rattle.index.specs.Values.{readings_below, is_too_large}
use Rattle.index.proofs.Sweeps.{swept_below, told_below}

-- past the first n entities nothing is read
pub unread : (n : ℕ) (w : ℕ → ℤ) (q : ℕ → ℕ → ℤ) → n ≤ most_entities → (e : ℕ) → most_entities ≤ e → readings_below n w q e ≡ (pos 0, pos 0, pos 0)
unread n w q h e l = rw (le-ltb e n (omega arith)) refl

-- below it all is read, so a call finds by the table what it finds by the readings
module _ (n : ℕ) (w : ℕ → ℤ) (q : ℕ → ℕ → ℤ) where
  read : (e : ℕ) → e < n → readings_below n w q e ≡ reading_of w q e
  read e l = rw (lt-ltb e n l) refl

  judged_read : (rule : Rule) (l : Limits) (price e : ℕ) → e < n → judged_by rule l price (readings_below n w q) e ≡ judged_by rule l price (reading_of w q) e
  judged_read Sight l price e h = λ i m row. judged_by Sight l price (λ _. read e h i) e m row
  judged_read Finish l price e h = λ i m row. judged_by Finish l price (λ _. read e h i) e m row
  judged_read Cure l price e h = λ i m row. judged_by Cure l price (λ _. read e h i) e m row

  told_read : (rule : Rule) (l : Limits) (price e : ℕ) → e < n → told_by rule l price (readings_below n w q) e ≡ told_by rule l price (reading_of w q) e
  told_read Sight l price e h = λ i m row. told_by Sight l price (λ _. read e h i) e m row
  told_read Finish l price e h = λ i m row. told_by Finish l price (λ _. read e h i) e m row
  told_read Cure l price e h = λ i m row. told_by Cure l price (λ _. read e h i) e m row

  pub rows_by_table : (rule : Rule) (l : Limits) (price : ℕ) (rows : ℕ → Mark → MarkRow) → swept n (judged_by rule l price (readings_below n w q)) rows ≡ swept n (judged_by rule l price (reading_of w q)) rows
  rows_by_table rule l price rows = swept_below n _ _ rows (judged_read rule l price)

  pub told_by_table : (rule : Rule) (l : Limits) (price : ℕ) (rows : ℕ → Mark → MarkRow) → told_count n (told_by rule l price (readings_below n w q)) rows ≡ told_count n (told_by rule l price (reading_of w q)) rows
  told_by_table rule l price rows = told_below n _ _ rows (told_read rule l price)

  pub large_by_table : (price : ℕ) → first_below n (λ e. is_too_large (readings_below n w q e) price) ≡ first_below n (λ e. is_too_large (reading_of w q e) price)
  large_by_table price = same_below n _ _ (λ e h. ap (λ (r : ℤ × ℤ × ℤ). is_too_large r price) (read e h))
