-- That a monitor is open, by the causes that it let through, and how many are counted at most.
use Rattle.std.proofs.Common.{◌≡◌, ℕ, zero, suc, ◌≤◌, Bool, true, false, cond, not, List, ◌∷◌, Ok, refl, arith}
use Rattle.terms.specs.declared.refusal.Refusal.{Refusal}
use Rattle.reading.specs.Sums.{count_below}
use Rattle.terms.specs.Causes.{checked}

-- what a table lets through that asks whether the monitor is open
pub is_open_by : (b : Bool) (w : Refusal) (t : List (Bool × Refusal)) → Ok tt ≡ checked ((not b, w) ∷ t) → b ≡ true
is_open_by true w t e = refl
is_open_by false w t e = let z : ◌≡◌ {A = ℕ} 0 1 = cc in absurd (omega arith)

-- no more are counted than there are
pub count_few : (n : ℕ) (p : ℕ → Bool) → count_below n p ≤ n
count_few zero p = omega arith
count_few (suc n) p = let h = count_few n p in let k = one (p n) in omega arith
  where
    one : (b : Bool) → cond b 1 0 ≤ 1
    one true = omega arith
    one false = omega arith
