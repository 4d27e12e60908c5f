-- The market-wide limit of a stock, in units: by exact fractions, rounded down once at the end.
use Rattle.std.specs.Prelude.{ℕ, ◌*◌, ◌/◌, ◌≤◌, Bool, cond, ◌&&◌, List, length, Ok, Err, sum, Result, nat_le, nat_lt}
use Rattle.std.specs.Int.{is_in_range}
use Rattle.std.specs.List.{list_all}
use Rattle.terms.specs.declared.refusal.Refusal.{Refusal}
use Rattle.terms.specs.declared.refusal.Refusal.TheVariants.{Input}
use Rattle.rules.specs.declared.fraction.Fraction.{Fraction}
use Rattle.rules.specs.Bounds.{float_least, float_most, days_least, days_most, delivery_most, whole_share, floor_share, ceiling_share, average_times}

-- p is below q
abbrev pub below : Fraction → Fraction → Bool
below p q = nat_lt (p.top * q.bottom) (q.top * p.bottom)

-- the larger of two fractions
abbrev pub larger : Fraction → Fraction → Fraction
larger p q = cond (below p q) q p

-- the smaller of two fractions
abbrev pub smaller : Fraction → Fraction → Fraction
smaller p q = cond (below p q) p q

-- the largest whole number that is not above p
abbrev pub rounded_down : Fraction → ℕ
rounded_down p = p.top / p.bottom

-- so many percent of a quantity
abbrev pub share : ℕ → ℕ → Fraction
share percent quantity = record { top = percent * quantity; bottom = whole_share }

-- 65 times the average delivery of a day
abbrev pub averages_of : List ℕ → Fraction
averages_of daily = record { top = average_times * sum daily; bottom = length daily }

-- the larger of 10% of the free float and the smaller of 15% of it and 65 times the average delivery
abbrev pub limit_of : ℕ → List ℕ → ℕ
limit_of free daily = rounded_down (larger (share floor_share free) (smaller (share ceiling_share free) (averages_of daily)))

-- no day's delivery is above the largest
abbrev pub are_in_range : List ℕ → Bool
are_in_range daily = list_all (λ delivery. nat_le delivery delivery_most) daily

-- the free float, the number of days and every delivery are in range
abbrev pub is_accepted : ℕ → List ℕ → Bool
is_accepted free daily = is_in_range float_least float_most free && is_in_range days_least days_most (length daily) && are_in_range daily

-- what is answered: the limit, or that the input is out of range
abbrev pub limit_asked : ℕ → List ℕ → Result ℕ Refusal
limit_asked free daily = cond (is_accepted free daily) (Ok (limit_of free daily)) (Err Input)

-- the largest limit that can be answered: 15% of the largest free float
abbrev pub limit_most : ℕ
limit_most = rounded_down (share ceiling_share float_most)

-- what holds of every limit that is answered
pub record LimitFacts (free granted : ℕ) : Type 0 where
  pub at_least : rounded_down (share floor_share free) ≤ granted
  pub at_most : granted ≤ rounded_down (share ceiling_share free)
  pub small : granted ≤ limit_most
