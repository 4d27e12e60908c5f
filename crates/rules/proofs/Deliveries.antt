-- What accepted deliveries are, and how much they come to.
use Rattle.std.proofs.Common.{◌≡◌, ℕ, ◌*◌, ◌≤◌, true, leb, List, [], ◌∷◌, length, sum, arith}
use Rattle.std.specs.List.{AllByRecursion as All}
use Rattle.std.proofs.ByRecursion.{sum_by_le}
use Rattle.std.proofs.lemmas.Bool.{and_parts, leb-true}
use Rattle.std.proofs.lemmas.Bool.Decides.{nat_tests}
use Rattle.rules.specs.Bounds.{float_least, float_most, days_least, days_most, delivery_most}
use Rattle.rules.specs.Limit.{are_in_range, is_accepted}

-- no delivery of a list in range is above the largest
all_in_range : (daily : List ℕ) → are_in_range daily ≡ true → All (λ d. d ≤ delivery_most) daily
all_in_range [] h = tt
all_in_range (d ∷ later) h = let p = and_parts (leb d delivery_most) (are_in_range later) h in (leb-true d delivery_most p.0, all_in_range later p.1)

-- what accepted input is: each bound, and that all deliveries together are few enough to be added
pub record Accepted (free : ℕ) (daily : List ℕ) : Type 0 where
  pub float_least_is : float_least ≤ free
  pub float_most_is : free ≤ float_most
  pub days_least_is : days_least ≤ length daily
  pub days_most_is : length daily ≤ days_most
  pub delivered : sum daily ≤ days_most * delivery_most

pub accepted : (free : ℕ) (daily : List ℕ) → is_accepted free daily ≡ true → Accepted free daily
accepted free daily h =
    let few : length daily ≤ days_most = grind (arith, nat_tests) in
    let small : are_in_range daily ≡ true = grind (arith, nat_tests) in
    record {
      float_least_is = grind (arith, nat_tests);
      float_most_is = grind (arith, nat_tests);
      days_least_is = grind (arith, nat_tests);
      days_most_is = few;
      delivered = omega (arith, sum_by_le (λ x. x) delivery_most daily (all_in_range daily small));
    }
