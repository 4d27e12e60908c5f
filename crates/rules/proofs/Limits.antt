-- How large a limit is: at least 10% and at most 15% of the free float.
use Rattle.std.proofs.Common.{◌≡◌, ℕ, ◌*◌, ◌<◌, ◌≤◌, true, List, sym, ap, ◌∙◌, mul-le-mul_right, mul_assoc, mul_comm, div-mul-le_self, le_of_mul-le-mul_right, arith}
use Rattle.std.proofs.lemmas.Nat.{le-div}
use Rattle.std.proofs.lemmas.Bool.{cond_both, ltb-true, ltb-false}
use Rattle.rules.specs.declared.fraction.Fraction.{Fraction}
use Rattle.rules.specs.Bounds.{float_most, floor_share, ceiling_share}
use Rattle.rules.specs.Limit.{below, larger, smaller, rounded_down, share, averages_of, limit_of, is_accepted, LimitFacts}
use Rattle.rules.proofs.Deliveries.{accepted}

-- rounding keeps the order of two fractions
round_mono : (p q : Fraction) → 0 < p.bottom → 0 < q.bottom → p.top * q.bottom ≤ q.top * p.bottom → rounded_down p ≤ rounded_down q
round_mono p q hp hq h =
    let n = rounded_down p in
    let scaled : n * p.bottom * q.bottom ≤ p.top * q.bottom = mul-le-mul_right q.bottom (div-mul-le_self p.top p.bottom) in
    let turned : n * q.bottom * p.bottom ≡ n * p.bottom * q.bottom = mul_assoc n q.bottom p.bottom ∙ ap (λ x. n * x) (mul_comm q.bottom p.bottom) ∙ sym (mul_assoc n p.bottom q.bottom) in
    let all : n * q.bottom * p.bottom ≤ q.top * p.bottom = omega (arith, scaled, turned, h) in
    le-div n q.top q.bottom hq (le_of_mul-le-mul_right all hp)

smaller_at_most : (p q : Fraction) → 0 < p.bottom → 0 < q.bottom → rounded_down (smaller p q) ≤ rounded_down p
smaller_at_most p q hp hq =
    cond_both (below p q) p q (λ r. rounded_down r ≤ rounded_down p)
    (λ e. omega arith)
    (λ e. round_mono q p hq hp (ltb-false (p.top * q.bottom) (q.top * p.bottom) e))

smaller_some : (p q : Fraction) → 0 < p.bottom → 0 < q.bottom → 0 < (smaller p q).bottom
smaller_some p q hp hq = cond_both (below p q) p q (λ r. 0 < r.bottom) (λ _. hp) (λ _. hq)

larger_at_least : (p q : Fraction) → 0 < p.bottom → 0 < q.bottom → rounded_down p ≤ rounded_down (larger p q)
larger_at_least p q hp hq =
    cond_both (below p q) q p (λ r. rounded_down p ≤ rounded_down r)
    (λ e. round_mono p q hp hq (omega (arith, ltb-true (p.top * q.bottom) (q.top * p.bottom) e)))
    (λ e. omega arith)

larger_at_most : (p q : Fraction) (n : ℕ) → rounded_down p ≤ n → rounded_down q ≤ n → rounded_down (larger p q) ≤ n
larger_at_most p q n hp hq = cond_both (below p q) q p (λ r. rounded_down r ≤ n) (λ _. hq) (λ _. hp)

-- of accepted input
pub limit_facts : (free : ℕ) (daily : List ℕ) → is_accepted free daily ≡ true → LimitFacts free (limit_of free daily)
limit_facts free daily h =
    let a = accepted free daily h in
    let floor : Fraction = share floor_share free in
    let ceiling : Fraction = share ceiling_share free in
    let average : Fraction = averages_of daily in
    let some : 0 < average.bottom = omega arith in
    let low = larger_at_least floor (smaller ceiling average) (omega arith) (smaller_some ceiling average (omega arith) some) in
    let high : limit_of free daily ≤ rounded_down ceiling = larger_at_most floor (smaller ceiling average) (rounded_down ceiling) (omega arith) (smaller_at_most ceiling average (omega arith) some) in
    record { at_least = low; at_most = high; small = omega arith }

-- an accepted limit is within the largest free float
pub limit_bounded : (free : ℕ) (daily : List ℕ) → is_accepted free daily ≡ true → limit_of free daily ≤ float_most
limit_bounded free daily h = let f = limit_facts free daily h in omega (arith, f.small)
