-- Nothing to believe here, only lemmas: each make of source keeps the law.
use Rattle.std.specs.Prelude.{ℕ, cond, ℤ, pos, ◌-ℤ◌, Some, None, Option, ◌==◌, nat_lt, refl}
use Rattle.std.proofs.lemmas.Bool.{cond_both}
use Rattle.terms.specs.declared.kind.Kind.{Kind}
use Rattle.terms.specs.declared.kind.Kind.TheVariants.{Future, Call, Put}
use Rattle.delta.specs.Sources.{delta_bound, half_delta, in_range, InRange, Lawful}
use Rattle.delta.specs.Makes.{notional, admitted, call_at, struck, put_of, settled_at}

-- the notional source keeps the law
pub notional_lawful : (n : ℕ) (k : Kind) → Lawful k (notional n k)
notional_lawful n Future = refl
notional_lawful n Call = refl
notional_lawful n Put = refl

-- a published source does
pub admitted_lawful : (k : Kind) (row : Option ℤ) → Lawful k (admitted k row)
admitted_lawful k None = tt
admitted_lawful k (Some d) = cond_both (in_range k d) (Some d) None (Lawful k) (λ t. t) (λ _. tt)

-- what holds of the three deltas that a call can have holds of its delta
call_each : (P : ℤ → Type 0) → P (pos delta_bound) → P (pos half_delta) → P (pos 0) → (price strike : ℕ) → P (call_at price strike)
call_each P a b c price strike =
    cond_both (nat_lt strike price) (pos delta_bound) (cond (strike == price) (pos half_delta) (pos 0)) P (λ _. a)
    (λ _. cond_both (strike == price) (pos half_delta) (pos 0) P (λ _. b) (λ _. c))

-- a settlement source does
pub settled_lawful : (price : ℕ) (k : Kind) (strike : Option ℕ) → Lawful k (settled_at price k strike)
settled_lawful price Future strike = refl
settled_lawful price Call None = tt
settled_lawful price Put None = tt
settled_lawful price Call (Some strike) =
    cond_both (struck strike) (Some (call_at price strike)) None (Lawful Call)
    (λ _. call_each (InRange Call) refl refl refl price strike) (λ _. tt)
settled_lawful price Put (Some strike) =
    cond_both (struck strike) (Some (call_at price strike)) None (λ o. Lawful Put (put_of o))
    (λ _. call_each (λ d. InRange Put (d -ℤ pos delta_bound)) refl refl refl price strike) (λ _. tt)
