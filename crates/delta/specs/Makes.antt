-- What each make of source answers.
use Rattle.std.specs.Prelude.{ℕ, Bool, cond, ℤ, pos, ◌-ℤ◌, neg_ℤ, Some, None, Option, ◌==◌, nat_lt}
use Rattle.std.specs.Int.{is_in_range}
use Rattle.terms.specs.Bounds.{price_bound}
use Rattle.terms.specs.declared.kind.Kind.{Kind}
use Rattle.terms.specs.declared.kind.Kind.TheVariants.{Future, Call, Put}
use Rattle.delta.specs.Sources.{Source, delta_bound, half_delta, in_range}

-- a whole unit of a kind, a put's being negative
abbrev pub whole : Kind → ℤ
whole Future = pos delta_bound
whole Call = pos delta_bound
whole Put = neg_ℤ (pos delta_bound)

-- the notional source: every contract counts in full
abbrev pub notional : ℕ → Kind → Option ℤ
notional contract kind = Some (whole kind)

-- a published delta, where it is in the range of its kind
abbrev pub admitted : Kind → Option ℤ → Option ℤ
admitted kind None = None
admitted kind (Some d) = cond (in_range kind d) (Some d) None

-- a source that looks a contract's row up, by what a row tells of a kind at a price, its minute, its price and its row of each contract
abbrev pub quoted : {V : Type 0} → (ℕ → Kind → Option V → Option ℤ) → ℕ → ℕ → (ℕ → Option V) → Source
quoted made minute price rows = record {
  delta = λ contract kind. made price kind (rows contract);
  minute = minute;
  price = price;
}

-- the published source, by its minute, its price and its row of each contract
abbrev pub published : ℕ → ℕ → (ℕ → Option ℤ) → Source
published = quoted (λ _. admitted)

-- a call's delta at settlement, as the price is above, at or below the strike
abbrev pub call_at : ℕ → ℕ → ℤ
call_at price strike =
    cond (nat_lt strike price) (pos delta_bound)
    (cond (strike == price) (pos half_delta)
    (pos 0))

-- a strike that an option can have
abbrev pub struck : ℕ → Bool
struck strike = is_in_range 1 price_bound strike

-- a call's delta by its strike: none without one
abbrev pub call_of : ℕ → Option ℕ → Option ℤ
call_of price None = None
call_of price (Some strike) = cond (struck strike) (Some (call_at price strike)) None

-- a put's delta by a call's: a whole unit less
abbrev pub put_of : Option ℤ → Option ℤ
put_of None = None
put_of (Some call) = Some (call -ℤ pos delta_bound)

-- a contract's delta at settlement by its strike
abbrev pub settled_at : ℕ → Kind → Option ℕ → Option ℤ
settled_at price Future strike = Some (pos delta_bound)
settled_at price Call strike = call_of price strike
settled_at price Put strike = put_of (call_of price strike)

-- the settlement source, by its minute, its price and the strike of each contract
abbrev pub settled : ℕ → ℕ → (ℕ → Option ℕ) → Source
settled = quoted settled_at
