-- What a delta source means, and the law that every one obeys.
use Rattle.std.specs.Prelude.{◌≡◌, ℕ, Bool, true, ◌&&◌, ℤ, pos, neg_ℤ, Some, None, Option, int_le}
use Rattle.terms.specs.declared.kind.Kind.{Kind}
use Rattle.terms.specs.declared.kind.Kind.TheVariants.{Future, Call, Put}

-- a whole unit in ten-thousandths: the largest size of a delta
abbrev pub delta_bound : ℕ
delta_bound = 10000

-- half a unit
abbrev pub half_delta : ℕ
half_delta = 5000

-- a priced source: the delta of each contract number and kind, or none, and the minute and the price of its deltas
pub record Source : Type 0 where
  pub delta : ℕ → Kind → Option ℤ
  pub minute : ℕ
  pub price : ℕ

-- a delta that a kind can have: a future's is a whole unit, a call's 0 to that, a put's minus that to 0
abbrev pub in_range : Kind → ℤ → Bool
in_range Future d = int_le (pos delta_bound) d && int_le d (pos delta_bound)
in_range Call d = int_le (pos 0) d && int_le d (pos delta_bound)
in_range Put d = int_le (neg_ℤ (pos delta_bound)) d && int_le d (pos 0)

-- the same, as a fact
abbrev pub InRange : Kind → ℤ → Type 0
InRange kind d = in_range kind d ≡ true

-- the law of every source: its answer is in the range of the kind, or there is none
abbrev pub Lawful : Kind → Option ℤ → Type 0
Lawful kind None = Unit {0}
Lawful kind (Some d) = InRange kind d

-- what a source of any make means, by its answers, its minute and its price
abbrev pub source_of : {D : Type 0} → (D → ℕ → Kind → Option ℤ) → (D → ℕ) → (D → ℕ) → D → Source
source_of answer at worth s = record { delta = answer s; minute = at s; price = worth s }

-- two sources, of any makes, are equal in meaning: every answer agrees, and so do minute and price
pub record EqualSources (d d' : Source) : Type 0 where
  pub answers : (contract : ℕ) (kind : Kind) → d.delta contract kind ≡ d'.delta contract kind
  pub minutes : d.minute ≡ d'.minute
  pub prices : d.price ≡ d'.price
