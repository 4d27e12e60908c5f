-- What a source means that looks a contract's row up: a published and a settlement source are two.
use Rattle.std.specs.Prelude.{ℕ, ℤ, Option}
use Rattle.terms.specs.declared.kind.Kind.{Kind}
use Rattle.book.specs.Tables.{value_of}
use Rattle.delta.specs.declared.quoted.Quoted.{Quoted}
use Rattle.delta.specs.Sources.{Source}
use Rattle.delta.specs.Makes.{quoted, published, settled}

-- the row of a contract, or none
abbrev pub row_of : {V : Type 0} → Quoted V → ℕ → Option V
row_of s = value_of s.rows.now

-- what the source means, by what a row tells of a kind at a price
abbrev pub told_by : {V : Type 0} → (ℕ → Kind → Option V → Option ℤ) → Quoted V → Source
told_by made s = quoted made s.minute s.price (row_of s)

-- what a published source means
abbrev pub published_by : Quoted ℤ → Source
published_by s = published s.minute s.price (row_of s)

-- what a settlement source means
abbrev pub settled_by : Quoted ℕ → Source
settled_by s = settled s.minute s.price (row_of s)
