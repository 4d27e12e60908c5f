-- What a monitor is opened over, and when it is open.
use Rattle.std.specs.Prelude.{ℕ, Bool, true, false, not, ◌&&◌, List, length, ◌==◌, nat_le, nat_lt, slice_index_or}
use Rattle.std.specs.Int.{is_in_range}
use Rattle.std.specs.List.{list_all}
use Rattle.terms.specs.declared.kind.Kind.{Kind}
use Rattle.terms.specs.declared.kind.Kind.TheVariants.{Future, Call, Put}
use Rattle.terms.specs.declared.kind.Underlying.{Underlying}
use Rattle.terms.specs.declared.kind.Underlying.TheVariants.{Index, Stock}
use Rattle.terms.specs.declared.kind.Contract.{Contract}
use Rattle.terms.specs.declared.limits.Limits.{Limits}
use Rattle.terms.specs.Bounds.{most_entities, most_contracts, most_underlyings, amount_bound}
use Rattle.book.specs.Holding.{Holding}

-- what is handed in: a book, its contracts, the underlyings, and the two limits
pub record Opening : Type 0 where
  pub book : Holding
  pub contracts : List Contract
  pub underlyings : List Underlying
  pub limits : Limits

-- what is watched: the book's numbers of entities and contracts, the contracts and the underlyings
pub record Listing : Type 0 where
  pub entities : ℕ
  pub places : ℕ
  pub contracts : List Contract
  pub underlyings : List Underlying

-- what stays as it was at the opening
pub record Terms : Type 0 where
  pub listing : Listing
  pub limits : Limits

-- what is watched, by its four parts
abbrev pub listing_from : ℕ → ℕ → List Contract → List Underlying → Listing
listing_from e n cs us = record { entities = e; places = n; contracts = cs; underlyings = us }

-- that, and the limits
abbrev pub terms_from : Listing → Limits → Terms
terms_from l limits = record { listing = l; limits = limits }

-- what the opening fixes
abbrev pub terms_of : Opening → Terms
terms_of o = terms_from (listing_from o.book.entities o.book.contracts o.contracts o.underlyings) o.limits

-- what is handed in, by its four parts
abbrev pub opening_from : Holding → List Contract → List Underlying → Limits → Opening
opening_from b cs us limits = record { book = b; contracts = cs; underlyings = us; limits = limits }

-- an underlying is a stock
abbrev pub is_stock : Underlying → Bool
is_stock Index = false
is_stock Stock = true

-- a kind is the future
abbrev pub is_future : Kind → Bool
is_future Future = true
is_future Call = false
is_future Put = false

-- the underlying's number is listed
abbrev pub is_listed : List Underlying → ℕ → Bool
is_listed us u = nat_lt u (length us)

-- the underlying is a stock
abbrev pub is_stock_at : List Underlying → ℕ → Bool
is_stock_at us u = is_stock (slice_index_or us u Index)

-- the underlying is of this kind
abbrev pub is_kind_at : List Underlying → Underlying → ℕ → Bool
is_kind_at us Index u = not (is_stock_at us u)
is_kind_at us Stock u = is_stock_at us u

-- a contract names a listed underlying, and is no future on an index
abbrev pub sound_contract : List Underlying → Contract → Bool
sound_contract us c = is_listed us c.underlying && not (is_future c.kind && not (is_stock_at us c.underlying))

-- every contract does
abbrev pub all_sound : List Underlying → List Contract → Bool
all_sound us cs = list_all (sound_contract us) cs

-- every condition under which a monitor is open
abbrev pub is_open : Terms → Bool
is_open t =
    is_in_range 1 most_entities t.listing.entities
    && is_in_range 1 most_contracts t.listing.places
    && t.listing.places == length t.listing.contracts
    && is_in_range 1 most_underlyings (length t.listing.underlyings)
    && all_sound t.listing.underlyings t.listing.contracts
    && is_in_range 1 amount_bound t.limits.net
    && is_in_range 1 amount_bound t.limits.gross
