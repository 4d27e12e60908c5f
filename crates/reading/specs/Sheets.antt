-- What the contracts of an underlying weigh at the answers d of a delta source.
use Rattle.std.specs.Prelude.{ℕ, Bool, cond, ◌&&◌, List, length, ℤ, pos, Some, None, Option, ◌==◌, nat_lt, slice_index_or, is_none}
use Rattle.terms.specs.Bounds.{most_contracts}
use Rattle.book.specs.Holding.{or_zero}
use Rattle.terms.specs.declared.kind.Contract.{Contract}
use Rattle.terms.specs.declared.kind.Kind.{Kind}
use Rattle.terms.specs.declared.kind.Kind.TheVariants.{Future}

-- contract c of a list
abbrev pub contract_at : List Contract → ℕ → Contract
contract_at cs c = slice_index_or cs c (record { underlying = 0; kind = Future })

-- contract c is listed, below the most contracts, and is of underlying u
abbrev pub within : List Contract → ℕ → ℕ → Bool
within cs u c = nat_lt c most_contracts && (nat_lt c (length cs) && (contract_at cs c).underlying == u)

-- the delta of contract c at its kind, or none
abbrev pub delta_at : List Contract → (ℕ → Kind → Option ℤ) → ℕ → Option ℤ
delta_at cs d c = d c (contract_at cs c).kind

-- the same where contract c is of underlying u, and a weight of 0 where it is not
abbrev pub delta_in : List Contract → ℕ → (ℕ → Kind → Option ℤ) → ℕ → Option ℤ
delta_in cs u d c = cond (within cs u c) (delta_at cs d c) (Some (pos 0))

-- what a unit of contract c weighs: its delta where it is of underlying u and has one, else 0
abbrev pub weight_of : List Contract → ℕ → (ℕ → Kind → Option ℤ) → ℕ → ℤ
weight_of cs u d c = cond (within cs u c) (or_zero (delta_at cs d c)) (pos 0)

-- contract c is of underlying u, and has no delta
abbrev pub lacks_delta : List Contract → ℕ → (ℕ → Kind → Option ℤ) → ℕ → Bool
lacks_delta cs u d c = within cs u c && is_none (delta_at cs d c)
