-- How large a delta can be.
use Rattle.std.proofs.Common.{◌≡◌, ◌≤◌, ℤ, pos, neg_ℤ, nat_abs, Some, Option, sym, subst, arith}
use lib.Signed.{le_z}
use Rattle.std.proofs.lemmas.Int.{ints}
use Rattle.std.proofs.lemmas.Bool.{and_parts}
use Rattle.terms.specs.declared.kind.Kind.{Kind}
use Rattle.terms.specs.declared.kind.Kind.TheVariants.{Future, Call, Put}
use Rattle.delta.specs.Sources.{delta_bound, InRange, Lawful}

-- a delta in the range of its kind is at most a whole unit in size
pub in_range_size : (k : Kind) (d : ℤ) → InRange k d → nat_abs d ≤ delta_bound
in_range_size Future d h = let p = and_parts (le_z (pos delta_bound) d) (le_z d (pos delta_bound)) h in omega (arith, ints)
in_range_size Call d h = let p = and_parts (le_z (pos 0) d) (le_z d (pos delta_bound)) h in omega (arith, ints)
in_range_size Put d h = let p = and_parts (le_z (neg_ℤ (pos delta_bound)) d) (le_z d (pos 0)) h in omega (arith, ints)
