-- The limit that was asked for.
use Rattle.std.proofs.Common.{◌≡◌, ℕ, Bool, true, false, cond, List, Ok, Err, arith}
use Rattle.terms.specs.declared.refusal.Refusal.TheVariants.{Input}
use Rattle.rules.specs.Limit.{limit_of, limit_asked, is_accepted}

pub asked_is : (f : ℕ) (ds : List ℕ) (g : ℕ) → Ok g ≡ limit_asked f ds → g ≡ limit_of f ds
asked_is f ds g = go (is_accepted f ds)
  where
    go : (b : Bool) → Ok g ≡ cond b (Ok (limit_of f ds)) (Err Input) → g ≡ limit_of f ds
    go true e = cc
    go false e = let z : ◌≡◌ {A = ℕ} 0 1 = cc in absurd (omega arith)
