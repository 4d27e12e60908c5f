-- Nothing to believe here, only a lemma: what holds nothing is sound.
use Rattle.std.specs.Prelude.{refl}
use Rattle.std.proofs.Common.{arith}
use Rattle.book.specs.Holding.{Sound, count, blank}

-- a book of nothing is sound
pub blank_sound : Sound (blank 0 0 0)
unfolding count
blank_sound = record { bounded = λ _ _. omega arith; outside = λ _ _ _. refl; few = omega arith }
