-- Nothing to believe here, only a lemma: a source of one of two makes keeps the law.
use Rattle.std.specs.Prelude.{ℕ, ℤ, Option}
use Rattle.either.specs.Either.{either}
use Rattle.either.specs.declared.Either.{Either}
use Rattle.either.specs.declared.Either.TheVariants.{Left, Right}
use Rattle.terms.specs.declared.kind.Kind.{Kind}
use Rattle.delta.specs.Sources.{Lawful}

-- it keeps the law where both makes do
pub either_lawful : {F S : Type 0} (f : F → ℕ → Kind → Option ℤ) (s : S → ℕ → Kind → Option ℤ) → ((a : F) (n : ℕ) (k : Kind) → Lawful k (f a n k)) → ((b : S) (n : ℕ) (k : Kind) → Lawful k (s b n k)) → (m : Either F S) (n : ℕ) (k : Kind) → Lawful k (either f s m n k)
either_lawful f s p q (Left a) n k = p a n k
either_lawful f s p q (Right b) n k = q b n k
