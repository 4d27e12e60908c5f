-- What the two kinds of row make of a source is what the published and the settlement source mean.
use Rattle.std.proofs.Common.{◌≡◌, ℕ, ℤ, refl}
use Rattle.delta.specs.declared.quoted.Quoted.{Quoted}
use Rattle.delta.specs.Makes.{admitted, settled_at}
use Rattle.delta.specs.Told.{told_by, published_by, settled_by}

pub published_is : (s : Quoted ℤ) → told_by (λ _. admitted) s ≡ published_by s
published_is s = refl

pub settled_is : (s : Quoted ℕ) → told_by settled_at s ≡ settled_by s
settled_is s = refl
