-- How many places have a property.
use Rattle.std.proofs.Common.{◌≡◌, ℕ, zero, suc, ◌<◌, ◌↔◌, refl, subst, ⊎_elim, arith}
use Rattle.std.proofs.lemmas.Bool.{cases_eq}
use Rattle.model.specs.Breaches.{HowMany, none, has, lacks}

module _ (P Q : ℕ → Type 0) where
  -- as many have a property that comes to the same below k
  pub how_many_alike : {k n : ℕ} → HowMany P k n → ((j : ℕ) → j < k → P j ↔ Q j) → HowMany Q k n
  how_many_alike none f = none
  how_many_alike (has {k = k} h p) f = has (how_many_alike h (λ j l. f j (omega arith))) ((f k (omega arith)).0 p)
  how_many_alike (lacks {k = k} h p) f = lacks (how_many_alike h (λ j l. f j (omega arith))) (λ q. p ((f k (omega arith)).1 q))

module _ (P : ℕ → Type 0) where
  pub how_many_none : (k : ℕ) → ((j : ℕ) → j < k → P j → ⊥) → HowMany P k 0
  how_many_none zero f = none
  how_many_none (suc k) f = lacks (how_many_none k (λ j l. f j (omega arith))) (f k (omega arith))

  -- none are counted where there are none, and some where there is one
  pub how_many_zero : {k n : ℕ} → HowMany P k n → ((j : ℕ) → P j → ⊥) → n ≡ 0
  how_many_zero none f = refl
  how_many_zero (has {k = k} h p) f = absurd (f k p)
  how_many_zero (lacks h p) f = how_many_zero h f

  pub how_many_some : {k n : ℕ} → HowMany P k n → (j : ℕ) → j < k → P j → 0 < n
  how_many_some none j l x = absurd (omega arith)
  how_many_some (has h p) j l x = omega arith
  how_many_some (lacks {k = k} h p) j l x = ⊎_elim (λ q. absurd (p (subst P q x))) (λ q. how_many_some h j (omega arith) x) (cases_eq j k)
