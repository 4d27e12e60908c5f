-- Lists of one value, and facts of every place of a list.
use Rattle.std.proofs.Common.{◌≡◌, ℕ, zero, suc, ◌<◌, Bool, true, false, cond, eqb, List, length, set, get_or, replicate, refl, ap, ◌∙◌, get_or-set_other, get_or-set_same}
use mathlib.Core.Path.{fun_ext}
use Rattle.std.proofs.lemmas.Bool.{cond_both, eqb-true, eqb-false}
use Rattle.model.specs.State.{at}

-- what holds of a value, and of what stands outside, holds everywhere in a list of that value
pub everywhere_replicate : {A : Type 0} (P : A → Type 0) (x d : A) (n : ℕ) → P x → P d → (k : ℕ) → P (get_or (replicate n x) k d)
everywhere_replicate P x d zero p q k = q
everywhere_replicate P x d (suc n) p q zero = p
everywhere_replicate P x d (suc n) p q (suc k) = everywhere_replicate P x d n p q k

pub same_everywhere : {A : Type 0} (n k : ℕ) (x : A) → get_or (replicate n x) k x ≡ x
same_everywhere n k x = everywhere_replicate (λ y. y ≡ x) x x n refl refl k

pub everywhere_at : {A : Type 0} (P : A → Type 0) (k : ℕ) (a : A) (f : ℕ → A) → ((j : ℕ) → P (f j)) → P a → (j : ℕ) → P (at k a f j)
everywhere_at P k a f h p j = cond_both (eqb j k) a (f j) P (λ _. p) (λ _. h j)

-- a list that is written at one place, as a function of its places
pub at_set_by : {A X : Type 0} (view : A → X) (xs : List A) (k : ℕ) (v d : A) → k < length xs → (λ j. view (get_or (set xs k v) j d)) ≡ at k (view v) (λ j. view (get_or xs j d))
at_set_by view xs k v d h = fun_ext (λ j. each j (eqb j k) refl)
  where
    each : (j : ℕ) (t : Bool) → eqb j k ≡ t → view (get_or (set xs k v) j d) ≡ cond t (view v) (view (get_or xs j d))
    each j true e = ap (λ (i : ℕ). view (get_or (set xs k v) i d)) (eqb-true j k e) ∙ ap view (get_or-set_same xs k v d h)
    each j false e = ap view (get_or-set_other xs k j v d (eqb-false j k e))

pub at_set : {A : Type 0} (xs : List A) (k : ℕ) (v d : A) → k < length xs → (λ j. get_or (set xs k v) j d) ≡ at k v (λ j. get_or xs j d)
at_set = at_set_by (λ x. x)
