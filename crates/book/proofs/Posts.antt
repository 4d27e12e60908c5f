-- What a post answers and leaves, case by case.
use Rattle.std.proofs.Common.{◌≡◌, ℕ, ◌≤◌, true, false, cond, not, ℤ, ◌+ℤ◌, nat_abs, Ok, Err, Result, ap, ◌∙◌, ap₂, arith, w64, SFits, to_z, of_z}
use Rattle.std.proofs.lemmas.Int.{ints, to_z-of_z}
use Rattle.std.proofs.lemmas.Bool.{cond-true, cond-false}
use Rattle.terms.specs.Bounds.{quantity_bound}
use Rattle.terms.specs.declared.refusal.Refusal.{Refusal}
use Rattle.terms.specs.declared.refusal.Refusal.TheVariants.{Pair, Size, Full}
use Rattle.book.specs.Holding.{Holding, inside, small, blocked, reply, with_pair, settle, posted, sum_of}

module _ (b : Holding) (e c : ℕ) (z : ℤ) where
  pub reply_pair : inside b e c ≡ false → reply b e c z ≡ Err Pair
  unfolding reply
  reply_pair h = cond-true (not (inside b e c)) _ _ (ap not h)

  pub reply_size : inside b e c ≡ true → small (b.at e c +ℤ z) ≡ false → reply b e c z ≡ Err Size
  unfolding reply
  reply_size h s = cond-false (not (inside b e c)) _ _ (ap not h) ∙ cond-true (not (small (b.at e c +ℤ z))) _ _ (ap not s)

  -- neither PAIR nor SIZE: FULL decides
  past : inside b e c ≡ true → small (b.at e c +ℤ z) ≡ true → reply b e c z ≡ cond (blocked b e c z) (Err Full) (Ok (b.at e c +ℤ z))
  unfolding reply
  past h s = cond-false (not (inside b e c)) _ _ (ap not h) ∙ cond-false (not (small (b.at e c +ℤ z))) _ _ (ap not s)

  pub reply_full : inside b e c ≡ true → small (b.at e c +ℤ z) ≡ true → blocked b e c z ≡ true → reply b e c z ≡ Err Full
  unfolding reply
  reply_full h s k =
      past h s ∙ cond-true (blocked b e c z) _ _ k

  pub reply_done : inside b e c ≡ true → small (b.at e c +ℤ z) ≡ true → blocked b e c z ≡ false → reply b e c z ≡ Ok (b.at e c +ℤ z)
  unfolding reply
  reply_done h s k =
      past h s ∙ cond-false (blocked b e c z) _ _ k

  -- a declined post changes nothing
  pub posted_declined : (x : Refusal) → reply b e c z ≡ Err x → posted b e c z ≡ b
  unfolding posted
  posted_declined x h = ap (settle b e c) h

  -- an accepted one changes its pair
  pub posted_done : (q : ℤ) → reply b e c z ≡ Ok q → posted b e c z ≡ with_pair b e c q
  unfolding posted
  posted_done q h = ap (settle b e c) h

  -- what an accepted post tells
  pub done_facts : (q : ℤ) → reply b e c z ≡ Ok q → (inside b e c ≡ true) × (small (b.at e c +ℤ z) ≡ true) × (q ≡ b.at e c +ℤ z)
  unfolding reply
  done_facts q h = (grind arith, grind arith, grind arith)

-- ---- sums
-- a quantity is the same after it was stored
pub stored : (z : ℤ) → nat_abs z ≤ quantity_bound → to_z w64 (of_z w64 z) ≡ z
stored z h = omega (arith, ints)

-- what `summed` says of values as they are passed, it says of the values
pub heard : (q z : ℤ) → SFits w64 q → SFits w64 z → (x : Result ℤ Refusal) → x ≡ sum_of (to_z w64 (of_z w64 q)) (to_z w64 (of_z w64 z)) → x ≡ sum_of q z
heard q z f g x h = h ∙ ap₂ sum_of (to_z-of_z w64 q f) (to_z-of_z w64 z g)

pub summed_ok : (q z r : ℤ) → Ok r ≡ sum_of q z → (small (q +ℤ z) ≡ true) × (r ≡ q +ℤ z)
summed_ok q z r h = grind arith

pub summed_err : (q z : ℤ) (x : Refusal) → Err x ≡ sum_of q z → (small (q +ℤ z) ≡ false) × (x ≡ Size)
summed_err q z x h = grind arith
