-- Nothing to believe here, only lemmas: no cover is above the bound.
use Rattle.std.specs.Prelude.{ℕ, ◌≤◌, List, None, unwrap_or}
use Rattle.std.proofs.Common.{arith}
use Rattle.std.proofs.lemmas.Bool.{cond_both}
use Rattle.std.specs.List.{sum_by}
use Rattle.terms.specs.Bounds.{amount_bound}
use Rattle.terms.specs.declared.mark.Side.TheVariants.{Long, Short}
use Rattle.book.specs.Tables.{Table, value_of}
use Rattle.cover.specs.declared.depository.DepositoryRow.{DepositoryRow}
use Rattle.either.specs.Either.{either}
use Rattle.either.specs.declared.Either.{Either}
use Rattle.either.specs.declared.Either.TheVariants.{Left, Right}
use Rattle.cover.specs.Covers.{Amounts, Bounded, cut, joint}
use Rattle.cover.specs.Depositories.{deposited, worth_to}
use Rattle.cover.specs.Reports.{is_watched, key_of, paid, Small}

cut_le : (n : ℕ) → cut n ≤ amount_bound
cut_le n = omega arith

-- no cover of a depository is above the bound
pub deposited_bounded : (rows : List DepositoryRow) → Bounded (deposited rows)
deposited_bounded rows entity underlying Long = omega arith
deposited_bounded rows entity underlying Short = cut_le (sum_by (worth_to entity) rows)

-- nor is one of two covers together
pub joint_bounded : (c c' : Amounts) → Bounded (joint c c')
joint_bounded c c' entity underlying side = cut_le _

-- nor is one of cash
pub paid_bounded : (t : Table ℕ) → Small t → Bounded (paid t)
paid_bounded t h entity underlying Long =
    cond_both (is_watched entity underlying) (value_of t (key_of entity underlying)) None (λ o. unwrap_or o 0 ≤ amount_bound)
    (λ _. h (key_of entity underlying)) (λ _. omega arith)
paid_bounded t h entity underlying Short = omega arith

-- nor is one of a cover of one of two makes
pub either_bounded : {A B : Type 0} (a : A → Amounts) (b : B → Amounts) → ((x : A) → Bounded (a x)) → ((y : B) → Bounded (b y)) → (m : Either A B) → Bounded (either a b m)
either_bounded a b p q (Left x) = p x
either_bounded a b p q (Right y) = q y
