-- The deltas of a sheet that is made.
use Rattle.std.proofs.Common.{is_none, ◌≡◌, ℕ, zero, suc, ◌+◌, ◌<◌, ◌≤◌, List, get_or, ℤ, pos, nat_abs, Some, None, Option, sym, ◌∙◌, subst, ⊎_elim, inl, inr, arith}
use mathlib.Core.Path.{fun_ext}
use denote.Param.Members.{Mut}
use Rattle.std.specs.Array.{IsFromFnResult, IsFromFnResultFrom}
use Rattle.std.specs.Iterator.{ActsAs}
use Rattle.std.proofs.lemmas.List.{get_or_past}
use Rattle.std.proofs.lemmas.Bool.{cases_lt, cases_eq, cond_both}
use Rattle.std.proofs.lemmas.Bool.Decides.{nat_tests}
use Rattle.terms.specs.Bounds.{most_contracts}
use Rattle.terms.specs.declared.kind.Contract.{Contract}
use Rattle.terms.specs.declared.kind.Kind.{Kind}
use Rattle.delta.specs.Sources.{delta_bound, Lawful}
use Rattle.delta.proofs.Sizes.{in_range_size}
use Rattle.book.specs.Holding.{or_zero}
use Rattle.reading.specs.Sheets.{contract_at, within, delta_at, weight_of, lacks_delta, delta_in}

-- an array of the answers of f, which always answers as v does
module _ {F A : Type 0} {g : Mut F (ℕ × Unit {0}) A} {f : F} (v : ℕ → A) (acts : ActsAs g f v) where
  each : (xs : List A) (n i : ℕ) → IsFromFnResultFrom g f xs i n → (x : A) (k : ℕ) → i ≤ k → k < i + n → get_or xs k x ≡ v k
  each xs zero i h x k l m = absurd (omega arith)
  each xs (suc n) i (q, y, at, called, later) x k l m =
      elim (cases_eq k i) [
        | inl e ↦ rw e (at.1 x ∙ (acts i y q called).1)
        | inr e ↦
            let rest = subst (λ p. IsFromFnResultFrom g p xs (i + 1) n) (acts i y q called).0 later in
            each xs n (i + 1) rest x k (omega arith) (omega arith)
      ]

  pub item : (xs : List A) (n : ℕ) → IsFromFnResult g f xs n → (x : A) (k : ℕ) → k < n → get_or xs k x ≡ v k
  item xs n h x k l = each xs n 0 h.each x k (omega arith) (omega arith)

  -- which is v, where v has x from the end on
  pub filled : (xs : List A) (n : ℕ) → IsFromFnResult g f xs n → (x : A) → ((k : ℕ) → n ≤ k → v k ≡ x) → (λ k. get_or xs k x) ≡ v
  filled xs n h x past =
      fun_ext (λ k.
      ⊎_elim
      (λ l. item xs n h x k l)
      (λ l. get_or_past xs k x (omega (arith, h.long)) ∙ sym (past k l))
      (cases_lt k n))

module _ (cs : List Contract) (u : ℕ) (d : ℕ → Kind → Option ℤ) where
  -- past the most contracts, nothing weighs anything
  pub weightless : (k : ℕ) → most_contracts ≤ k → delta_in cs u d k ≡ Some (pos 0)
  weightless k l = grind (arith, nat_tests)

  zero_small : (kind : Kind) (o : Option ℤ) → Lawful kind o → nat_abs (or_zero o) ≤ delta_bound
  zero_small kind None h = omega arith
  zero_small kind (Some z) h = in_range_size kind z h

  -- no contract weighs more than a whole unit
  pub delta_small : ((c : ℕ) (kind : Kind) → Lawful kind (d c kind)) → (c : ℕ) → nat_abs (or_zero (delta_in cs u d c)) ≤ delta_bound
  delta_small lawful c =
      cond_both (within cs u c) (delta_at cs d c) (Some (pos 0)) (λ o. nat_abs (or_zero o) ≤ delta_bound)
      (λ _. zero_small (contract_at cs c).kind (delta_at cs d c) (lawful c (contract_at cs c).kind))
      (λ _. omega arith)

  -- what its deltas weigh, and which lack
  pub weights : (λ c. or_zero (delta_in cs u d c)) ≡ weight_of cs u d
  weights = fun_ext (λ c. grind arith)

  pub lacks : (λ c. is_none (delta_in cs u d c)) ≡ lacks_delta cs u d
  lacks = fun_ext (λ c. grind arith)
