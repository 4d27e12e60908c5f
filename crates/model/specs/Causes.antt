-- The causes that calls have in common, and what a call answers.
use Rattle.std.specs.Prelude.{ℕ, Bool, cond, not, List, [], ◌∷◌, ℤ, pos, Some, None, Ok, Err, Option, Result}
use Rattle.terms.specs.declared.kind.Underlying.{Underlying as Sort}
use Rattle.terms.specs.declared.refusal.Refusal.{Refusal}
use Rattle.terms.specs.declared.refusal.Refusal.TheVariants.{Underlying, Kind, Delta, Value}
use Rattle.terms.specs.Causes.{Verdict}
use Rattle.model.specs.Opening.{Listing, is_listed, is_kind_at}

-- what a call answers: a number, or why it was declined
abbrev pub Answer : Type 0
Answer = Result ℤ Refusal

-- DELTA with the first contract that lacks a needed delta and the first entity that needs it, and otherwise as given
abbrev pub unless_missing : Option (ℕ × ℕ) → Verdict → Verdict
unless_missing None v = v
unless_missing (Some told) v = Err (Delta told.0 told.1)

-- VALUE with the first entity whose long or short is worth too much, and otherwise as given
abbrev pub unless_too_large : Option ℕ → Verdict → Verdict
unless_too_large None v = v
unless_too_large (Some entity) v = Err (Value entity)

-- UNDERLYING, then KIND, for a call on an underlying of one kind
abbrev pub kind_table : Listing → Sort → ℕ → List (Bool × Refusal)
kind_table l kind u = (not (is_listed l.underlyings u), Underlying) ∷ (not (is_kind_at l.underlyings kind u), Kind) ∷ []

-- the number answered, 0 where there is none
abbrev pub number_in : Answer → ℤ
number_in (Ok n) = n
number_in (Err why) = pos 0

-- why it was declined, if it was
abbrev pub cause_in : {A : Type 0} → Result A Refusal → Option Refusal
cause_in (Ok a) = None
cause_in (Err why) = Some why
