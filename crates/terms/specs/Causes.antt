-- How anything is declined: a table of causes in order, of which the first that holds counts.
use Rattle.std.specs.Prelude.{Bool, cond, List, [], ◌∷◌, Ok, Err, Result}
use Rattle.terms.specs.declared.refusal.Refusal.{Refusal}

-- declined for the first cause that holds, and otherwise as given
abbrev pub unless : {A : Type 0} → List (Bool × Refusal) → Result A Refusal → Result A Refusal
unless [] answer = answer
unless ((holds, why) ∷ more) answer = cond holds (Err why) (unless more answer)

-- whether something is let through, and if not why
abbrev pub Verdict : Type 0
Verdict = Result (Unit {0}) Refusal

-- what a table alone decides
abbrev pub checked : List (Bool × Refusal) → Verdict
checked causes = unless causes (Ok tt)

-- let through if and only if there is a result
abbrev pub verdict_of : {A : Type 0} → Result A Refusal → Verdict
verdict_of (Ok a) = Ok tt
verdict_of (Err why) = Err why
