-- The report of the final breaches that the last settlement of an index kept.
use Rattle.std.specs.Prelude.{◌≡◌, ℕ, not, nat_le, List, [], ◌∷◌, ◌++◌, length, drop, pos, Ok}
use Rattle.terms.specs.declared.kind.Underlying.TheVariants as kind
use Rattle.terms.specs.declared.refusal.Refusal.TheVariants.{Full}
use Rattle.index.specs.declared.report.Breach.{Breach}
use Rattle.index.specs.Kept.{IsKept, Names}
use Rattle.terms.specs.Causes.{Verdict, unless, checked}
use Rattle.model.specs.Causes.{Answer, kind_table}
use Rattle.model.specs.Opening.{Terms}
use Rattle.model.specs.State.{State}
use Rattle.model.specs.Calls.{closed_table, decided}

-- CLOSED, UNDERLYING, KIND, and FULL where the rows are fewer than the breaches
abbrev pub of_report : Terms → ℕ → ℕ → ℕ → Verdict
of_report t u breaches rows =
    unless (closed_table t) (unless (kind_table t.listing kind.Index u) (checked ((not (nat_le breaches rows), Full) ∷ [])))

-- what a report answers, and what it makes of the rows old; a question, so the monitor stays
pub record Reported (s : State) (u : ℕ) (old : List Breach) (answer : Answer) (new : List Breach) : Type 0 where
  -- the order of the breaches is left free
  pub order : List Breach
  pub names : Names (IsKept s.terms.listing.entities (s.marks u)) order
  -- it answers how many they are; the first rows are these and later ones stay; a declined report changes no row
  pub is :
      (answer, new) ≡ decided (of_report s.terms u (length order) (length old)) (pos (length order)) old (order ++ drop (length order) old)
