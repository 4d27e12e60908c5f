-- The final breaches that a settlement kept, and what a report of them writes.
use Rattle.std.specs.Prelude.{◌≡◌, ℕ, ◌<◌, cond, nat_le, List, ◌++◌, length, drop, All, AllPairs, Contains, Some, Result, Ok, Err}
use Rattle.terms.specs.declared.mark.Mark.{Mark}
use Rattle.terms.specs.declared.refusal.Refusal.{Refusal}
use Rattle.terms.specs.declared.refusal.Refusal.TheVariants.{Full}
use Rattle.index.specs.declared.mark.MarkRow.{MarkRow}
use Rattle.index.specs.declared.report.Breach.{Breach}

-- a breach is kept by one of the first n entities, with its value
pub record IsKept (n : ℕ) (rows : ℕ → Mark → MarkRow) (b : Breach) : Type 0 where
  pub within : b.entity < n
  pub value : (rows b.entity b.mark).kept ≡ Some b.largest

-- two breaches are not of one mark of one entity
abbrev pub AreApart : Breach → Breach → Type 0
AreApart b c = b.entity ≡ c.entity → b.mark ≡ c.mark → ⊥

-- a list names exactly the breaches with a property, each once, in any order
pub record Names (P : Breach → Type 0) (list : List Breach) : Type 0 where
  -- what it names has the property
  pub named : All P list
  -- what has the property it names
  pub whole : (b : Breach) → P b → Contains list b
  -- it names no mark of an entity twice
  pub once : AllPairs AreApart list

-- what a report of the kept breaches of the first n entities answers, and what it makes of the rows old
pub record Written (n : ℕ) (rows : ℕ → Mark → MarkRow) (old : List Breach) (answer : Result ℕ Refusal) (new : List Breach) : Type 0 where
  -- the order of the breaches is left free
  pub order : List Breach
  pub names : Names (IsKept n rows) order
  -- it answers how many they are, FULL where the rows are fewer
  pub told : answer ≡ cond (nat_le (length order) (length old)) (Ok (length order)) (Err Full)
  -- the first rows are these and later ones stay; at FULL all stay
  pub leaves : new ≡ cond (nat_le (length order) (length old)) (order ++ drop (length order) old) old
