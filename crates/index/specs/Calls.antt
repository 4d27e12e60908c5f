-- The calls of an index's day, by what each makes of an entity's mark.
use Rattle.std.specs.Prelude.{ℕ, Bool, ◌&&◌, ℤ}
use Rattle.terms.specs.declared.limits.Limits.{Limits}
use Rattle.terms.specs.declared.mark.Mark.{Mark}
use Rattle.terms.specs.declared.mark.Side.{Side}
use Rattle.terms.specs.Marks.{side_of}
use Rattle.cover.specs.Covers.{Amounts}
use Rattle.index.specs.Marks.{limit_for, is_over, is_final, sighted, finished, cured, settled}
use Rattle.index.specs.Values.{value_for}
use Rattle.index.specs.declared.calls.Rule.{Rule}
use Rattle.index.specs.declared.calls.Rule.TheVariants.{Sight, Finish, Cure}
use Rattle.index.specs.declared.day.Round.{Round}
use Rattle.index.specs.declared.day.Round.TheVariants.{Regular, Final}
use Rattle.index.specs.declared.mark.MarkRow.{MarkRow}

-- a regular snapshot sights, and a final one makes provisional
abbrev pub rule_of : Round → Rule
rule_of Regular = Sight
rule_of Final = Finish

-- an entity's mark is over: its value at a price exceeds its limit; r has the reading of each entity
abbrev pub over_by : Limits → ℕ → (ℕ → ℤ × ℤ × ℤ) → ℕ → Mark → Bool
over_by l price r e m = is_over (limit_for l m) (value_for (r e) price m)

-- what a snapshot or a cure makes of the mark
abbrev pub judged_by : Rule → Limits → ℕ → (ℕ → ℤ × ℤ × ℤ) → ℕ → Mark → MarkRow → MarkRow
judged_by Sight l price r e m row = sighted (over_by l price r e m) row
judged_by Finish l price r e m row = finished (over_by l price r e m) (value_for (r e) price m) row
judged_by Cure l price r e m row = cured (over_by l price r e m) (value_for (r e) price m) row

-- whether the mark was sighted by a regular snapshot, or made provisional by a final one or a cure
abbrev pub told_by : Rule → Limits → ℕ → (ℕ → ℤ × ℤ × ℤ) → ℕ → Mark → MarkRow → Bool
told_by Sight l price r e m row = over_by l price r e m
told_by Finish l price r e m row = over_by l price r e m
told_by Cure l price r e m row = row.sighted && over_by l price r e m

-- what a cover has for each entity and side of one index
abbrev pub cover_in : Amounts → ℕ → ℕ → Side → ℕ
cover_in c u e side = c e u side

-- whether the mark is a final breach at a settlement; c has the cover of each entity and side
abbrev pub final_by : Limits → (ℕ → Side → ℕ) → ℕ → Mark → MarkRow → Bool
final_by l c e m row = is_final (limit_for l m) (c e (side_of m)) row

-- what a settlement makes of the mark
abbrev pub settled_by : Limits → (ℕ → Side → ℕ) → ℕ → Mark → MarkRow → MarkRow
settled_by l c e m row = settled (final_by l c e m row) row
