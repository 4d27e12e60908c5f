-- The four marks and the side of each.
use Rattle.std.specs.Prelude.{List, [], ◌∷◌}
use Rattle.terms.specs.declared.mark.Mark.{Mark}
use Rattle.terms.specs.declared.mark.Mark.TheVariants.{NetLong, NetShort, GrossLong, GrossShort}
use Rattle.terms.specs.declared.mark.Side.{Side}
use Rattle.terms.specs.declared.mark.Side.TheVariants.{Long, Short}

-- all four, in the order in which they are gone through
abbrev pub all_marks : List Mark
all_marks = NetLong ∷ NetShort ∷ GrossLong ∷ GrossShort ∷ []

-- the side whose cover counts
abbrev pub side_of : Mark → Side
side_of NetLong = Long
side_of NetShort = Short
side_of GrossLong = Long
side_of GrossShort = Short
