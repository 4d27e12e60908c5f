-- What the marks of an entity are worth, by its reading: net, long and short.
use Rattle.std.specs.Prelude.{ℕ, ◌*◌, Bool, cond, ◌||◌, List, ℤ, pos, nat_lt, slice_index_or}
use Rattle.terms.specs.declared.mark.Mark.{Mark}
use Rattle.terms.specs.declared.mark.Mark.TheVariants.{NetLong, NetShort, GrossLong, GrossShort}
use Rattle.reading.specs.Readings.{up, down, reading_of}
use Rattle.index.specs.Bounds.{value_most}

-- net long is net, or 0 if negative; net short the size of net, or 0 if positive; gross long and gross short are long and short
abbrev pub size_for : ℤ × ℤ × ℤ → Mark → ℕ
size_for r NetLong = up r.0
size_for r NetShort = down r.0
size_for r GrossLong = up r.1
size_for r GrossShort = up r.2

-- a mark's value at a price
abbrev pub value_for : ℤ × ℤ × ℤ → ℕ → Mark → ℕ
value_for r price mark = size_for r mark * price

-- long or short is worth more than value_most
abbrev pub is_too_large : ℤ × ℤ × ℤ → ℕ → Bool
is_too_large r price = nat_lt value_most (value_for r price GrossLong) || nat_lt value_most (value_for r price GrossShort)

-- net, long and short of each entity in a table
abbrev pub reading_in : List (ℤ × ℤ × ℤ) → ℕ → ℤ × ℤ × ℤ
reading_in table e = slice_index_or table e (pos 0, pos 0, pos 0)

-- net, long and short of each of the first n entities, and zero for all others; by what a unit of each contract weighs, and quantities
abbrev pub readings_below : ℕ → (ℕ → ℤ) → (ℕ → ℕ → ℤ) → ℕ → ℤ × ℤ × ℤ
readings_below n w q e = cond (nat_lt e n) (reading_of w q e) (pos 0, pos 0, pos 0)
