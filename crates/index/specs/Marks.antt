-- The four marks of an entity on an index's day, and what a snapshot, a cure and a settlement make of one.
use Rattle.std.specs.Prelude.{ℕ, ◌+◌, ◌*◌, Bool, false, cond, ◌&&◌, max, nat_lt, Some, None}
use Rattle.terms.specs.declared.limits.Limits.{Limits}
use Rattle.terms.specs.declared.mark.Mark.{Mark}
use Rattle.terms.specs.declared.mark.Mark.TheVariants.{NetLong, NetShort, GrossLong, GrossShort}
use Rattle.index.specs.Bounds.{per_paisa}
use Rattle.index.specs.Days.{one_more}
use Rattle.index.specs.declared.mark.Four.{Four}
use Rattle.index.specs.declared.mark.MarkRow.{MarkRow}

-- a mark that was never over
abbrev pub no_row : MarkRow
no_row = record { sighted = false; count = 0; largest = 0; kept = None }

-- what four things have for each mark
abbrev pub four : {A : Type 0} → Four A → Mark → A
four r NetLong = r.net_long
four r NetShort = r.net_short
four r GrossLong = r.gross_long
four r GrossShort = r.gross_short

-- the same for every mark
abbrev pub four_of : {A : Type 0} → A → Four A
four_of a = record { net_long = a; net_short = a; gross_long = a; gross_short = a }

-- the limit of a mark, in paise
abbrev pub limit_for : Limits → Mark → ℕ
limit_for l NetLong = l.net
limit_for l NetShort = l.net
limit_for l GrossLong = l.gross
limit_for l GrossShort = l.gross

-- a value exceeds an amount of paise
abbrev pub is_over : ℕ → ℕ → Bool
is_over amount value = nat_lt (amount * per_paisa) value

-- a mark made provisional: its count rises by one, up to count_most, and it keeps its largest value
abbrev pub provisional : ℕ → MarkRow → MarkRow
provisional value r = record { sighted = r.sighted; count = one_more r.count; largest = max r.largest value; kept = r.kept }

-- a regular snapshot: a mark that is over is sighted, and one that isn't no more
abbrev pub sighted : Bool → MarkRow → MarkRow
sighted over r = record { sighted = over; count = r.count; largest = r.largest; kept = r.kept }

-- a final snapshot: a mark that is over is made provisional
abbrev pub finished : Bool → ℕ → MarkRow → MarkRow
finished over value r = cond over (provisional value r) r

-- a cure: a mark that is sighted and over is made provisional; none stays sighted
abbrev pub cured : Bool → ℕ → MarkRow → MarkRow
cured over value r = sighted false (finished (r.sighted && over) value r)

-- a mark with a count is final if its largest value exceeds its limit plus the cover of its side
abbrev pub is_final : ℕ → ℕ → MarkRow → Bool
is_final limit cover r = nat_lt 0 r.count && is_over (limit + cover) r.largest

-- a settlement: a final mark's largest value is kept, and the day's figures are cleared
abbrev pub settled : Bool → MarkRow → MarkRow
settled final r = record { sighted = false; count = 0; largest = 0; kept = cond final (Some r.largest) None }
