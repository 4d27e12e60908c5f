-- What cash covers, by the table of its reports.
use Rattle.std.specs.Prelude.{ℕ, ◌+◌, ◌*◌, ◌≤◌, Bool, cond, ◌&&◌, ◌==◌, nat_le, nat_lt, Some, None, Ok, Err, Option, unwrap_or}
use Rattle.terms.specs.Bounds.{amount_bound, most_entities, most_underlyings}
use Rattle.terms.specs.declared.mark.Side.TheVariants.{Long, Short}
use Rattle.terms.specs.Causes.{Verdict, verdict_of}
use Rattle.terms.specs.declared.refusal.Refusal.TheVariants.{Input}
use Rattle.book.specs.Tables.{Table, value_of, put_reply, putted}
use Rattle.cover.specs.Covers.{Amounts}

-- a monitor can watch an entity on an underlying
abbrev pub is_watched : ℕ → ℕ → Bool
is_watched entity underlying = nat_lt entity most_entities && nat_lt underlying most_underlyings

-- the number of such a pair, row by row: its reports have this key
abbrev pub key_of : ℕ → ℕ → ℕ
key_of entity underlying = entity * most_underlyings + underlying

-- the amount that is reported of a pair, or none
abbrev pub report_of : Table ℕ → ℕ → ℕ → Option ℕ
report_of t entity underlying = cond (is_watched entity underlying) (value_of t (key_of entity underlying)) None

-- a report is in range: its pair can be watched, and its amount is not too large
abbrev pub is_in_range : ℕ → ℕ → ℕ → Bool
is_in_range entity underlying amount = is_watched entity underlying && nat_le amount amount_bound

-- what a report answers: INPUT where it is out of range, FULL where it is of a new pair and there is no place left
abbrev pub report_reply : Table ℕ → ℕ → ℕ → ℕ → Verdict
report_reply t entity underlying amount =
    cond (is_in_range entity underlying amount) (verdict_of (put_reply t (key_of entity underlying))) (Err Input)

-- what a report leaves
abbrev pub reported : Table ℕ → ℕ → ℕ → ℕ → Table ℕ
reported t entity underlying amount =
    cond (is_in_range entity underlying amount) (putted t (key_of entity underlying) amount) t

-- what is reported of each pair once a report is answered: its own pair has the amount, and a declined one changes nothing
abbrev pub noted : Verdict → (ℕ → ℕ → Option ℕ) → ℕ → ℕ → ℕ → ℕ → ℕ → Option ℕ
noted (Ok _) f entity underlying amount i j = cond (i == entity && j == underlying) (Some amount) (f i j)
noted (Err why) f entity underlying amount i j = f i j

-- no amount that is kept is too large
abbrev pub Small : Table ℕ → Type 0
Small t = (key : ℕ) → unwrap_or (value_of t key) 0 ≤ amount_bound

-- what cash covers: the long side by what is reported of the pair, 0 where nothing is, and no short side
abbrev pub paid : Table ℕ → Amounts
paid t entity underlying Long = unwrap_or (report_of t entity underlying) 0
paid t entity underlying Short = 0
