-- Words in which the examples are written down.
use Rattle.std.specs.Prelude.{◌≡◌, ℕ, Bool, List, ℤ, pos, neg_ℤ, Some, Ok, slice_get}
use Rattle.terms.specs.declared.kind.Contract.{Contract}
use Rattle.terms.specs.declared.kind.Kind.{Kind}
use Rattle.terms.specs.declared.mark.Mark.{Mark}
use Rattle.terms.specs.declared.refusal.Refusal.{Refusal}
use Rattle.delta.specs.Makes.{published}
use Rattle.delta.specs.Sources.{Source}
use Rattle.index.specs.declared.mark.MarkRow.{MarkRow}
use Rattle.model.specs.Runs.{Run, after, answer_at, refusal_at}

-- ---- what is handed in

-- each example has one underlying: an index
abbrev pub index : ℕ
index = 0

-- or a stock
abbrev pub stock : ℕ
stock = 0

-- a contract on it
abbrev pub contract : Kind → Contract
contract kind = record { underlying = 0; kind = kind }

-- a change of a quantity, in units: up
abbrev pub bought : ℕ → ℤ
bought n = pos n

-- and down
abbrev pub sold : ℕ → ℤ
sold n = neg_ℤ (pos n)

-- a crore of rupees, in paise: ten million rupees of 100 paise
abbrev pub crore : ℕ
crore = 1000000000

-- a published source by its minute, its price in paise, and the delta of each contract in ten-thousandths
abbrev pub priced : ℕ → ℕ → List ℤ → Source
priced minute price deltas = published minute price (slice_get deltas)

-- ---- what is found

-- the call at a place answers a number
abbrev pub Answers : Run → ℕ → ℕ → Type 0
Answers r place n = answer_at r place ≡ Some (Ok (pos n))

-- it is declined
abbrev pub Declines : Run → ℕ → Refusal → Type 0
Declines r place why = refusal_at r place ≡ Some why

-- an entity's mark just after it
abbrev pub mark_after : Run → ℕ → ℕ → Mark → MarkRow
mark_after r place entity mark = (after r place).marks index entity mark

-- whether there is a ban just after it
abbrev pub ban_after : Run → ℕ → Bool
ban_after r place = ((after r place).ledger.stocks stock).ban
