-- What stands between calls.
use Rattle.std.specs.Prelude.{ℕ, Bool, false, cond, ℤ, pos, None, Option, ◌==◌}
use Rattle.terms.specs.declared.command.Trade.{Trade}
use Rattle.terms.specs.declared.mark.Mark.{Mark}
use Rattle.book.specs.Holding.{Holding}
use Rattle.index.specs.declared.day.Day.{Day}
use Rattle.index.specs.declared.mark.MarkRow.{MarkRow}
use Rattle.index.specs.Days.{no_day}
use Rattle.index.specs.Marks.{no_row}
use Rattle.model.specs.Opening.{Opening, Terms, terms_of}

-- a quantity for each entity and contract
abbrev pub Quantities : Type 0
Quantities = ℕ → ℕ → ℤ

-- a stock: its market-wide limit once it is set, whether it is in a ban, and each entity's violated quantity and charge
-- of its last close
pub record Stock : Type 0 where
  pub limit : Option ℕ
  pub ban : Bool
  pub violated : ℕ → ℕ
  pub charge : ℕ → ℕ

-- all that no opening limit and no cover touches: the book, the base quantities, the open tickets by number, the indices'
-- days and the stocks by underlying
pub record Ledger : Type 0 where
  pub book : Holding
  pub base : Quantities
  pub tickets : ℕ → Option Trade
  pub days : ℕ → Day
  pub stocks : ℕ → Stock

-- a row for each index, entity and mark
abbrev pub Marks : Type 0
Marks = ℕ → ℕ → Mark → MarkRow

-- a monitor
pub record State : Type 0 where
  pub terms : Terms
  pub ledger : Ledger
  pub marks : Marks

-- ---- a new monitor: no bans, marks or tickets, and every base quantity at zero

-- a stock with no limit and no ban
abbrev pub no_stock : Stock
no_stock = record { limit = None; ban = false; violated = λ e. 0; charge = λ e. 0 }

-- the ledger over a book
abbrev pub new_ledger : Holding → Ledger
new_ledger b = record { book = b; base = λ e c. pos 0; tickets = λ k. None; days = λ u. no_day; stocks = λ u. no_stock }

-- the monitor that an opening makes
abbrev pub opened : Opening → State
opened o = record { terms = terms_of o; ledger = new_ledger o.book; marks = λ u e m. no_row }

-- ---- changes

-- the function that is a at k, and else as before
abbrev pub at : {A : Type 0} → ℕ → A → (ℕ → A) → ℕ → A
at k a f j = cond (j == k) a (f j)

-- the ledger with another book
abbrev pub with_book : Ledger → Holding → Ledger
with_book s b = record { book = b; base = s.base; tickets = s.tickets; days = s.days; stocks = s.stocks }

-- the ledger with another trade, or none, on a ticket
abbrev pub with_ticket : Ledger → ℕ → Option Trade → Ledger
with_ticket s k d = record { book = s.book; base = s.base; tickets = at k d s.tickets; days = s.days; stocks = s.stocks }

-- the ledger with another day of an index
abbrev pub with_day : Ledger → ℕ → Day → Ledger
with_day s u day = record { book = s.book; base = s.base; tickets = s.tickets; days = at u day s.days; stocks = s.stocks }
