-- What the code's monitor means: its state in the model.
use Rattle.std.specs.Prelude.{ℕ, false, List, [], None, Option, slice_index_or}
use Rattle.terms.specs.declared.command.Trade.{Trade}
use Rattle.book.specs.Holding.{Holding}
use Rattle.stock.specs.Close.{base_of, violated_in, charge_in}
use Rattle.stock.specs.declared.violation.Violation.{Violation}
use Rattle.index.specs.declared.day.Day.{Day}
use Rattle.index.specs.Days.{no_day}
use Rattle.index.specs.Sweeps.{rows_in}
use Rattle.model.specs.declared.parts.IndexRecord.{IndexRecord}
use Rattle.model.specs.declared.parts.StockRecord.{StockRecord}
use Rattle.model.specs.Opening.{Terms}
use Rattle.model.specs.State.{Stock, Ledger, Marks, State}
use Rattle.monitor.specs.Listed.{terms_in}
use Rattle.monitor.specs.declared.inner.Inner.{Inner}
use Rattle.monitor.specs.declared.state.Monitor.{Monitor}

-- the trade on each ticket
abbrev pub tickets_of : List (Option Trade) → ℕ → Option Trade
tickets_of ts k = slice_index_or ts k None

-- what stands for an index that is not listed
abbrev pub no_index : IndexRecord
no_index = record { day = no_day; marks = [] }

-- what stands for a stock that is not listed
abbrev pub no_record : StockRecord
no_record = record { limit = None; banned = false; violations = [] }

-- the day of each index
abbrev pub days_of : List IndexRecord → ℕ → Day
days_of is u = (slice_index_or is u no_index).day

-- a stock by its record
abbrev pub stock_in : StockRecord → Stock
stock_in k = record { limit = k.limit; ban = k.banned; violated = violated_in k.violations; charge = charge_in k.violations }

-- what a stock's last close found of an entity
abbrev pub violation_of : List StockRecord → ℕ → ℕ → Option Violation
violation_of ks u e = slice_index_or (slice_index_or ks u no_record).violations e None

-- each stock
abbrev pub stocks_of : List StockRecord → ℕ → Stock
stocks_of ks u = stock_in (slice_index_or ks u no_record)

-- the marks of each index
abbrev pub marks_of : List IndexRecord → Marks
marks_of is u = rows_in (slice_index_or is u no_index).marks

-- the ledger, by what the book means
abbrev pub ledger_of : Holding → Inner → Ledger
ledger_of b s = record { book = b; base = base_of s.base.cells; tickets = tickets_of s.tickets; days = days_of s.indices; stocks = stocks_of s.stocks }

-- the state, by the terms and the ledger
abbrev pub state_from : Terms → Holding → Inner → State
state_from t b s = record { terms = t; ledger = ledger_of b s; marks = marks_of s.indices }

-- the monitor, by what its book means
abbrev pub state_of : {B : Type 0} → (B → Holding) → Monitor B → State
state_of held m = state_from (terms_in m.fixed.terms) (held m.book.now) m.inner
