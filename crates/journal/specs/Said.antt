-- What a line says, with lists where the code's line has cursors.
use Rattle.std.specs.Prelude.{ℕ, List, ℤ, Option, option_map}
use Rattle.cover.specs.declared.depository.DepositoryRow.{DepositoryRow}
use Rattle.terms.specs.declared.command.Command.{Command}
use Rattle.terms.specs.declared.mark.Mark.{Mark}
use Rattle.tails.specs.Tails.{left_of}
use Rattle.text.specs.Numbers.{number_of}
use Rattle.text.specs.Worded.{unsigned_of, pair_of}
use Rattle.journal.specs.declared.line.CoverMake.{CoverMake}
use Rattle.journal.specs.declared.line.Declaration.{Declaration}
use Rattle.journal.specs.declared.line.Line.{Line}
use Rattle.journal.specs.declared.line.Line.TheVariants as line
use Rattle.journal.specs.declared.line.Make.{Make}
use Rattle.journal.specs.declared.line.Question.{Question}
use Rattle.journal.specs.declared.line.Question.TheVariants as question
use Rattle.journal.specs.declared.line.SourceLine.{SourceLine}

-- a row of a source: a contract and a number
abbrev pub row_of : List ℕ → Option (ℕ × ℤ)
row_of = pair_of unsigned_of number_of

-- a source with its rows
pub record Sourced : Type 0 where
  pub make : Make
  pub minute : ℕ
  pub price : ℕ
  pub rows : List (ℕ × ℤ)

-- a question; one about a reading has its source, or none for notional deltas
pub data Asked : Type 0 where
  quantity : (entity contract : ℕ) → Asked
  base : (entity contract : ℕ) → Asked
  limit : (underlying : ℕ) → Asked
  ban : (underlying : ℕ) → Asked
  violated : (underlying entity : ℕ) → Asked
  charge : (underlying entity : ℕ) → Asked
  notional : (underlying : ℕ) → Asked
  reading : (underlying : ℕ) (source : Option Sourced) → Asked
  mark : (underlying entity : ℕ) (which : Mark) → Asked

-- a line, with all its deliveries and rows
pub data Said : Type 0 where
  blank : Said
  declare : (declaration : Declaration) → Said
  call : (command : Command) → Said
  set_limit : (underlying free_float : ℕ) (deliveries : List ℕ) → Said
  close : (underlying : ℕ) (two closing : Sourced) → Said
  snapshot : (underlying : ℕ) (source : Sourced) → Said
  cure : (underlying : ℕ) (source : Sourced) → Said
  cash : (entity underlying amount : ℕ) → Said
  holding : (row : DepositoryRow) → Said
  settle : (underlying : ℕ) (cover : CoverMake) → Said
  report : (underlying rows : ℕ) → Said
  ask : (question : Asked) → Said

-- the source, with the rows that its cursor gives
abbrev pub sourced : SourceLine → Sourced
sourced s = record { make = s.make; minute = s.minute; price = s.price; rows = left_of row_of s.rows }

-- the question, with the rows that its source's cursor gives
abbrev pub asked : Question → Asked
asked (question.Quantity entity contract) = quantity entity contract
asked (question.Base entity contract) = base entity contract
asked (question.Limit underlying) = limit underlying
asked (question.Ban underlying) = ban underlying
asked (question.Violated underlying entity) = violated underlying entity
asked (question.Charge underlying entity) = charge underlying entity
asked (question.Notional underlying) = notional underlying
asked (question.Reading underlying source) = reading underlying (option_map sourced source)
asked (question.Mark underlying entity which) = mark underlying entity which

-- the line, with the values that its cursors give
abbrev pub said : Line → Said
said line.Blank = blank
said (line.Declare declaration) = declare declaration
said (line.Call command) = call command
said (line.SetLimit underlying free_float deliveries) = set_limit underlying free_float (left_of unsigned_of deliveries)
said (line.Close underlying two closing) = close underlying (sourced two) (sourced closing)
said (line.Snapshot underlying source) = snapshot underlying (sourced source)
said (line.Cure underlying source) = cure underlying (sourced source)
said (line.Cash entity underlying amount) = cash entity underlying amount
said (line.Holding row) = holding row
said (line.Settle underlying cover) = settle underlying cover
said (line.Report underlying rows) = report underlying rows
said (line.Ask question) = ask (asked question)
