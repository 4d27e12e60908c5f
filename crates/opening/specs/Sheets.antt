-- What is declared before the monitor is open.
use Rattle.std.specs.Prelude.{cond, ◌&&◌, List, [], ◌∷◌, ◌++◌, is_some, Some, None, Ok, Err, Option, Result}
use Rattle.std.specs.Option.{option_and_then, option_map}
use Rattle.terms.specs.declared.kind.Contract.{Contract}
use Rattle.terms.specs.declared.kind.Underlying.{Underlying}
use Rattle.terms.specs.declared.limits.Limits.{Limits}
use Rattle.opening.specs.Bounds.{declared_underlyings, declared_contracts}
use Rattle.opening.specs.Rosters.{room_for}
use Rattle.replies.specs.declared.fault.Fault.{Fault}
use Rattle.replies.specs.declared.fault.Fault.TheVariants.{AfterOpen, Twice, NothingToOpen, NotOpened}
use Rattle.journal.specs.declared.line.Book.{Book}
use Rattle.journal.specs.declared.line.Declaration.{Declaration}
use Rattle.journal.specs.declared.line.Declaration.TheVariants as declaration
use Rattle.opening.specs.declared.opened.Opening.{Opening}

-- what was declared, and what `open` was accepted with; underlyings and contracts are numbered from 0 in this order
pub record Sheet : Type 0 where
  pub book : Option Book
  pub underlyings : List Underlying
  pub contracts : List Contract
  pub limits : Option Limits
  pub opened : Option Opening

-- nothing is declared
abbrev pub empty_sheet : Sheet
empty_sheet = record { book = None; underlyings = []; contracts = []; limits = None; opened = None }

-- the book and the limits are declared once
abbrev pub first : {X : Type 0} → Option X → Result (Unit {0}) Fault
first o = cond (is_some o) (Err Twice) (Ok tt)

-- `open` comes after the book and the limits
abbrev pub ready_to_open : Sheet → Result (Unit {0}) Fault
ready_to_open s = cond (is_some s.book && is_some s.limits) (Ok tt) (Err NothingToOpen)

-- what it opens with
abbrev pub opening_of : Sheet → Option Opening
opening_of s = option_and_then (λ book. option_map (λ limits. record { book = book; limits = limits }) s.limits) s.book

-- what a declaration is answered before `open`
abbrev pub admitted : Sheet → Declaration → Result (Unit {0}) Fault
admitted s (declaration.Book b) = first s.book
admitted s (declaration.Underlying u) = room_for declared_underlyings s.underlyings
admitted s (declaration.Contract c) = room_for declared_contracts s.contracts
admitted s (declaration.Limits l) = first s.limits
admitted s declaration.Open = ready_to_open s

-- after `open` there is no declaration
abbrev pub answered : Sheet → Declaration → Result (Unit {0}) Fault
answered s d = cond (is_some s.opened) (Err AfterOpen) (admitted s d)

-- the sheet with one more declaration
abbrev pub noted : Declaration → Sheet → Sheet
noted (declaration.Book b) s = record { book = Some b; underlyings = s.underlyings; contracts = s.contracts; limits = s.limits; opened = s.opened }
noted (declaration.Underlying u) s = record { book = s.book; underlyings = s.underlyings ++ u ∷ []; contracts = s.contracts; limits = s.limits; opened = s.opened }
noted (declaration.Contract c) s = record { book = s.book; underlyings = s.underlyings; contracts = s.contracts ++ c ∷ []; limits = s.limits; opened = s.opened }
noted (declaration.Limits l) s = record { book = s.book; underlyings = s.underlyings; contracts = s.contracts; limits = Some l; opened = s.opened }
noted declaration.Open s = record { book = s.book; underlyings = s.underlyings; contracts = s.contracts; limits = s.limits; opened = opening_of s }

-- a call or a question comes after `open`
abbrev pub readiness : Sheet → Result (Unit {0}) Fault
readiness s = cond (is_some s.opened) (Ok tt) (Err NotOpened)
