-- The refusal table: each cause with its number and its name, in the order in which causes are looked at; which of them a
-- call has is said with the call.
use Rattle.std.specs.Prelude.{ℕ, List, [], ◌++◌, codes, decimal}
use Rattle.terms.specs.declared.refusal.Refusal.{Refusal}
use Rattle.terms.specs.declared.refusal.Refusal.TheVariants.{Closed, Underlying, Kind, Unset, Turn, Time, Price, Delta, Value, ShortDay, Input, Ticket, Pair, Size, Full}

-- the number of each cause
abbrev pub number_of : Refusal → ℕ
number_of Closed = 10
number_of Underlying = 1
number_of Kind = 2
number_of Unset = 9
number_of Turn = 3
number_of Time = 4
number_of Price = 5
number_of (Delta contract entity) = 6
number_of (Value entity) = 7
number_of ShortDay = 8
number_of Input = 15
number_of Ticket = 14
number_of Pair = 11
number_of Size = 12
number_of Full = 13

-- the name of each cause
abbrev pub name_of : Refusal → List ℕ
name_of Closed = codes "CLOSED"
name_of Underlying = codes "UNDERLYING"
name_of Kind = codes "KIND"
name_of Unset = codes "UNSET"
name_of Turn = codes "TURN"
name_of Time = codes "TIME"
name_of Price = codes "PRICE"
name_of (Delta contract entity) = codes "DELTA"
name_of (Value entity) = codes "VALUE"
name_of ShortDay = codes "SHORT-DAY"
name_of Input = codes "INPUT"
name_of Ticket = codes "TICKET"
name_of Pair = codes "PAIR"
name_of Size = codes "SIZE"
name_of Full = codes "FULL"

-- whom a cause names
abbrev pub whom_of : Refusal → List ℕ
whom_of (Delta contract entity) = codes " contract " ++ (decimal contract ++ (codes " entity " ++ decimal entity))
whom_of (Value entity) = codes " entity " ++ decimal entity
whom_of other = []

-- what is printed of a cause: its number, its name and whom it names
abbrev pub text_of : Refusal → List ℕ
text_of refusal = decimal (number_of refusal) ++ (codes " " ++ (name_of refusal ++ whom_of refusal))
