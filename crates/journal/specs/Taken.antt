-- The words of a line, taken one by one, each as what it must be.
use Rattle.std.specs.Prelude.{ℕ, ◌-◌, Bool, false, cond, List, [], ◌∷◌, length, ℤ, pos, negsuc, Ok, Err, Option, Result, ◌==◌, nat_le}
use Rattle.std.specs.Option.{ok_or}
use Rattle.std.specs.Str.{bytes_eq}
use Rattle.tails.specs.Tails.{each_of}
use Rattle.text.specs.Numbers.{number_of}
use Rattle.text.specs.Worded.{unsigned_of}
use Rattle.replies.specs.declared.fault.Fault.{Fault}
use Rattle.replies.specs.declared.fault.Fault.TheVariants.{WordCount, NotNumber, OutOfRange}

-- what is done with a value, where there is no fault before it
abbrev pub then : {X Y : Type 0} → Result X Fault → (X → Result Y Fault) → Result Y Fault
then (Ok x) f = f x
then (Err e) f = Err e

-- what f makes of a value, where there is no fault
abbrev pub result_map : {X Y : Type 0} → (X → Y) → Result X Fault → Result Y Fault
result_map f (Ok x) = Ok (f x)
result_map f (Err e) = Err e

-- whether n words are left
abbrev pub counted : ℕ → List (List ℕ) → Result (Unit {0}) Fault
counted n ws = cond (length ws == n) (Ok tt) (Err WordCount)

-- how many words of a number of them are beyond n
abbrev pub beyond : ℕ → ℕ → Result ℕ Fault
beyond n count = cond (nat_le n count) (Ok (count - n)) (Err WordCount)

-- whether the next word is this name
abbrev pub begins : List ℕ → List (List ℕ) → Bool
begins name [] = false
begins name (w ∷ ws) = bytes_eq w name

-- a word as a number
abbrev pub numeral : List ℕ → Result ℤ Fault
numeral w = ok_or (number_of w) NotNumber

-- a word as an unsigned number
abbrev pub unsigned_numeral : List ℕ → Result ℕ Fault
unsigned_numeral w = ok_or (unsigned_of w) NotNumber

-- the next word, read by f
abbrev pub next_by : {X : Type 0} → (List ℕ → Result X Fault) → List (List ℕ) → Result X Fault
next_by f [] = Err WordCount
next_by f (w ∷ ws) = f w

-- a number from 0 to most
abbrev pub ranged : ℕ → ℤ → Result ℕ Fault
ranged most (pos n) = cond (nat_le n most) (Ok n) (Err OutOfRange)
ranged most (negsuc n) = Err OutOfRange

-- the next word as a number from 0 to most
abbrev pub next_up_to : ℕ → List (List ℕ) → Result ℕ Fault
next_up_to most ws = then (next_by numeral ws) (ranged most)

-- the values of all the words, each of which f must read
abbrev pub all_read : {X : Type 0} → (List ℕ → Option X) → List (List ℕ) → Result (List X) Fault
all_read f ws = ok_or (each_of f ws) NotNumber
