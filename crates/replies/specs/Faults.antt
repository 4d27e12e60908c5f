-- Why a line is malformed.
use Rattle.std.specs.Prelude.{ℕ, List, codes}
use Rattle.replies.specs.declared.fault.Fault.{Fault}
use Rattle.replies.specs.declared.fault.Fault.TheVariants.{NotText, UnknownWord, WordCount, NotNumber, OutOfRange, TooMany, AfterOpen, Twice, NothingToOpen, NotOpened}

-- the reason that is printed
abbrev pub reason_of : Fault → List ℕ
reason_of NotText = codes "not text"
reason_of UnknownWord = codes "unknown word"
reason_of WordCount = codes "wrong number of words"
reason_of NotNumber = codes "not a number of 64 signed bits"
reason_of OutOfRange = codes "number out of range"
reason_of TooMany = codes "too many declared"
reason_of AfterOpen = codes "opening line after open"
reason_of Twice = codes "declared already"
reason_of NothingToOpen = codes "book and limits come before open"
reason_of NotOpened = codes "nothing is open yet"
