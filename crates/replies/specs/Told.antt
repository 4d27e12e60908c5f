-- What is printed of an answer.
use Rattle.std.specs.Prelude.{ℕ, List, ◌++◌, ℤ, Ok, Err, codes, Result}
use Rattle.std.specs.Fmt.{signed_decimal}
use Rattle.terms.specs.Refusals.{text_of}
use Rattle.terms.specs.declared.refusal.Refusal.{Refusal}

-- `ok` and the answer, or `refused` with the cause's number, its name and whom it names
abbrev pub answer_of : Result ℤ Refusal → List ℕ
answer_of (Ok answer) = codes "ok " ++ signed_decimal answer
answer_of (Err refusal) = codes "refused " ++ text_of refusal
