-- The forms of a line. The first fault of a line is told, in this order: bytes that are no text; the words that name the form, which are
-- the first one and, behind `book` and `ask`, the second; the number of the others; and each of these from left to right.
use Rattle.std.specs.Prelude.{ℕ, ◌-◌, ◌*◌, cond, take, drop, List, [], ◌∷◌, length, ℤ, Some, None, Ok, Err, codes, Option, Result, ◌==◌, nat_le}
use Rattle.terms.specs.declared.command.Command.TheVariants as command
use Rattle.text.specs.Words.{is_text, words_of, count_before}
use Rattle.text.specs.Worded.{unsigned_of}
use Rattle.journal.specs.Bounds.{book_side, book_places, report_rows}
use Rattle.journal.specs.Names.{name_in, verbs, topics, layouts, underlyings, kinds, makes, classes, covers, marks}
use Rattle.journal.specs.Said.{row_of, Sourced, Asked, quantity, base, limit, ban, violated, charge, notional, reading, mark, Said, blank, declare, call, set_limit, close, snapshot, cure, cash, holding, settle, report, ask}
use Rattle.journal.specs.Taken.{then, result_map, counted, beyond, begins, numeral, unsigned_numeral, next_by, next_up_to, all_read}
use Rattle.replies.specs.declared.fault.Fault.{Fault}
use Rattle.replies.specs.declared.fault.Fault.TheVariants.{NotText, OutOfRange}
use Rattle.journal.specs.declared.line.Declaration.TheVariants as declaration
use Rattle.journal.specs.declared.line.Layout.{Layout}
use Rattle.journal.specs.declared.line.Layout.TheVariants as layout
use Rattle.journal.specs.declared.names.Verb.{Verb}
use Rattle.journal.specs.declared.names.Verb.TheVariants as verb
use Rattle.journal.specs.declared.names.Topic.{Topic}
use Rattle.journal.specs.declared.names.Topic.TheVariants as topic

-- what the words behind a name say
abbrev pub Form : Type 0 → Type 0
Form X = List (List ℕ) → Result X Fault

-- exactly n words
abbrev pub exact : {X : Type 0} → ℕ → Form X → Form X
exact n f ws = then (counted n ws) (λ _. f ws)

-- the next word, read by g, and then what f says
abbrev pub taken : {X Y : Type 0} → (List ℕ → Result X Fault) → (X → Form Y) → Form Y
taken g f ws = then (next_by g ws) (λ x. f x (drop 1 ws))

-- a number
abbrev pub signed : {X : Type 0} → (ℤ → Form X) → Form X
signed = taken numeral

-- an unsigned number
abbrev pub index : {X : Type 0} → (ℕ → Form X) → Form X
index = taken unsigned_numeral

-- a word of a table
abbrev pub kind_in : {X Y : Type 0} → List (List ℕ × X) → (X → Form Y) → Form Y
kind_in rows = taken (name_in rows)

-- a number from 0 to most, and then what f says
abbrev pub up_to : {X : Type 0} → ℕ → (ℕ → Form X) → Form X
up_to most f ws = then (next_up_to most ws) (λ n. f n (drop 1 ws))

-- at least n words, and f is told how many there are beyond them
abbrev pub at_least : {X : Type 0} → ℕ → (ℕ → Form X) → Form X
at_least n f ws = then (beyond n (length ws)) (λ more. f more ws)

-- at least n words before the word `/`, and m from it on, and f is told how many there are beyond these
abbrev pub around : {X : Type 0} → ℕ → ℕ → (ℕ → ℕ → Form X) → Form X
around n m f ws =
    then (beyond n (count_before (codes "/") ws)) (λ before.
    then (beyond m (length ws - count_before (codes "/") ws)) (λ behind. f before behind ws))

-- n words, each read by g, and then what f says of their values
abbrev pub many : {X Y : Type 0} → ℕ → (List ℕ → Option X) → (List X → Form Y) → Form Y
many n g f ws = then (all_read g (take n ws)) (λ xs. f xs (drop n ws))

-- a word that is known already, and then what f says
abbrev pub passing : {X : Type 0} → Form X → Form X
passing f ws = f (drop 1 ws)

-- all is said
abbrev pub says : {X : Type 0} → X → Form X
says x ws = Ok x

-- ENTITIES CONTRACTS PLACES
abbrev pub placed : Layout → Form Said
placed l =
    exact 3 (up_to book_side (λ entities. up_to book_side (λ contracts. up_to book_places (λ places.
    says (declare (declaration.Book (record { layout = l; entities = entities; contracts = contracts; places = places })))))))

-- ENTITIES CONTRACTS, with a place for every pair
abbrev pub full : Layout → Form Said
full l =
    up_to book_side (λ entities. up_to book_side (λ contracts ws.
    cond (nat_le (entities * contracts) book_places)
    (Ok (declare (declaration.Book (record { layout = l; entities = entities; contracts = contracts; places = entities * contracts }))))
    (Err OutOfRange)))

-- the words behind `book grid` and `book list`
abbrev pub book_form : Layout → Form Said
book_form layout.Grid ws = cond (length ws == 2) (full layout.Grid ws) (placed layout.Grid ws)
book_form layout.List ws = placed layout.List ws

-- MAKE MINUTE PRICE and n rows
abbrev pub source_form : ℕ → Form Sourced
source_form n =
    kind_in makes (λ make. index (λ minute. index (λ price. many n row_of (λ rows.
    says (record { make = make; minute = minute; price = price; rows = rows })))))

-- a source with n rows, and then what f says
abbrev pub source : {X : Type 0} → ℕ → (Sourced → Form X) → Form X
source n f ws = then (source_form n ws) (λ s. f s (drop n (drop 3 ws)))

-- an unsigned number and no more
abbrev pub one_number : Form ℕ
one_number = exact 1 (index says)

-- two unsigned numbers and no more
abbrev pub two_numbers : Form (ℕ × ℕ)
two_numbers = exact 2 (index (λ a. index (λ b. says (a, b))))

-- UNDERLYING notional
abbrev pub to_notional : Form Asked
to_notional = exact 2 (index (λ underlying. says (reading underlying None)))

-- UNDERLYING SOURCE
abbrev pub one_source : Form (ℕ × Sourced)
one_source = at_least 4 (λ rows. index (λ underlying. source rows (λ s. says (underlying, s))))

-- UNDERLYING ENTITY MARK
abbrev pub one_mark : Form Asked
one_mark = exact 3 (index (λ underlying. index (λ entity. kind_in marks (λ which. says (mark underlying entity which)))))

-- the words behind `ask quantity` and the other questions
abbrev pub ask_form : Topic → Form Asked
ask_form topic.Quantity ws = result_map (λ p. quantity p.0 p.1) (two_numbers ws)
ask_form topic.Base ws = result_map (λ p. base p.0 p.1) (two_numbers ws)
ask_form topic.Limit ws = result_map limit (one_number ws)
ask_form topic.Ban ws = result_map ban (one_number ws)
ask_form topic.Violated ws = result_map (λ p. violated p.0 p.1) (two_numbers ws)
ask_form topic.Charge ws = result_map (λ p. charge p.0 p.1) (two_numbers ws)
ask_form topic.Notional ws = result_map notional (one_number ws)
ask_form topic.Reading ws = cond (begins (codes "notional") (drop 1 ws)) (to_notional ws) (result_map (λ p. reading p.0 (Some p.1)) (one_source ws))
ask_form topic.Mark ws = one_mark ws

-- the words behind the first one
abbrev pub form_of : Verb → Form Said
form_of verb.Book = kind_in layouts book_form
form_of verb.Underlying = exact 1 (kind_in underlyings (λ underlying. says (declare (declaration.Underlying underlying))))
form_of verb.Contract =
    exact 2 (index (λ underlying. kind_in kinds (λ kind.
    says (declare (declaration.Contract (record { underlying = underlying; kind = kind }))))))
form_of verb.Limits = exact 2 (index (λ net. index (λ gross. says (declare (declaration.Limits (record { net = net; gross = gross }))))))
form_of verb.Open = exact 0 (says (declare declaration.Open))
form_of verb.Post = exact 3 (index (λ entity. index (λ contract. signed (λ change. says (call (command.Post entity contract change))))))
form_of verb.Entry =
    exact 5 (index (λ ticket. index (λ member. index (λ participant. index (λ contract. signed (λ change.
    says (call (command.Entry ticket (record { member = member; participant = participant; contract = contract; change = change })))))))))
form_of verb.Confirm = exact 1 (index (λ ticket. says (call (command.Confirm ticket))))
form_of verb.Ask = λ ws. result_map ask (kind_in topics ask_form ws)
form_of verb.Limit =
    at_least 2 (λ days. index (λ underlying. index (λ free_float. many days unsigned_of (λ deliveries.
    says (set_limit underlying free_float deliveries)))))
form_of verb.Close =
    around 4 4 (λ before behind. index (λ underlying. source before (λ two. passing (source behind (λ closing.
    says (close underlying two closing))))))
form_of verb.Snapshot = λ ws. result_map (λ p. snapshot p.0 p.1) (one_source ws)
form_of verb.Cure = λ ws. result_map (λ p. cure p.0 p.1) (one_source ws)
form_of verb.Cash = exact 3 (index (λ entity. index (λ underlying. index (λ amount. says (cash entity underlying amount)))))
form_of verb.Holding =
    exact 4 (index (λ entity. kind_in classes (λ class. index (λ quantity. index (λ price.
    says (holding (record { entity = entity; class = class; quantity = quantity; price = price })))))))
form_of verb.Settle = exact 2 (index (λ underlying. kind_in covers (λ cover. says (settle underlying cover))))
form_of verb.Report = exact 2 (index (λ underlying. up_to report_rows (λ rows. says (report underlying rows))))

-- a line's words
abbrev pub read_words : Form Said
read_words [] = Ok blank
read_words (w ∷ ws) = then (name_in verbs w) (λ v. form_of v ws)

-- a line's bytes
abbrev pub read_line : List ℕ → Result Said Fault
read_line line = cond (is_text line) (read_words (words_of line)) (Err NotText)
