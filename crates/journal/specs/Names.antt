-- The words that name something.
use Rattle.std.specs.Prelude.{ℕ, List, [], ◌∷◌, codes, Option, Result, option_map, ok_or, find}
use Rattle.std.specs.Str.{bytes_eq}
use Rattle.cover.specs.declared.depository.Class.{Class}
use Rattle.cover.specs.declared.depository.Class.TheVariants.{Equity, Other}
use Rattle.replies.specs.declared.fault.Fault.{Fault}
use Rattle.replies.specs.declared.fault.Fault.TheVariants.{UnknownWord}
use Rattle.terms.specs.declared.kind.Kind.{Kind}
use Rattle.terms.specs.declared.kind.Kind.TheVariants.{Future, Call, Put}
use Rattle.terms.specs.declared.kind.Underlying.{Underlying}
use Rattle.terms.specs.declared.kind.Underlying.TheVariants.{Index, Stock}
use Rattle.terms.specs.declared.mark.Mark.{Mark}
use Rattle.terms.specs.declared.mark.Mark.TheVariants.{NetLong, NetShort, GrossLong, GrossShort}
use Rattle.journal.specs.declared.line.CoverMake.{CoverMake}
use Rattle.journal.specs.declared.line.CoverMake.TheVariants.{Depository, Cash, Joint}
use Rattle.journal.specs.declared.line.Layout.{Layout}
use Rattle.journal.specs.declared.line.Layout.TheVariants as layout
use Rattle.journal.specs.declared.line.Make.{Make}
use Rattle.journal.specs.declared.line.Make.TheVariants.{Published, Settlement}
use Rattle.journal.specs.declared.names.Topic.{Topic}
use Rattle.journal.specs.declared.names.Topic.TheVariants as topic
use Rattle.journal.specs.declared.names.Verb.{Verb}
use Rattle.journal.specs.declared.names.Verb.TheVariants as verb

-- what a table has for a word
abbrev pub named : {X : Type 0} → List (List ℕ × X) → List ℕ → Option X
named rows w = option_map (λ row. row.1) (find (λ row. bytes_eq w row.0) rows)

-- the same, where a word that the table lacks is a fault
abbrev pub name_in : {X : Type 0} → List (List ℕ × X) → List ℕ → Result X Fault
name_in rows w = ok_or (named rows w) UnknownWord

-- the first word of a line
abbrev pub verbs : List (List ℕ × Verb)
verbs =
    (codes "book", verb.Book)
    ∷ (codes "underlying", verb.Underlying)
    ∷ (codes "contract", verb.Contract)
    ∷ (codes "limits", verb.Limits)
    ∷ (codes "open", verb.Open)
    ∷ (codes "post", verb.Post)
    ∷ (codes "entry", verb.Entry)
    ∷ (codes "confirm", verb.Confirm)
    ∷ (codes "ask", verb.Ask)
    ∷ (codes "limit", verb.Limit)
    ∷ (codes "close", verb.Close)
    ∷ (codes "snapshot", verb.Snapshot)
    ∷ (codes "cure", verb.Cure)
    ∷ (codes "cash", verb.Cash)
    ∷ (codes "holding", verb.Holding)
    ∷ (codes "settle", verb.Settle)
    ∷ (codes "report", verb.Report)
    ∷ []

-- the word behind `ask`
abbrev pub topics : List (List ℕ × Topic)
topics =
    (codes "quantity", topic.Quantity)
    ∷ (codes "base", topic.Base)
    ∷ (codes "limit", topic.Limit)
    ∷ (codes "ban", topic.Ban)
    ∷ (codes "violated", topic.Violated)
    ∷ (codes "charge", topic.Charge)
    ∷ (codes "notional", topic.Notional)
    ∷ (codes "reading", topic.Reading)
    ∷ (codes "mark", topic.Mark)
    ∷ []

-- the word behind `book`
abbrev pub layouts : List (List ℕ × Layout)
layouts = (codes "grid", layout.Grid) ∷ (codes "list", layout.List) ∷ []

-- the word behind `underlying`
abbrev pub underlyings : List (List ℕ × Underlying)
underlyings = (codes "index", Index) ∷ (codes "stock", Stock) ∷ []

-- the last word of `contract`
abbrev pub kinds : List (List ℕ × Kind)
kinds = (codes "future", Future) ∷ (codes "call", Call) ∷ (codes "put", Put) ∷ []

-- the first word of a source
abbrev pub makes : List (List ℕ × Make)
makes = (codes "published", Published) ∷ (codes "settlement", Settlement) ∷ []

-- the second word behind `holding`
abbrev pub classes : List (List ℕ × Class)
classes = (codes "equity", Equity) ∷ (codes "other", Other) ∷ []

-- the last word of `settle`
abbrev pub covers : List (List ℕ × CoverMake)
covers = (codes "depository", Depository) ∷ (codes "cash", Cash) ∷ (codes "joint", Joint) ∷ []

-- the last word of `ask mark`
abbrev pub marks : List (List ℕ × Mark)
marks =
    (codes "net-long", NetLong)
    ∷ (codes "net-short", NetShort)
    ∷ (codes "gross-long", GrossLong)
    ∷ (codes "gross-short", GrossShort)
    ∷ []
