-- The calls: the causes of refusal in the table's order, the answers, and what an accepted call makes of a monitor.
-- Letters: t terms, l listing, s ledger or state, b book; e entity, c contract, x change, k ticket, d trade of a ticket;
-- u underlying, d and two sources, c cover, f free float, ds deliveries; m mark.
use Rattle.std.specs.Prelude.{ℕ, Bool, false, cond, not, List, [], ◌∷◌, ℤ, pos, is_some, Some, None, Ok, Err, Option, ◌==◌, nat_lt}
use Rattle.terms.specs.Bounds.{ticket_count}
use Rattle.terms.specs.declared.command.Trade.{Trade}
use Rattle.terms.specs.declared.kind.Kind.{Kind}
use Rattle.terms.specs.declared.refusal.Refusal.{Refusal}
use Rattle.terms.specs.declared.refusal.Refusal.TheVariants.{Closed, Ticket, Pair}
use Rattle.book.specs.Holding.{Holding, quantity_of, inside, reply, posted}
use Rattle.delta.specs.Sources.{Source}
use Rattle.cover.specs.Covers.{Amounts}
use Rattle.index.specs.Calls.{rule_of}
use Rattle.index.specs.Marks.{no_row}
use Rattle.index.specs.declared.calls.Rule.TheVariants as rule
use Rattle.index.specs.declared.mark.MarkRow.{MarkRow}
use Rattle.terms.specs.declared.mark.Mark.{Mark}
use Rattle.delta.specs.Makes.{notional}
use Rattle.reading.specs.Sheets.{weight_of, lacks_delta}
use Rattle.reading.specs.Readings.{reading_of, interest, gross}
use Rattle.reading.specs.Missing.{holds, missing}
use Rattle.rules.specs.Limit.{limit_of}
use Rattle.terms.specs.Causes.{Verdict, unless, verdict_of}
use Rattle.model.specs.Causes.{Answer, number_in}
use Rattle.model.specs.Opening.{Listing, Terms, is_open}
use Rattle.model.specs.State.{Ledger, Marks, State, with_book, with_ticket}
use Rattle.model.specs.Custody.{transferred, transfer_reply}
use Rattle.model.specs.Indices.{of_snapshot, of_cure, of_settlement, round_of, snapped_day, cured_at, cleared_day, watched, watched_count, settled_marks, final_count}
use Rattle.model.specs.Stocks.{of_limit, of_close, limit_in, charged_at, closed, limited}

-- a call: all that changes a monitor
pub data Call : Type 0 where
  post : (entity contract : ℕ) (change : ℤ) → Call
  entry : (ticket : ℕ) (trade : Trade) → Call
  confirm : (ticket : ℕ) → Call
  snapshot : (underlying : ℕ) (source : Source) → Call
  cure : (underlying : ℕ) (source : Source) → Call
  settle : (underlying : ℕ) (cover : Amounts) → Call
  set_limit : (underlying free_float : ℕ) (deliveries : List ℕ) → Call
  close : (underlying : ℕ) (two closing : Source) → Call

-- ---- the causes, in the table's order; CLOSED comes before all of them

-- the trade on a ticket; there is none outside the numbers of tickets
abbrev pub ticket_at : Ledger → ℕ → Option Trade
ticket_at s k = cond (nat_lt k ticket_count) (s.tickets k) None

-- entry: TICKET outside the numbers, in use, or with one for both member and participant; PAIR for the participant
abbrev pub entry_table : Ledger → ℕ → Trade → List (Bool × Refusal)
entry_table s k d =
    (not (nat_lt k ticket_count), Ticket)
    ∷ (is_some (s.tickets k), Ticket)
    ∷ ((d.member == d.participant), Ticket)
    ∷ (not (inside s.book d.participant d.contract), Pair)
    ∷ []

-- then the book's causes for the member
abbrev pub of_entry : Ledger → ℕ → Trade → Verdict
of_entry s k d = unless (entry_table s k d) (verdict_of (reply s.book d.member d.contract d.change))

-- confirmation: TICKET outside the numbers or unused; then the first posting's causes, then the second's
abbrev pub of_confirm : Ledger → Option Trade → Verdict
of_confirm s None = Err Ticket
of_confirm s (Some d) = verdict_of (transfer_reply s.book d)

-- the causes of each call, behind CLOSED
abbrev pub of_call : Listing → Ledger → Call → Verdict
of_call l s (post e c x) = verdict_of (reply s.book e c x)
of_call l s (entry k d) = of_entry s k d
of_call l s (confirm k) = of_confirm s (ticket_at s k)
of_call l s (snapshot u d) = of_snapshot l s u d
of_call l s (cure u d) = of_cure l s u d
of_call l s (settle u c) = of_settlement l s u
of_call l s (set_limit u f ds) = of_limit l u f ds
of_call l s (close u two d) = of_close l s u two d

-- CLOSED where the monitor is not open
abbrev pub closed_table : Terms → List (Bool × Refusal)
closed_table t = (not (is_open t), Closed) ∷ []

-- whether a call is let through, and if not why
abbrev pub verdict : Terms → Ledger → Call → Verdict
verdict t s c = unless (closed_table t) (of_call t.listing s c)

-- ---- what an accepted call answers

-- what a confirmation answers, by the trade on its ticket
abbrev pub confirm_reply : Ledger → Option Trade → Answer
confirm_reply s None = Err Ticket
confirm_reply s (Some d) = transfer_reply s.book d

-- the new quantity of the last pair posted; how many marks are sighted or made provisional, or are final breaches;
-- nothing for a limit; how many are charged at a close
abbrev pub number : State → Call → ℤ
number s (post e c x) = number_in (reply s.ledger.book e c x)
number s (entry k d) = number_in (reply s.ledger.book d.member d.contract d.change)
number s (confirm k) = number_in (confirm_reply s.ledger (ticket_at s.ledger k))
number s (snapshot u d) = pos (watched_count (rule_of (round_of d)) s.terms s.ledger.book.at s.marks u d)
number s (cure u d) = pos (watched_count rule.Cure s.terms s.ledger.book.at s.marks u d)
number s (settle u c) = pos (final_count s.terms s.marks u c)
number s (set_limit u f ds) = pos 0
number s (close u two d) = pos (charged_at s.terms.listing s.ledger u two d)

-- ---- what an accepted call makes of the ledger

-- the book after a confirmation, by the trade on its ticket
abbrev pub confirmed : Holding → Option Trade → Holding
confirmed b None = b
confirmed b (Some d) = transferred b d

-- what each call makes of the ledger
abbrev pub effect : Listing → Ledger → Call → Ledger
effect l s (post e c x) = with_book s (posted s.book e c x)
effect l s (entry k d) = with_ticket (with_book s (posted s.book d.member d.contract d.change)) k (Some d)
effect l s (confirm k) = with_ticket (with_book s (confirmed s.book (ticket_at s k))) k None
effect l s (snapshot u d) = snapped_day s u d
effect l s (cure u d) = cured_at s u d
effect l s (settle u c) = cleared_day s u
effect l s (set_limit u f ds) = limited s u (limit_of f ds)
effect l s (close u two d) = closed l s u two d

-- ---- what an accepted call makes of the marks: limits and covers count here, and nowhere else

-- what each call makes of the marks
abbrev pub remarked : State → Call → Marks
remarked s (snapshot u d) = watched (rule_of (round_of d)) s.terms s.ledger.book.at s.marks u d
remarked s (cure u d) = watched rule.Cure s.terms s.ledger.book.at s.marks u d
remarked s (settle u c) = settled_marks s.terms s.marks u c
remarked s other = s.marks

-- ---- a call

-- what an accepted call leaves
abbrev pub done : State → Call → State
done s c = record { terms = s.terms; ledger = effect s.terms.listing s.ledger c; marks = remarked s c }

-- a declined call leaves all as it was
abbrev pub decided : {A : Type 0} → Verdict → ℤ → A → A → Answer × A
decided (Ok ok) n old new = (Ok n, new)
decided (Err why) n old new = (Err why, old)

-- what a call answers, and what it leaves
abbrev pub step : State → Call → Answer × State
step s c = decided (verdict s.terms s.ledger c) (number s c) s (done s c)

-- ---- questions, which change nothing

-- the quantity of a pair; zero where the monitor is not open
abbrev pub quantity_in : State → ℕ → ℕ → ℤ
quantity_in s e c = cond (is_open s.terms) (quantity_of s.ledger.book e c) (pos 0)

-- the base quantity of a pair
abbrev pub base_in : State → ℕ → ℕ → ℤ
base_in s e c = cond (is_open s.terms) (s.ledger.base e c) (pos 0)

-- a question to a monitor that is not open answers zero
abbrev pub if_open : {A : Type 0} → State → A → A → A
if_open s answer zero = cond (is_open s.terms) answer zero

-- a stock's market-wide limit, 0 before it is set
abbrev pub limit_answer : State → ℕ → ℕ
limit_answer s u = if_open s (limit_in (s.ledger.stocks u)) 0

-- whether a stock is in a ban
abbrev pub ban_answer : State → ℕ → Bool
ban_answer s u = if_open s (s.ledger.stocks u).ban false

-- an entity's violated quantity of a stock's last close
abbrev pub violated_answer : State → ℕ → ℕ → ℕ
violated_answer s u e = if_open s ((s.ledger.stocks u).violated e) 0

-- an entity's charge of a stock's last close
abbrev pub charge_answer : State → ℕ → ℕ → ℕ
charge_answer s u e = if_open s ((s.ledger.stocks u).charge e) 0

-- a mark of an entity on an index's day, with what the last settlement kept of it
abbrev pub mark_answer : State → ℕ → ℕ → Mark → MarkRow
mark_answer s u e m = if_open s (s.marks u e m) no_row

-- net, long and short of an entity, where w has what a unit of each contract weighs
abbrev pub reading_on : State → (ℕ → ℤ) → ℕ → ℤ × ℤ × ℤ
reading_on s w e = if_open s (reading_of w (quantity_of s.ledger.book) e) (pos 0, pos 0, pos 0)

-- the same in an underlying at some deltas
abbrev pub reading_answer : State → ℕ → (ℕ → Kind → Option ℤ) → ℕ → ℤ × ℤ × ℤ
reading_answer s u d e = reading_on s (weight_of s.terms.listing.contracts u d) e

-- the first contract of an underlying that lacks a needed delta, and the first entity that needs it
abbrev pub missing_answer : State → ℕ → (ℕ → Kind → Option ℤ) → Option (ℕ × ℕ)
missing_answer s u d = if_open s (missing s.terms.listing.entities (lacks_delta s.terms.listing.contracts u d) (holds s.ledger.book.at)) None

-- market open interest in an underlying at some deltas
abbrev pub interest_answer : State → ℕ → (ℕ → Kind → Option ℤ) → ℕ
interest_answer s u d = if_open s (interest s.terms.listing.entities (weight_of s.terms.listing.contracts u d) (quantity_of s.ledger.book)) 0

-- notional open interest in an underlying
abbrev pub notional_answer : State → ℕ → ℕ
notional_answer s u = if_open s (gross s.terms.listing.entities (weight_of s.terms.listing.contracts u notional) (quantity_of s.ledger.book)) 0
