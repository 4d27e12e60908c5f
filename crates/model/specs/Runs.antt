-- A run: a list of calls on a newly opened monitor, declined calls included. Places count from 0.
use Rattle.std.specs.Prelude.{◌≡◌, ℕ, zero, suc, ◌<◌, ◌≤◌, Bool, true, false, ◌&&◌, ◌||◌, ◌⊎◌, List, [], ◌∷◌, ◌++◌, ℤ, pos, ◌≤ℤ◌, Some, None, Option, ◌==◌}
use Rattle.std.specs.List.{slice_get}
use Rattle.terms.specs.declared.command.Trade.{Trade}
use Rattle.terms.specs.declared.refusal.Refusal.{Refusal}
use Rattle.delta.specs.Sources.{Source}
use Rattle.model.specs.Causes.{Answer, cause_in}
use Rattle.model.specs.Opening.{Opening, Listing, terms_of}
use Rattle.model.specs.State.{Quantities, Ledger, State, opened}
use Rattle.model.specs.Calls.{Call, post, entry, confirm, close, ticket_at, step}

-- an opening, and the calls after it
pub record Run : Type 0 where
  pub opening : Opening
  pub calls : List Call

-- what is watched in a run
abbrev pub listing_of : Run → Listing
listing_of r = (terms_of r.opening).listing

-- ---- what a list of calls leaves, and what they are answered

-- what is left once the calls were made, one after the other
abbrev pub outcome_from : State → List Call → State
outcome_from s [] = s
outcome_from s (c ∷ cs) = outcome_from (step s c).1 cs

-- what each of them is answered
abbrev pub answers_from : State → List Call → List Answer
answers_from s [] = []
answers_from s (c ∷ cs) = (step s c).0 ∷ answers_from (step s c).1 cs

-- what a run leaves
abbrev pub outcome : Run → State
outcome r = outcome_from (opened r.opening) r.calls

-- the run that goes on with these calls
abbrev pub followed_by : Run → List Call → Run
followed_by r cs = record { opening = r.opening; calls = r.calls ++ cs }

-- ---- places

-- what a call leaves, if there is one
abbrev pub next : State → Option Call → State
next s None = s
next s (Some c) = (step s c).1

-- the monitor just before the call at place k
abbrev pub before : Run → ℕ → State
before r zero = opened r.opening
before r (suc k) = next (before r k) (slice_get r.calls k)

-- the monitor just after the call at place k
abbrev pub after : Run → ℕ → State
after r k = before r (suc k)

-- the book's quantities just before the call at place k
abbrev pub book_at : Run → ℕ → Quantities
book_at r k = (before r k).ledger.book.at

-- what a call is declined for, if there is one and it is
abbrev pub refusal_of : State → Option Call → Option Refusal
refusal_of s None = None
refusal_of s (Some c) = cause_in (step s c).0

-- what the call at place k was declined for, with all that it tells, if it was
abbrev pub refusal_at : Run → ℕ → Option Refusal
refusal_at r k = refusal_of (before r k) (slice_get r.calls k)

-- what a call is answered, if there is one
abbrev pub answer_of : State → Option Call → Option Answer
answer_of s None = None
answer_of s (Some c) = Some (step s c).0

-- what the call at place k was answered
abbrev pub answer_at : Run → ℕ → Option Answer
answer_at r k = answer_of (before r k) (slice_get r.calls k)

-- place k holds the call c, and it was accepted
pub record Accepted (r : Run) (k : ℕ) (c : Call) : Type 0 where
  pub holds : slice_get r.calls k ≡ Some c
  pub passed : refusal_at r k ≡ None

-- ---- the stock and its ban

-- base just before the call at place k
abbrev pub old_base : Run → ℕ → Quantities
old_base r k = (before r k).ledger.base

-- base just after the call at place k
abbrev pub new_base : Run → ℕ → Quantities
new_base r k = (after r k).ledger.base

-- what an entity violates in a stock just after the call at place k
abbrev pub violated_after : Run → ℕ → ℕ → ℕ → ℕ
violated_after r k u e = ((after r k).ledger.stocks u).violated e

-- what it is charged then
abbrev pub charge_after : Run → ℕ → ℕ → ℕ → ℕ
charge_after r k u e = ((after r k).ledger.stocks u).charge e

-- the stock u is in a ban just before place k
abbrev pub Banned : Run → ℕ → ℕ → Type 0
Banned r k u = ((before r k).ledger.stocks u).ban ≡ true

-- a ban's start: the close at place s begins a ban of the stock u
pub record BanStart (r : Run) (u s : ℕ) : Type 0 where
  pub two : Source
  pub closing : Source
  pub accepted : Accepted r s (close u two closing)
  pub free : Banned r s u → ⊥
  pub begun : Banned r (suc s) u

-- a ban's close: place k is a later accepted close, at these sources, of the ban that began at place s, which was in
-- force all the way
pub record CloseOf (r : Run) (u s k : ℕ) (two closing : Source) : Type 0 where
  pub start : BanStart r u s
  pub later : s < k
  pub accepted : Accepted r k (close u two closing)
  pub in_force : (j : ℕ) → s < j → j ≤ k → Banned r j u

-- y lies between 0 and x, ends included
abbrev pub Between : ℤ → ℤ → Type 0
Between x y = ((pos 0 ≤ℤ y) × (y ≤ℤ x)) ⊎ ((x ≤ℤ y) × (y ≤ℤ pos 0))

-- ---- the pairs that a call posts to

-- two pairs are one
abbrev pub is_pair : ℕ → ℕ → ℕ → ℕ → Bool
is_pair e c e' c' = e == e' && c == c'

-- a trade moves the pair: it is the member's or the participant's
abbrev pub in_trade : Option Trade → ℕ → ℕ → Bool
in_trade None e c = false
in_trade (Some d) e c = is_pair e c d.member d.contract || is_pair e c d.participant d.contract

-- the call names the pair, a confirmation by its ticket's trade
abbrev pub posts_to : Ledger → Call → ℕ → ℕ → Bool
posts_to s (post e' c' x) e c = is_pair e c e' c'
posts_to s (entry k d) e c = is_pair e c d.member d.contract
posts_to s (confirm k) e c = in_trade (ticket_at s k) e c
posts_to s other e c = false

-- some call at place k posts to the pair
abbrev pub posted_at : Ledger → Option Call → ℕ → ℕ → Bool
posted_at s None e c = false
posted_at s (Some call) e c = posts_to s call e c
