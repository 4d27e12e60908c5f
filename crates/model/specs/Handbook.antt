-- The laws: what holds of every run.
-- Letters: r run, k and j places, s the place at which a ban began; u underlying, d source, a and c covers; e entity, c contract,
-- m mark, v value.
use Rattle.std.specs.Prelude.{◌≡◌, ℕ, ◌+◌, ◌<◌, ◌≤◌, true, false, ◌↔◌, List, [], ◌∷◌, take, pos, Some, Ok}
use Rattle.std.specs.List.{slice_get}
use Rattle.terms.specs.declared.mark.Mark.{Mark}
use Rattle.terms.specs.declared.refusal.Refusal.{Refusal}
use Rattle.book.specs.Equal.{EqualInMeaning}
use Rattle.delta.specs.Sources.{Source, EqualSources}
use Rattle.reading.specs.Sheets.{within}
use Rattle.cover.specs.Covers.{Amounts, NowhereSmaller}
use Rattle.index.specs.declared.day.Round.TheVariants.{Regular, Final}
use Rattle.index.specs.declared.mark.MarkRow.{MarkRow}
use Rattle.index.specs.declared.report.Breach.{Breach}
use Rattle.index.specs.Bounds.{cure_minutes, snapshots_least}
use Rattle.index.specs.Days.{round_at}
use Rattle.index.specs.Kept.{IsKept, Names}
use Rattle.model.specs.Opening.{terms_of, is_open}
use Rattle.model.specs.Readings.{net_at, interest_at}
use Rattle.model.specs.Calls.{Call, snapshot, cure, settle, close}
use Rattle.model.specs.Runs.{Run, before, after, book_at, listing_of, refusal_at, answer_at, Accepted, outcome_from, outcome, followed_by, posted_at, old_base, new_base, charge_after, CloseOf, Between}
use Rattle.model.specs.Breaches.{Over, Owed, Taken, Finished, Sighted, ProvisionalAt, Provisional, Breached, LargestOrNone, FinalAt, FinalBreach, Stands, HowMany, HowManyMarks}
use Rattle.model.specs.State.{opened}

-- ---- the monitor is the outcome of its calls

-- what stands before place k is the outcome of the first k calls
abbrev pub Outcomes : Type 0
Outcomes = (r : Run) (k : ℕ) → before r k ≡ outcome_from (opened r.opening) (take k r.calls)

-- the outcome of a run that goes on is what the further calls make of its outcome
abbrev pub GoesOn : Type 0
GoesOn = (r : Run) (more : List Call) → outcome (followed_by r more) ≡ outcome_from (outcome r) more

-- ---- limits and covers refuse nothing, and larger ones add no breach

-- the same call, but that delta sources are equal in meaning, and the two covers of a settlement are as R has it
pub data Same (R : Amounts → Amounts → Type 0) : Call → Call → Type 0 where
  same : {c : Call} → Same R c c
  snapshots : {u : ℕ} {d d' : Source} → EqualSources d d' → Same R (snapshot u d) (snapshot u d')
  cures : {u : ℕ} {d d' : Source} → EqualSources d d' → Same R (cure u d) (cure u d')
  settlements : {u : ℕ} {a a' : Amounts} → R a a' → Same R (settle u a) (settle u a')
  closes : {u : ℕ} {two two' d d' : Source} → EqualSources two two' → EqualSources d d'
      → Same R (close u two d) (close u two' d')

-- two lists of calls that are the same in this way, place by place
pub data SameCalls (R : Amounts → Amounts → Type 0) : List Call → List Call → Type 0 where
  none : SameCalls R [] []
  more : {c c' : Call} {cs cs' : List Call} → Same R c c' → SameCalls R cs cs' → SameCalls R (c ∷ cs) (c' ∷ cs')

-- two open monitors with the same contracts and underlyings, books equal in meaning, and the same calls
pub record SameButLimits (R : Amounts → Amounts → Type 0) (r r' : Run) : Type 0 where
  pub both_open : (is_open (terms_of r.opening) ≡ true) × (is_open (terms_of r'.opening) ≡ true)
  pub books : EqualInMeaning r.opening.book r'.opening.book
  pub contracts : r.opening.contracts ≡ r'.opening.contracts
  pub underlyings : r.opening.underlyings ≡ r'.opening.underlyings
  pub calls : SameCalls R r.calls r'.calls

-- what the two have in common at place k and after it
pub record Agree (r r' : Run) (k : ℕ) : Type 0 where
  pub refusals : refusal_at r k ≡ refusal_at r' k
  pub books : EqualInMeaning (after r k).ledger.book (after r' k).ledger.book
  pub bans : (u : ℕ) → ((after r k).ledger.stocks u).ban ≡ ((after r' k).ledger.stocks u).ban
  pub bases : (e c : ℕ) → new_base r k e c ≡ new_base r' k e c
  pub charges : (u e : ℕ) → charge_after r k u e ≡ charge_after r' k u e

-- covers of any amounts
abbrev pub AnyCovers : Amounts → Amounts → Type 0
AnyCovers a a' = Unit {0}

-- whatever the limits and covers, the same calls are refused, with all that they tell, and leave equal books, bans, bases,
-- charges
abbrev pub LimitsRefuseNothing : Type 0
LimitsRefuseNothing = (r r' : Run) → SameButLimits AnyCovers r r' → (k : ℕ) → Agree r r' k

-- two such monitors of which the second's limits and covers are nowhere smaller
pub record Larger (r r' : Run) : Type 0 where
  pub alike : SameButLimits NowhereSmaller r r'
  pub net : r.opening.limits.net ≤ r'.opening.limits.net
  pub gross : r.opening.limits.gross ≤ r'.opening.limits.gross

-- they agree at place k, and each breach of the second is the first's
pub record NoneAdded (r r' : Run) (k : ℕ) : Type 0 where
  pub agree : Agree r r' k
  pub provisional : (e : ℕ) (m : Mark) → Provisional r' k e m → Provisional r k e m
  pub final : (e : ℕ) (m : Mark) → FinalBreach r' k e m → FinalBreach r k e m

-- larger limits and covers never add a breach
abbrev pub LargerAddsNoBreach : Type 0
LargerAddsNoBreach = (r r' : Run) → Larger r r' → (k : ℕ) → NoneAdded r r' k

-- ---- an index's day goes in order

-- at place k, of an index
pub record InOrder (r : Run) (k u : ℕ) : Type 0 where
  -- while a cure is owed no other call of its day is accepted
  pub cure_first : (j : ℕ) (d : Source) → Owed r k u j d
      → ((d' : Source) → Accepted r k (snapshot u d') → ⊥) × ((c : Amounts) → Accepted r k (settle u c) → ⊥)
  -- a cure is one that is owed, exactly so many minutes after its snapshot
  pub cures_owed : (d : Source) → Accepted r k (cure u d)
      → (j : ℕ) × (s : Source) × Owed r k u j s × (d.minute ≡ s.minute + cure_minutes)
  -- nothing but the settlement follows the final snapshot
  pub final : Finished r k u
      → ((d : Source) → Accepted r k (snapshot u d) → ⊥) × ((d : Source) → Accepted r k (cure u d) → ⊥)
  -- what is settled has its final snapshot, and snapshots enough since the settlement before
  pub settlement : (c : Amounts) → Accepted r k (settle u c)
      → Finished r k u × ((n : ℕ) × HowMany (Taken r k u) k n × (snapshots_least ≤ n))

-- every index's day does
abbrev pub DaysGoInOrder : Type 0
DaysGoInOrder = (r : Run) (k u : ℕ) → InOrder r k u

-- ---- the marks tell the truth

-- the call at place k answers how many marks of watched entities have the property
pub record AnswersHowMany (r : Run) (k : ℕ) (P : ℕ → Mark → Type 0) : Type 0 where
  pub number : ℕ
  pub counts : HowManyMarks r.opening.book.entities P number
  pub answer : answer_at r k ≡ Some (Ok (pos number))

-- a regular snapshot answers how many marks are over, a final one and a cure how many are provisional breaches there, a
-- settlement how many are final ones
pub record AnswersCount (r : Run) (k u : ℕ) : Type 0 where
  pub regular : (d : Source) → Accepted r k (snapshot u d) → round_at d.minute ≡ Some Regular
      → AnswersHowMany r k (Over r k u d)
  pub final : (d : Source) → Accepted r k (snapshot u d) → round_at d.minute ≡ Some Final
      → AnswersHowMany r k (ProvisionalAt r k u d)
  pub cure : (d : Source) → Accepted r k (cure u d)
      → AnswersHowMany r k (ProvisionalAt r k u d)
  pub settlement : (c : Amounts) → Accepted r k (settle u c)
      → AnswersHowMany r k (λ e m. (v : ℕ) × FinalAt r k u c e m v)

-- every such answer is that number
abbrev pub AnswersTellTheTruth : Type 0
AnswersTellTheTruth = (r : Run) (k u : ℕ) → AnswersCount r k u

-- what a mark's row says of the mark just before place k
pub record Truthful (r : Run) (k u e : ℕ) (m : Mark) (row : MarkRow) : Type 0 where
  -- whether it is sighted
  pub sighted : (row.sighted ≡ true) ↔ Sighted r k u e m
  -- how many provisional breaches it has since the index's last settlement
  pub count : HowMany (Breached r k u e m) k row.count
  -- the largest value of theirs
  pub largest : LargestOrNone r k u e m row.largest
  -- the final breach of that settlement, if it is one, with its value
  pub kept : (v : ℕ) → (row.kept ≡ Some v) ↔ Stands r k u e m v

-- every row says what is so
abbrev pub MarksTellTheTruth : Type 0
MarksTellTheTruth = (r : Run) (k u e : ℕ) (m : Mark) → Truthful r k u e m ((before r k).marks u e m)

-- a list of what is kept of an index, as a report writes it, names exactly the final breaches of its last settlement
abbrev pub ReportsTellTheTruth : Type 0
ReportsTellTheTruth =
    (r : Run) (k u : ℕ) (list : List Breach)
    → Names (IsKept r.opening.book.entities ((before r k).marks u)) list
    → Names (λ b. Stands r k u b.entity b.mark b.largest) list

-- ---- whoever does not move is never charged

-- at each close through place k of the ban that began at place s, the entity's quantities in the stock are those at its
-- start
abbrev pub Unmoved : Run → ℕ → ℕ → ℕ → ℕ → Type 0
Unmoved r u s k e =
    (j : ℕ) (two closing : Source) → j ≤ k → CloseOf r u s j two closing
    → (c : ℕ) → within r.opening.contracts u c ≡ true
    → book_at r j e c ≡ book_at r s e c

-- such an entity is charged at none of those closes, whatever the deltas and prices
abbrev pub UnmovedIsFree : Type 0
UnmovedIsFree =
    (r : Run) (u s k e : ℕ) → Unmoved r u s k e
    → (j : ℕ) (two closing : Source) → j ≤ k → CloseOf r u s j two closing
    → charge_after r j u e ≡ 0

-- ---- a ban only lets positions shrink

-- at each close of a ban every new base lies, at that day's two o'clock deltas, between zero and the old one
abbrev pub BaseShrinks : Type 0
BaseShrinks =
    (r : Run) (u s k : ℕ) (two closing : Source) → CloseOf r u s k two closing
    → (e : ℕ) → Between (net_at (listing_of r) u two (old_base r k) e) (net_at (listing_of r) u two (new_base r k) e)

-- and if nobody is charged there, market interest at those deltas is at most the old base's
abbrev pub MarketShrinks : Type 0
MarketShrinks =
    (r : Run) (u s k : ℕ) (two closing : Source) → CloseOf r u s k two closing
    → ((e : ℕ) → e < r.opening.book.entities → charge_after r k u e ≡ 0)
    → interest_at (listing_of r) u two (book_at r k) ≤ interest_at (listing_of r) u two (old_base r k)

-- ---- nothing but calls changes a monitor or its book

-- a declined call leaves the monitor and its book as they were
abbrev pub DeclinedChangesNothing : Type 0
DeclinedChangesNothing = (r : Run) (k : ℕ) (why : Refusal) → refusal_at r k ≡ Some why → after r k ≡ before r k

-- what was fixed at the opening stays
abbrev pub TermsStay : Type 0
TermsStay = (r : Run) (k : ℕ) → (before r k).terms ≡ terms_of r.opening

-- the quantity of a pair changes only at a call that posts to it
abbrev pub OnlyPostingsMove : Type 0
OnlyPostingsMove =
    (r : Run) (k e c : ℕ) → posted_at (before r k).ledger (slice_get r.calls k) e c ≡ false
    → book_at r k e c ≡ (after r k).ledger.book.at e c

-- all laws
pub record Handbook : Type 0 where
  pub outcomes : Outcomes
  pub goes_on : GoesOn
  pub limits : LimitsRefuseNothing
  pub larger : LargerAddsNoBreach
  pub days : DaysGoInOrder
  pub answers : AnswersTellTheTruth
  pub marks : MarksTellTheTruth
  pub reports : ReportsTellTheTruth
  pub declined : DeclinedChangesNothing
  pub terms : TermsStay
  pub postings : OnlyPostingsMove
  pub unmoved : UnmovedIsFree
  pub bases : BaseShrinks
  pub market : MarketShrinks
