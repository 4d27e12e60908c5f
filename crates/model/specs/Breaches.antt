-- The index's day as facts about places of a run. What a monitor keeps of marks and days plays no part here.
-- Letters: r run, k, j and i places, u underlying, d source, c cover, e entity, m mark, v value.
use Rattle.std.specs.Prelude.{◌≡◌, ℕ, suc, ◌+◌, ◌*◌, ◌<◌, ◌≤◌, Bool, true, ◌⊎◌, ◌↔◌, Some}
use Rattle.terms.specs.declared.mark.Mark.{Mark}
use Rattle.terms.specs.Marks.{side_of}
use Rattle.delta.specs.Sources.{Source}
use Rattle.reading.specs.Sums.{sum_below}
use Rattle.cover.specs.Covers.{Amounts}
use Rattle.index.specs.Bounds.{per_paisa}
use Rattle.index.specs.declared.day.Round.TheVariants.{Regular, Final}
use Rattle.index.specs.Days.{round_at}
use Rattle.index.specs.Marks.{limit_for}
use Rattle.index.specs.Sweeps.{tally}
use Rattle.index.specs.Values.{value_for}
use Rattle.model.specs.Readings.{reading_at}
use Rattle.model.specs.Calls.{snapshot, cure, settle}
use Rattle.model.specs.Runs.{Run, book_at, listing_of, Accepted}

-- ---- marks that are over

-- what an entity's mark on an index is worth at place k, at a source's deltas and price
abbrev pub value_at : Run → ℕ → ℕ → Source → ℕ → Mark → ℕ
value_at r k u d e m = value_for (reading_at (listing_of r) u d (book_at r k) e) d.price m

-- it is over: a watched entity's mark that is worth more than its limit
pub record Over (r : Run) (k u : ℕ) (d : Source) (e : ℕ) (m : Mark) : Type 0 where
  pub watched : e < r.opening.book.entities
  pub exceeds : limit_for r.opening.limits m * per_paisa < value_at r k u d e m

-- ---- the calls of an index's day before a place

-- place j has the index's last accepted snapshot before place k
pub record LastSnapshot (r : Run) (k u j : ℕ) (d : Source) : Type 0 where
  pub earlier : j < k
  pub accepted : Accepted r j (snapshot u d)
  pub last : (i : ℕ) (d' : Source) → j < i → i < k → Accepted r i (snapshot u d') → ⊥

-- place j has its last accepted settlement before place k
pub record LastSettlement (r : Run) (k u j : ℕ) (c : Amounts) : Type 0 where
  pub earlier : j < k
  pub accepted : Accepted r j (settle u c)
  pub last : (i : ℕ) (c' : Amounts) → j < i → i < k → Accepted r i (settle u c') → ⊥

-- between places j and k no cure of the index was accepted
abbrev pub Uncured : Run → ℕ → ℕ → ℕ → Type 0
Uncured r u j k = (i : ℕ) (d : Source) → j < i → i < k → Accepted r i (cure u d) → ⊥

-- between places j and k no settlement of the index was accepted
abbrev pub Unsettled : Run → ℕ → ℕ → ℕ → Type 0
Unsettled r u j k = (i : ℕ) (c : Amounts) → j < i → i < k → Accepted r i (settle u c) → ⊥

-- just before place k a cure is owed for the regular snapshot at place j
pub record Owed (r : Run) (k u j : ℕ) (d : Source) : Type 0 where
  pub last : LastSnapshot r k u j d
  pub regular : round_at d.minute ≡ Some Regular
  pub uncured : Uncured r u j k
  pub unsettled : Unsettled r u j k

-- place j, before place k, has an accepted snapshot of the index, which was not settled since
pub record Taken (r : Run) (k u j : ℕ) : Type 0 where
  pub source : Source
  pub earlier : j < k
  pub accepted : Accepted r j (snapshot u source)
  pub unsettled : Unsettled r u j k

-- just before place k the index's day has its final snapshot
pub record Finished (r : Run) (k u : ℕ) : Type 0 where
  pub place : ℕ
  pub source : Source
  pub last : LastSnapshot r k u place source
  pub final : round_at source.minute ≡ Some Final
  pub unsettled : Unsettled r u place k

-- just before place k a mark is sighted: it was over at a snapshot for which a cure is owed
pub record Sighted (r : Run) (k u e : ℕ) (m : Mark) : Type 0 where
  pub place : ℕ
  pub source : Source
  pub owed : Owed r k u place source
  pub over : Over r place u source e m

-- ---- provisional breaches

-- a provisional breach at place k, at these deltas: a final snapshot at which the mark is over, or a cure at which it is
-- over and was over at the index's last accepted snapshot before
pub data ProvisionalAt (r : Run) (k u : ℕ) (d : Source) (e : ℕ) (m : Mark) : Type 0 where
  at_final : Accepted r k (snapshot u d) → round_at d.minute ≡ Some Final → Over r k u d e m
      → ProvisionalAt r k u d e m
  at_cure : Accepted r k (cure u d) → Over r k u d e m
      → (j : ℕ) (d' : Source) → LastSnapshot r k u j d' → Over r j u d' e m
      → ProvisionalAt r k u d e m

-- a provisional breach: a place, an entity and a mark
pub record Provisional (r : Run) (k e : ℕ) (m : Mark) : Type 0 where
  pub index : ℕ
  pub source : Source
  pub breach : ProvisionalAt r k index source e m

-- place j, before place k, has a provisional breach of the mark, and the index was not settled since
pub record Breached (r : Run) (k u e : ℕ) (m : Mark) (j : ℕ) : Type 0 where
  pub source : Source
  pub earlier : j < k
  pub breach : ProvisionalAt r j u source e m
  pub unsettled : Unsettled r u j k

-- v is the largest value of these breaches
pub record LargestBreach (r : Run) (k u e : ℕ) (m : Mark) (v : ℕ) : Type 0 where
  pub place : ℕ
  pub breach : Breached r k u e m place
  pub value : v ≡ value_at r place u breach.source e m
  pub none_larger : (j : ℕ) (b : Breached r k u e m j) → value_at r j u b.source e m ≤ v

-- the same, or v is 0 and there is none
abbrev pub LargestOrNone : Run → ℕ → ℕ → ℕ → Mark → ℕ → Type 0
LargestOrNone r k u e m v = LargestBreach r k u e m v ⊎ (((j : ℕ) → Breached r k u e m j → ⊥) × (v ≡ 0))

-- ---- final breaches

-- a final breach at place k, a settlement over a cover: the largest value of the mark's provisional breaches since the
-- settlement before exceeds its limit plus the cover of its side
pub record FinalAt (r : Run) (k u : ℕ) (c : Amounts) (e : ℕ) (m : Mark) (v : ℕ) : Type 0 where
  pub accepted : Accepted r k (settle u c)
  pub largest : LargestBreach r k u e m v
  pub exceeds : (limit_for r.opening.limits m + c e u (side_of m)) * per_paisa < v

-- a final breach: a place, an entity and a mark
pub record FinalBreach (r : Run) (k e : ℕ) (m : Mark) : Type 0 where
  pub index : ℕ
  pub cover : Amounts
  pub value : ℕ
  pub breach : FinalAt r k index cover e m value

-- just before place k the mark's final breach stands, with its value: one of the index's last settlement
pub record Stands (r : Run) (k u e : ℕ) (m : Mark) (v : ℕ) : Type 0 where
  pub place : ℕ
  pub cover : Amounts
  pub last : LastSettlement r k u place cover
  pub breach : FinalAt r place u cover e m v

-- ---- how many

-- n of the places below k have the property
pub data HowMany (P : ℕ → Type 0) : ℕ → ℕ → Type 0 where
  none : HowMany P 0 0
  has : {k n : ℕ} → HowMany P k n → P k → HowMany P (suc k) (suc n)
  lacks : {k n : ℕ} → HowMany P k n → (P k → ⊥) → HowMany P (suc k) n

-- n of the marks of the first entities have it
pub record HowManyMarks (entities : ℕ) (P : ℕ → Mark → Type 0) (n : ℕ) : Type 0 where
  pub test : ℕ → Mark → Bool
  pub decides : (e : ℕ) (m : Mark) → e < entities → (test e m ≡ true) ↔ P e m
  pub number : n ≡ sum_below entities (λ e. tally (test e))
