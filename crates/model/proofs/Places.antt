-- Places of a run: what a declined call leaves, and the outcome of the calls before a place.
use Rattle.std.proofs.Common.{◌≡◌, ℕ, zero, suc, List, [], ◌∷◌, ◌++◌, take, ℤ, Some, None, Ok, Err, Option, sym, refl, ap, ◌∙◌, arith}
use Rattle.std.specs.List.{slice_get}
use Rattle.terms.specs.declared.refusal.Refusal.{Refusal}
use Rattle.terms.specs.Causes.{Verdict}
use Rattle.model.specs.Causes.{cause_in}
use Rattle.model.specs.Opening.{Terms, terms_of}
use Rattle.model.specs.State.{State, opened}
use Rattle.model.specs.Calls.{Call, verdict, number, effect, done, decided, step}
use Rattle.model.specs.Runs.{Run, before, after, next, refusal_of, outcome_from, Accepted}
use Rattle.model.specs.Handbook.{Outcomes, GoesOn, DeclinedChangesNothing, TermsStay}

-- ---- the outcome of the calls before a place

from : State → List Call → ℕ → State
from s cs zero = s
from s cs (suc k) = next (from s cs k) (slice_get cs k)

from_cons : (s : State) (c : Call) (cs : List Call) (k : ℕ) → from s (c ∷ cs) (suc k) ≡ from (step s c).1 cs k
unfolding from
from_cons s c cs zero = refl
from_cons s c cs (suc k) = ap (λ (x : State). next x (slice_get cs k)) (from_cons s c cs k)

from_nil : (s : State) (k : ℕ) → from s [] k ≡ s
unfolding from
from_nil s zero = refl
from_nil s (suc k) = from_nil s k

from_outcome : (s : State) (cs : List Call) (k : ℕ) → from s cs k ≡ outcome_from s (take k cs)
unfolding from
from_outcome s [] zero = refl
from_outcome s [] (suc k) = from_nil s (suc k)
from_outcome s (c ∷ cs) zero = refl
from_outcome s (c ∷ cs) (suc k) = from_cons s c cs k ∙ from_outcome (step s c).1 cs k

is_from : (r : Run) (k : ℕ) → before r k ≡ from (opened r.opening) r.calls k
unfolding from
is_from r zero = refl
is_from r (suc k) = ap (λ (x : State). next x (slice_get r.calls k)) (is_from r k)

pub outcomes : Outcomes
outcomes r k = is_from r k ∙ from_outcome (opened r.opening) r.calls k

pub outcome_join : (s : State) (cs ds : List Call) → outcome_from s (cs ++ ds) ≡ outcome_from (outcome_from s cs) ds
outcome_join s [] ds = refl
outcome_join s (c ∷ cs) ds = outcome_join (step s c).1 cs ds

pub goes_on : GoesOn
goes_on r more = outcome_join (opened r.opening) r.calls more

-- ---- an accepted call

taken : (v : Verdict) (n : ℤ) (old new : State) → cause_in (decided v n old new).0 ≡ None → (decided v n old new).1 ≡ new
taken (Ok ok) n old new e = refl
taken (Err why) n old new e = let z : ◌≡◌ {A = ℕ} 0 1 = cc in absurd (omega arith)

pub after_state : (r : Run) (k : ℕ) (c : Call) → Accepted r k c → after r k ≡ done (before r k) c
after_state r k c a =
    ap (next s) a.holds
    ∙ taken (verdict s.terms s.ledger c) (number s c) s (done s c) (sym (ap (refusal_of s) a.holds) ∙ a.passed)
  where
    s : State
    s = before r k

-- ---- a declined call, and what is fixed

left : (v : Verdict) (n : ℤ) (old new : State) (why : Refusal) → cause_in (decided v n old new).0 ≡ Some why → (decided v n old new).1 ≡ old
left (Ok ok) n old new why e = let z : ◌≡◌ {A = ℕ} 0 1 = cc in absurd (omega arith)
left (Err w) n old new why e = refl

unchanged : (s : State) (x : Option Call) (why : Refusal) → refusal_of s x ≡ Some why → next s x ≡ s
unchanged s None why e = refl
unchanged s (Some c) why e = left (verdict s.terms s.ledger c) (number s c) s (done s c) why e

pub declined : DeclinedChangesNothing
declined r k why e = unchanged (before r k) (slice_get r.calls k) why e

same_terms : (v : Verdict) (n : ℤ) (s : State) (c : Call) → (decided v n s (done s c)).1.terms ≡ s.terms
same_terms (Ok ok) n s c = refl
same_terms (Err why) n s c = refl

next_terms : (s : State) (x : Option Call) → (next s x).terms ≡ s.terms
next_terms s None = refl
next_terms s (Some c) = same_terms (verdict s.terms s.ledger c) (number s c) s c

pub terms_stay : TermsStay
terms_stay r zero = refl
terms_stay r (suc k) = next_terms (before r k) (slice_get r.calls k) ∙ terms_stay r k

-- what an accepted call makes of the ledger
pub after_accepted : (r : Run) (k : ℕ) (c : Call) → Accepted r k c → (after r k).ledger ≡ effect (terms_of r.opening).listing (before r k).ledger c
after_accepted r k c a = ap (λ (s : State). s.ledger) (after_state r k c a) ∙ ap (λ (t : Terms). effect t.listing (before r k).ledger c) (terms_stay r k)
