-- What replaying a list of requests does, and what holds of every run.
use Rattle.std.specs.Prelude.{◌≡◌, Bool, cond, List, ◌++◌, map, length, drop, nat_le, codes, ℕ}
use Rattle.terms.specs.declared.command.Command.{Command}
use Rattle.terms.specs.declared.command.Command.TheVariants.{Post, Entry, Confirm}
use Rattle.cover.specs.Covers.{Amounts}
use Rattle.delta.specs.Sources.{Source}
use Rattle.model.specs.Causes.{Answer}
use Rattle.model.specs.State.{State}
use Rattle.model.specs.Calls.{Call, post, entry, confirm, snapshot, cure, settle, set_limit, close}
use Rattle.model.specs.Runs.{Run, outcome_from, answers_from, outcome, followed_by}
use Rattle.model.specs.Handbook.{Handbook}
use Rattle.handbook.specs.declared.request.Request.{Request}
use Rattle.handbook.specs.declared.request.Request.TheVariants.{Posting, Snapshot, Cure, Settle, SetLimit, Close}

-- the call that a command stands for
abbrev pub posting : Command → Call
posting (Post e c x) = post e c x
posting (Entry k d) = entry k d
posting (Confirm k) = confirm k

-- the call that a request stands for, by what its sources and its cover mean
abbrev pub meant : {D C : Type 0} → (D → Source) → (C → Amounts) → Request D C → Call
meant priced amount (Posting k) = posting k
meant priced amount (Snapshot u d) = snapshot u (priced d)
meant priced amount (Cure u d) = cure u (priced d)
meant priced amount (Settle u c) = settle u (amount c)
meant priced amount (SetLimit u f ds) = set_limit u f ds.now
meant priced amount (Close u two d) = close u (priced two) (priced d)

-- the calls that a list of requests stands for
abbrev pub calls : {D C : Type 0} → (D → Source) → (C → Amounts) → List (Request D C) → List Call
calls priced amount rs = map (meant priced amount) rs

-- the calls cs were replayed on the monitor s with these rows, which left s' and rows'; did tells whether they were made
pub record Replayed (s : State) (cs : List Call) (rows : List Answer) (did : Bool) (s' : State) (rows' : List Answer) : Type 0 where
  -- they are made if there is a row for each
  pub made : did ≡ nat_le (length cs) (length rows)
  -- the monitor is the outcome of the calls
  pub leaves : s' ≡ cond did (outcome_from s cs) s
  -- the first rows tell each answer, and later ones stay
  pub tells : rows' ≡ cond did (answers_from s cs ++ drop (length cs) rows) rows
  -- a monitor that was the outcome of a run is that of the run that goes on with these calls
  pub continues : (r : Run) → s ≡ outcome r → s' ≡ cond did (outcome (followed_by r cs)) s
  -- and the laws hold of every run
  pub laws : Handbook

-- what is told where there are fewer rows than calls
abbrev pub too_few : List ℕ
too_few = codes "fewer rows than calls"
