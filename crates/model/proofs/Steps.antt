-- A call's step, by the way that its causes go. What proves a monitor's code equal to the model cites these.
use Rattle.std.proofs.Common.{◌≡◌, ℕ, Bool, true, false, cond, not, List, [], ◌∷◌, ◌++◌, ℤ, Some, None, Ok, Err, Option, Result, IsErrAnd, sym, refl, ap, ◌∙◌, ap₂, arith}
use Rattle.std.proofs.lemmas.Result.{err_from_is_err_and}
use Rattle.terms.specs.declared.command.Trade.{Trade}
use Rattle.terms.specs.declared.kind.Underlying.{Underlying as Sort}
use Rattle.terms.specs.declared.refusal.Refusal.{Refusal}
use Rattle.terms.specs.declared.refusal.Refusal.TheVariants.{Closed}
use Rattle.book.specs.Holding.{Holding, reply, posted, settle}
use Rattle.terms.specs.Causes.{Verdict, unless, verdict_of, checked}
use Rattle.model.specs.Causes.{Answer, unless_missing, kind_table, number_in}
use Rattle.model.specs.Opening.{is_open}
use Rattle.model.specs.State.{State, with_book, with_ticket}
use Rattle.model.specs.Custody.{transfer_reply, transferred}
use Rattle.model.specs.Calls.{Call, post, entry, confirm, ticket_at, entry_table, of_call, of_confirm, confirm_reply, confirmed, closed_table, verdict, number, done, decided, step}

-- ---- tables of causes

-- a table that lets nothing through declines whatever comes after it
pub unless_err : (t : List (Bool × Refusal)) (v : Verdict) (why : Refusal) → checked t ≡ Err why → unless t v ≡ Err why
unless_err [] v why e = let z : ◌≡◌ {A = ℕ} 0 1 = cc in absurd (omega arith)
unless_err ((true, w) ∷ t) v why e = e
unless_err ((false, w) ∷ t) v why e = unless_err t v why e

pub unless_ok : (t : List (Bool × Refusal)) (v : Verdict) → checked t ≡ Ok tt → unless t v ≡ v
unless_ok [] v e = refl
unless_ok ((true, w) ∷ t) v e = let z : ◌≡◌ {A = ℕ} 0 1 = cc in absurd (omega arith)
unless_ok ((false, w) ∷ t) v e = unless_ok t v e

-- a check that declined, where its answer came through a `?`
pub exit_unless : (t : List (Bool × Refusal)) (v r : Verdict) (why : Refusal) → IsErrAnd r (λ y. y ≡ why) → checked t ≡ Err why → r ≡ unless t v
exit_unless t v r why q h = let p = err_from_is_err_and r q in p.1 ∙ ap Err p.2 ∙ sym (unless_err t v why h)

-- the same of a check that answers something
pub exit_verdict : {A : Type 0} (t : List (Bool × Refusal)) (v : Verdict) (r : Result A Refusal) (why : Refusal) → IsErrAnd r (λ y. y ≡ why) → checked t ≡ Err why → verdict_of r ≡ unless t v
exit_verdict t v r why q h = let p = err_from_is_err_and r q in ap verdict_of p.1 ∙ ap Err p.2 ∙ sym (unless_err t v why h)

-- what is told only of missing deltas, likewise
pub unless_missing_ok : (told : Option (ℕ × ℕ)) (v : Verdict) → unless_missing told (Ok tt) ≡ Ok tt → unless_missing told v ≡ v
unless_missing_ok None v e = refl
unless_missing_ok (Some told) v e = let z : ◌≡◌ {A = ℕ} 0 1 = cc in absurd (omega arith)

-- ---- a step by its verdict

pub step_err : (s : State) (c : Call) (why : Refusal) → verdict s.terms s.ledger c ≡ Err why → (Err why, s) ≡ step s c
step_err s c why e = sym (ap (λ (v : Verdict). decided v (number s c) s (done s c)) e)

pub step_ok : (s : State) (c : Call) → verdict s.terms s.ledger c ≡ Ok tt → (Ok (number s c), done s c) ≡ step s c
step_ok s c e = sym (ap (λ (v : Verdict). decided v (number s c) s (done s c)) e)

let_in : (s : State) (v : Verdict) → true ≡ is_open s.terms → unless (closed_table s.terms) v ≡ v
let_in s v e = ap (λ (b : Bool). cond (not b) (Err Closed) v) (sym e)

-- ---- post

module _ (s : State) (open_now : true ≡ is_open s.terms) where
  verdict_is : (c : Call) → verdict s.terms s.ledger c ≡ of_call s.terms.listing s.ledger c
  verdict_is c = let_in s (of_call s.terms.listing s.ledger c) open_now

  post_by : (e c : ℕ) (x : ℤ) (r : Answer) → reply s.ledger.book e c x ≡ r → (r, record { terms = s.terms; ledger = with_book s.ledger (settle s.ledger.book e c r); marks = s.marks }) ≡ step s (post e c x)
  unfolding posted
  post_by e c x (Ok q) h =
      ap₂ (λ (a : Answer) (b : Holding). (Ok (number_in a), record { terms = s.terms; ledger = with_book s.ledger b; marks = s.marks })) (sym h) (ap (settle s.ledger.book e c) (sym h))
      ∙ step_ok s (post e c x) (verdict_is (post e c x) ∙ ap verdict_of h)
  post_by e c x (Err why) h = step_err s (post e c x) why (verdict_is (post e c x) ∙ ap verdict_of h)

  -- a posting's answer, and the book that it leaves
  pub step_post : (e c : ℕ) (x : ℤ) → (reply s.ledger.book e c x, record { terms = s.terms; ledger = with_book s.ledger (posted s.ledger.book e c x); marks = s.marks }) ≡ step s (post e c x)
  unfolding posted
  step_post e c x = post_by e c x (reply s.ledger.book e c x) refl

-- ---- a call whose causes are a table and then a rest

module _ (s : State) (c : Call) (table : List (Bool × Refusal)) (rest : Verdict) (is : verdict s.terms s.ledger c ≡ unless table rest) where
  -- declined by the table
  pub by_table : (why : Refusal) → checked table ≡ Err why → (Err why, s) ≡ step s c
  by_table why h = step_err s c why (is ∙ unless_err table rest why h)

  -- let through by the table and declined by the rest
  pub by_rest : (why : Refusal) → checked table ≡ Ok tt → rest ≡ Err why → (Err why, s) ≡ step s c
  by_rest why h r = step_err s c why (is ∙ unless_ok table rest h ∙ r)

  -- the same, where the answer came through a `?`
  pub exit_by_table : (r : Answer) (why : Refusal) → IsErrAnd r (λ y. y ≡ why) → checked table ≡ Err why → (r, s) ≡ step s c
  exit_by_table r why q h = let p = err_from_is_err_and r q in ap (λ (a : Answer). (a, s)) (p.1 ∙ ap Err p.2) ∙ by_table why h

  pub exit_by_rest : (r : Answer) (why : Refusal) → IsErrAnd r (λ y. y ≡ why) → checked table ≡ Ok tt → rest ≡ Err why → (r, s) ≡ step s c
  exit_by_rest r why q h e = let p = err_from_is_err_and r q in ap (λ (a : Answer). (a, s)) (p.1 ∙ ap Err p.2) ∙ by_rest why h e

  -- let through
  pub by_none : checked table ≡ Ok tt → rest ≡ Ok tt → (Ok (number s c), done s c) ≡ step s c
  by_none h r = step_ok s c (is ∙ unless_ok table rest h ∙ r)

-- ---- a call whose causes are two tables and then a rest

-- the causes of any call on an underlying of a kind
abbrev pub on_kind : Sort → State → ℕ → List (Bool × Refusal)
on_kind kind s u = closed_table s.terms ++ kind_table s.terms.listing kind u

module _ (s : State) (c : Call) (first second : List (Bool × Refusal)) (rest : Verdict) (is : verdict s.terms s.ledger c ≡ unless first (unless second rest)) where
  -- declined by the first, or by the second, where the answer came through a `?`
  pub exit_by_first : (r : Answer) (why : Refusal) → IsErrAnd r (λ y. y ≡ why) → checked first ≡ Err why → (r, s) ≡ step s c
  exit_by_first = exit_by_table s c first (unless second rest) is

  pub exit_by_second : (r : Answer) (why : Refusal) → IsErrAnd r (λ y. y ≡ why) → checked first ≡ Ok tt → checked second ≡ Err why → (r, s) ≡ step s c
  exit_by_second r why q h e = exit_by_rest s c first (unless second rest) is r why q h (unless_err second rest why e)

  -- let through by both: the rest decides
  pub by_decision : checked first ≡ Ok tt → checked second ≡ Ok tt → decided rest (number s c) s (done s c) ≡ step s c
  by_decision h k = ap (λ (v : Verdict). decided v (number s c) s (done s c)) (sym (is ∙ unless_ok first (unless second rest) h ∙ unless_ok second rest k))

-- ---- entry

module _ (s : State) (k : ℕ) (d : Trade) where
  abbrev pub entry_causes : List (Bool × Refusal)
  entry_causes = (not (is_open s.terms), Closed) ∷ entry_table s.ledger k d

  abbrev pub entry_reply : Answer
  entry_reply = reply s.ledger.book d.member d.contract d.change

  -- declined before the book is asked
  pub entry_refused : (r : Answer) (why : Refusal) → IsErrAnd r (λ y. y ≡ why) → checked entry_causes ≡ Err why → (r, s) ≡ step s (entry k d)
  entry_refused = exit_by_table s (entry k d) entry_causes (verdict_of entry_reply) refl

  -- declined by the book
  pub entry_declined : (r : Answer) (why : Refusal) → IsErrAnd r (λ y. y ≡ why) → checked entry_causes ≡ Ok tt → entry_reply ≡ Err why → (r, s) ≡ step s (entry k d)
  entry_declined r why q h e = exit_by_rest s (entry k d) entry_causes (verdict_of entry_reply) refl r why q h (ap verdict_of e)

  pub entry_done : (q : ℤ) → checked entry_causes ≡ Ok tt → entry_reply ≡ Ok q → (Ok q, record { terms = s.terms; ledger = with_ticket (with_book s.ledger (posted s.ledger.book d.member d.contract d.change)) k (Some d); marks = s.marks }) ≡ step s (entry k d)
  entry_done q h e =
      ap (λ (a : Answer). (Ok (number_in a), done s (entry k d))) (sym e)
      ∙ by_none s (entry k d) entry_causes (verdict_of entry_reply) refl h (ap verdict_of e)

-- ---- confirmation

module _ (s : State) (open_now : true ≡ is_open s.terms) (k : ℕ) where
  module _ (d : Trade) (held : ticket_at s.ledger k ≡ Some d) where
    pub confirm_done : (q : ℤ) → transfer_reply s.ledger.book d ≡ Ok q → (Ok q, record { terms = s.terms; ledger = with_ticket (with_book s.ledger (transferred s.ledger.book d)) k None; marks = s.marks }) ≡ step s (confirm k)
    confirm_done q r =
        ap₂ (λ (a : Answer) (t : Option Trade). (Ok (number_in a), record { terms = s.terms; ledger = with_ticket (with_book s.ledger (confirmed s.ledger.book t)) k None; marks = s.marks })) (sym (ap (confirm_reply s.ledger) held ∙ r)) (sym held)
        ∙ step_ok s (confirm k) (verdict_is s open_now (confirm k) ∙ ap (of_confirm s.ledger) held ∙ ap verdict_of r)
