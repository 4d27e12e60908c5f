-- Limits and covers refuse nothing: what is refused, and the ledger, come from the ledger and the calls alone.
use Rattle.std.proofs.Common.{◌≡◌, ℕ, zero, suc, Bool, true, cond, not, List, ℤ, Some, None, Ok, Err, Option, option_map, sym, refl, ap, ◌∙◌, ap₂}
use Rattle.std.specs.List.{slice_get}
use Rattle.terms.specs.declared.refusal.Refusal.{Refusal}
use Rattle.terms.specs.declared.refusal.Refusal.TheVariants.{Closed}
use Rattle.book.proofs.Equal.{equal_is_same, same_is_equal}
use Rattle.cover.specs.Covers.{Amounts}
use Rattle.delta.specs.Sources.{Source, EqualSources}
use Rattle.delta.proofs.Equal.{same_source}
use Rattle.terms.specs.Causes.{Verdict}
use Rattle.model.specs.Causes.{cause_in}
use Rattle.model.specs.Opening.{Listing, Terms, listing_from, terms_of, is_open}
use Rattle.model.specs.State.{State, Ledger, new_ledger}
use Rattle.model.specs.Calls.{Call, post, entry, confirm, snapshot, cure, settle, set_limit, close, verdict, of_call, number, effect, done, decided}
use Rattle.model.specs.Runs.{Run, before, listing_of, next, refusal_of, refusal_at}
use Rattle.model.specs.Handbook.{Same, same, snapshots, cures, settlements, closes, SameCalls, none, more, SameButLimits, Agree, AnyCovers, LimitsRefuseNothing}
use Rattle.model.proofs.Places.{terms_stay}

-- ---- calls that are the same but for sources equal in meaning, and for covers

-- a call without its cover
bare : Call → Call
bare (settle u a) = settle u (λ e v side. 0)
bare other = other

-- whether a call is let through, and what becomes of the ledger: no cover is looked at
abbrev outset : Listing → Ledger → Call → Verdict × Ledger
outset w l c = (of_call w l c, effect w l c)

unlooked : (w : Listing) (l : Ledger) (c : Call) → outset w l c ≡ outset w l (bare c)
unfolding bare
unlooked w l (post e c x) = refl
unlooked w l (entry k d) = refl
unlooked w l (confirm k) = refl
unlooked w l (snapshot u d) = refl
unlooked w l (cure u d) = refl
unlooked w l (settle u a) = refl
unlooked w l (set_limit u f ds) = refl
unlooked w l (close u two d) = refl

-- such calls are one without their covers
bare_path : {R : Amounts → Amounts → Type 0} {c c' : Call} → Same R c c' → bare c ≡ bare c'
unfolding bare
bare_path same = refl
bare_path (snapshots {u = u} p) = ap (λ (d : Source). snapshot u d) (same_source p)
bare_path (cures {u = u} p) = ap (λ (d : Source). cure u d) (same_source p)
bare_path (settlements h) = refl
bare_path (closes {u = u} p q) = ap₂ (λ (a b : Source). close u a b) (same_source p) (same_source q)

nth_path : {R : Amounts → Amounts → Type 0} {cs cs' : List Call} → SameCalls R cs cs' → (k : ℕ) → option_map bare (slice_get cs k) ≡ option_map bare (slice_get cs' k)
nth_path none k = refl
nth_path (more p h) zero = ap Some (bare_path p)
nth_path (more p h) (suc k) = nth_path h k

-- what a call makes of the ledger alone
ledger_by : Verdict → Ledger → Ledger → Ledger
ledger_by (Ok ok) old new = new
ledger_by (Err why) old new = old

ledger_next : Listing → Ledger → Option Call → Ledger
ledger_next w l None = l
ledger_next w l (Some c) = ledger_by (of_call w l c) l (effect w l c)

cause_next : Listing → Ledger → Option Call → Option Refusal
cause_next w l None = None
cause_next w l (Some c) = cause_in (of_call w l c)

by : (v : Verdict) (n : ℤ) (old new : State) → (decided v n old new).1.ledger ≡ ledger_by v old.ledger new.ledger
unfolding ledger_by
by (Ok ok) n old new = refl
by (Err why) n old new = refl

told : (v : Verdict) (n : ℤ) (old new : State) → cause_in (decided v n old new).0 ≡ cause_in v
told (Ok ok) n old new = refl
told (Err why) n old new = refl

let_in : (t : Terms) (l : Ledger) (c : Call) → is_open t ≡ true → verdict t l c ≡ of_call t.listing l c
let_in t l c e = ap (λ (b : Bool). cond (not b) (Err Closed) (of_call t.listing l c)) e

ledger_next_is : (s : State) (x : Option Call) → is_open s.terms ≡ true → (next s x).ledger ≡ ledger_next s.terms.listing s.ledger (option_map bare x)
unfolding ledger_next
ledger_next_is s None e = refl
ledger_next_is s (Some c) e =
    by (verdict s.terms s.ledger c) (number s c) s (done s c)
    ∙ ap (λ (v : Verdict). ledger_by v s.ledger (effect s.terms.listing s.ledger c)) (let_in s.terms s.ledger c e)
    ∙ ap (λ (p : Verdict × Ledger). ledger_by p.0 s.ledger p.1) (unlooked s.terms.listing s.ledger c)

cause_next_is : (s : State) (x : Option Call) → is_open s.terms ≡ true → refusal_of s x ≡ cause_next s.terms.listing s.ledger (option_map bare x)
unfolding cause_next
cause_next_is s None e = refl
cause_next_is s (Some c) e =
    told (verdict s.terms s.ledger c) (number s c) s (done s c)
    ∙ ap (λ (v : Verdict). cause_in v) (let_in s.terms s.ledger c e)
    ∙ ap (λ (p : Verdict × Ledger). cause_in p.0) (unlooked s.terms.listing s.ledger c)

stays_open : (r : Run) (k : ℕ) → is_open (terms_of r.opening) ≡ true → is_open (before r k).terms ≡ true
stays_open r k e = ap is_open (terms_stay r k) ∙ e

module _ (R : Amounts → Amounts → Type 0) (r r' : Run) (alike : SameButLimits R r r') where
  book_same : r.opening.book ≡ r'.opening.book
  book_same = equal_is_same r.opening.book r'.opening.book alike.books

  pub listing_same : listing_of r ≡ listing_of r'
  listing_same = λ i. listing_from (book_same i).entities (book_same i).contracts (alike.contracts i) (alike.underlyings i)

  watched_same : (k : ℕ) → (before r k).terms.listing ≡ (before r' k).terms.listing
  watched_same k = ap (λ (t : Terms). t.listing) (terms_stay r k) ∙ listing_same ∙ sym (ap (λ (t : Terms). t.listing) (terms_stay r' k))

  pub ledger_same : (k : ℕ) → (before r k).ledger ≡ (before r' k).ledger
  ledger_same zero = ap new_ledger book_same
  ledger_same (suc k) =
      ledger_next_is (before r k) (slice_get r.calls k) (stays_open r k alike.both_open.0)
      ∙ (λ i. ledger_next (watched_same k i) (ledger_same k i) (nth_path alike.calls k i))
      ∙ sym (ledger_next_is (before r' k) (slice_get r'.calls k) (stays_open r' k alike.both_open.1))

  pub refusal_same : (k : ℕ) → refusal_at r k ≡ refusal_at r' k
  refusal_same k =
      cause_next_is (before r k) (slice_get r.calls k) (stays_open r k alike.both_open.0)
      ∙ (λ i. cause_next (watched_same k i) (ledger_same k i) (nth_path alike.calls k i))
      ∙ sym (cause_next_is (before r' k) (slice_get r'.calls k) (stays_open r' k alike.both_open.1))

  pub agree : (k : ℕ) → Agree r r' k
  agree k =
      let p = ledger_same (suc k) in
      record {
        refusals = refusal_same k;
        books = same_is_equal _ _ (ap (λ (l : Ledger). l.book) p);
        bans = λ u. ap (λ (l : Ledger). (l.stocks u).ban) p;
        bases = λ e c. ap (λ (l : Ledger). l.base e c) p;
        charges = λ u e. ap (λ (l : Ledger). (l.stocks u).charge e) p;
      }

pub limits : LimitsRefuseNothing
limits = agree AnyCovers
