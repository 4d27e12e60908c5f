-- A pair that no call posts to keeps its quantity.
use Rattle.std.proofs.Common.{◌≡◌, ℕ, Bool, true, false, ◌&&◌, ◌||◌, eqb, ℤ, neg_ℤ, Some, None, Ok, Err, Option, Result, sym, refl, ◌∙◌}
use Rattle.std.proofs.lemmas.Bool.{cond-false}
use Rattle.std.specs.List.{slice_get}
use Rattle.terms.specs.declared.command.Trade.{Trade}
use Rattle.terms.specs.declared.refusal.Refusal.{Refusal}
use Rattle.book.specs.Holding.{Holding, reply, posted, settle as left_by}
use Rattle.terms.specs.Causes.{Verdict}
use Rattle.model.specs.Opening.{Listing}
use Rattle.model.specs.State.{State, Ledger}
use Rattle.model.specs.Custody.{off_member}
use Rattle.model.specs.Calls.{Call, post, entry, confirm, snapshot, cure, settle, set_limit, close, ticket_at, confirmed, verdict, number, effect, done, decided}
use Rattle.model.specs.Runs.{before, next, is_pair, in_trade, posts_to, posted_at}
use Rattle.model.specs.Handbook.{OnlyPostingsMove}

or_left : (a b : Bool) → a || b ≡ false → a ≡ false
or_left true b h = h
or_left false b h = refl

or_right : (a b : Bool) → a || b ≡ false → b ≡ false
or_right true b h = let z : ◌≡◌ {A = Bool} true false = h in cc
or_right false b h = h

settled : (b : Holding) (e c i j : ℕ) (r : Result ℤ Refusal) → is_pair i j e c ≡ false → (left_by b e c r).at i j ≡ b.at i j
settled b e c i j (Ok q) h = cond-false (eqb i e && eqb j c) q (b.at i j) h
settled b e c i j (Err why) h = refl

posted_other : (b : Holding) (e c : ℕ) (z : ℤ) (i j : ℕ) → is_pair i j e c ≡ false → (posted b e c z).at i j ≡ b.at i j
unfolding posted
posted_other b e c z i j h = settled b e c i j (reply b e c z) h

confirmed_other : (b : Holding) (t : Option Trade) (i j : ℕ) → in_trade t i j ≡ false → (confirmed b t).at i j ≡ b.at i j
confirmed_other b None i j h = refl
confirmed_other b (Some d) i j h =
    let m : Bool = is_pair i j d.member d.contract in
    let p : Bool = is_pair i j d.participant d.contract in
    posted_other (off_member b d) d.participant d.contract d.change i j (or_right m p h)
    ∙ posted_other b d.member d.contract (neg_ℤ d.change) i j (or_left m p h)

effect_other : (w : Listing) (l : Ledger) (c : Call) (i j : ℕ) → posts_to l c i j ≡ false → (effect w l c).book.at i j ≡ l.book.at i j
effect_other w l (post e c x) i j h = posted_other l.book e c x i j h
effect_other w l (entry k d) i j h = posted_other l.book d.member d.contract d.change i j h
effect_other w l (confirm k) i j h = confirmed_other l.book (ticket_at l k) i j h
effect_other w l (snapshot u d) i j h = refl
effect_other w l (cure u d) i j h = refl
effect_other w l (settle u c) i j h = refl
effect_other w l (set_limit u f ds) i j h = refl
effect_other w l (close u two d) i j h = refl

decided_other : (v : Verdict) (n : ℤ) (s : State) (c : Call) (i j : ℕ) → posts_to s.ledger c i j ≡ false → s.ledger.book.at i j ≡ (decided v n s (done s c)).1.ledger.book.at i j
decided_other (Ok ok) n s c i j h = sym (effect_other s.terms.listing s.ledger c i j h)
decided_other (Err why) n s c i j h = refl

next_other : (s : State) (x : Option Call) (i j : ℕ) → posted_at s.ledger x i j ≡ false → s.ledger.book.at i j ≡ (next s x).ledger.book.at i j
next_other s None i j h = refl
next_other s (Some c) i j h = decided_other (verdict s.terms s.ledger c) (number s c) s c i j h

pub postings : OnlyPostingsMove
postings r k e c h = next_other (before r k) (slice_get r.calls k) e c h
