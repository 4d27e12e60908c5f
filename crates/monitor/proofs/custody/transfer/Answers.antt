use Rattle.std.proofs.Common.{◌≡◌, neg_ℤ, true, is_err, Ok, Err, sym, ap, ◌∙◌, ap₂, w64, SFits, refl, rules}
use Rattle.std.proofs.lemmas.Int.{to_z-of_z}
use Rattle.std.proofs.lemmas.Result.{err_from_is_err_and}
use Rattle.terms.specs.declared.refusal.Refusal.{Refusal}
use Rattle.book.specs.Holding.{Holding, reply, posted}
use Rattle.book.proofs.Posts.{posted_declined}
use Rattle.book.proofs.Undo.{opposite, put_back}
use Rattle.model.specs.Causes.{Answer}
use Rattle.model.specs.Custody.{leaves, transferred}
use Rattle.monitor.proofs.custody.transfer.Goals as goal

-- a declined answer leaves the book as it was
declined : (r : Answer) (x b t : Holding) → is_err r ≡ true → ((why : Refusal) → r ≡ Err why → x ≡ b) → x ≡ leaves r b t
declined (Ok n) x b t h f = absurd cc
declined (Err why) x b t h f = f why refl

pub returns-in_err-post-clause-state : goal.returns-in_err-post-clause-state
returns-in_err-post-clause-state g c =
    let b = g.B.Holds.held c.args.book.now in
    let d = c.args.trade in
    let off = opposite d.change c.requires in
    let h = sym (c.in_err-post.ensures.answer ∙ ap (reply b d.member d.contract) off) in
    let p = err_from_is_err_and c.from_residual.result c.from_residual.ensures.1 in
    c.post.ensures.state ∙ ap (posted b d.member d.contract) off ∙ posted_declined b d.member d.contract _ _ h ∙ ap (λ (a : Answer). leaves a b (transferred b d)) (sym p.1)

pub returns-then-is_err-clause-state : goal.returns-then-is_err-clause-state
returns-then-is_err-clause-state g c =
    let b = g.B.Holds.held c.args.book.now in
    let d = c.args.trade in
    let off = opposite d.change c.requires in
    let f : SFits w64 d.change = search rules in
    let pass = to_z-of_z w64 d.change f in
    let h = sym (c.in_ok-post.ensures.answer ∙ ap (reply b d.member d.contract) off) in
    let s = c.post.ensures.state ∙ ap (posted b d.member d.contract) off in
    let k : reply (posted b d.member d.contract (neg_ℤ d.change)) d.participant d.contract d.change ≡ c.post-answer.result = sym (c.post-answer.ensures.answer ∙ ap₂ (λ x z. reply x d.participant d.contract z) s pass) in
    let t = c.post-answer.ensures.state ∙ ap₂ (λ x z. posted x d.participant d.contract z) s pass in
    declined c.post-answer.result _ b _ (sym c.is_err.ensures.value ∙ c.if-is_err.true)
    (λ why e.
    c.post-then-is_err.ensures.state
    ∙ ap₂ (λ x z. posted x d.member d.contract z) t pass
    ∙ put_back b d.member d.participant d.contract d.change _ _ (g.B.Holds.sound c.args.book.now) h (k ∙ e))
