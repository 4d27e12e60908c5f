use Rattle.std.proofs.Common.{◌≡◌, Err, sym, ap, ◌∙◌, w64, SFits, rules, arith}
use Rattle.std.proofs.lemmas.Result.{err_from_is_err_and}
use Rattle.terms.specs.declared.refusal.Refusal.TheVariants.{Pair}
use Rattle.book.proofs.Posts.{posted_declined}
use Rattle.book.proofs.Lists.{listed_off, asked, over, out_stored, zero_answer, zero_state, put_stored, put_answer, put_state, full_answer, full_state}
use Rattle.book.proofs.list.ListBook.post.Goals as goal

pub returns-in_err-key : goal.returns-in_err-key
returns-in_err-key c =
    let s = c.args.self.now in
    let x = err_from_is_err_and c.from_residual.result c.from_residual.ensures.1 in
    let v = c.in_err-key.ensures.value in
    let n = c.in_err-key.ensures.ok_part in
    let y : c.in_err-key.field-0.0 ≡ Pair = grind arith in
    let r = listed_off s.entities s.contracts s.register c.args.entity c.args.contract (sym n ∙ c.key.ensures) c.args.change in
    record { answer = x.1 ∙ (ap Err (x.2 ∙ y) ∙ r); state = sym (posted_declined _ _ _ _ Pair (sym r)) }

pub returns-in_err-sum : goal.returns-in_err-sum
returns-in_err-sum c =
    let s = c.args.self.now in
    let f : SFits w64 c.quantity_at.result = search rules in
    let k = asked s.stored (sym c.in_ok-key.ensures.ok_part ∙ c.key.ensures) c.quantity_at.ensures f c.ranges.change in
    let x = err_from_is_err_and c.from_residual-in_err-sum.result c.from_residual-in_err-sum.ensures.1 in
    let r = over k _ c.in_err-sum.ensures in
    record { answer = x.1 ∙ (ap Err x.2 ∙ r); state = sym (posted_declined _ _ _ _ _ (sym r)) }

pub invariant_of-self : goal.invariant_of-self
invariant_of-self c =
    let s = c.args.self.now in
    record { stored = out_stored s.entities s.contracts s.register s.stored _ _ _ (sym c.in_ok-key.ensures.ok_part ∙ c.key.ensures) _ c.remove.ensures.state }

pub returns-then-sum-eq0 : goal.returns-then-sum-eq0
returns-then-sum-eq0 c =
    let s = c.args.self.now in
    let f : SFits w64 c.quantity_at.result = search rules in
    let k = asked s.stored (sym c.in_ok-key.ensures.ok_part ∙ c.key.ensures) c.quantity_at.ensures f c.ranges.change in
    record {
      answer = zero_answer k _ c.in_ok-sum.ensures c.if-sum-eq0.true;
      state = zero_state k _ c.in_ok-sum.ensures c.if-sum-eq0.true _ c.remove.ensures.state;
    }

pub invariant_of-self-2 : goal.invariant_of-self-2
invariant_of-self-2 c =
    let s = c.args.self.now in
    let f : SFits w64 c.quantity_at.result = search rules in
    let k = asked s.stored (sym c.in_ok-key.ensures.ok_part ∙ c.key.ensures) c.quantity_at.ensures f c.ranges.change in
    record { stored = put_stored k _ c.in_ok-sum.ensures c.if-sum-eq0.false _ c.put.ensures.state }

pub returns-in_err-put : goal.returns-in_err-put
returns-in_err-put c =
    let s = c.args.self.now in
    let f : SFits w64 c.quantity_at.result = search rules in
    let k = asked s.stored (sym c.in_ok-key.ensures.ok_part ∙ c.key.ensures) c.quantity_at.ensures f c.ranges.change in
    let x = err_from_is_err_and c.from_residual-in_err-put.result c.from_residual-in_err-put.ensures.1 in
    record {
      answer = x.1 ∙ (ap Err x.2 ∙ full_answer k _ c.in_ok-sum.ensures c.if-sum-eq0.false _ c.put.ensures.state _ c.in_err-put.ensures.answer);
      state = full_state k _ c.in_ok-sum.ensures c.if-sum-eq0.false _ c.put.ensures.state _ c.in_err-put.ensures.answer;
    }

pub returns : goal.returns
returns c =
    let s = c.args.self.now in
    let f : SFits w64 c.quantity_at.result = search rules in
    let k = asked s.stored (sym c.in_ok-key.ensures.ok_part ∙ c.key.ensures) c.quantity_at.ensures f c.ranges.change in
    record {
      answer = put_answer k _ c.in_ok-sum.ensures c.if-sum-eq0.false _ c.put.ensures.state _ c.in_ok-put.ensures.answer;
      state = put_state k _ c.in_ok-sum.ensures c.if-sum-eq0.false _ c.put.ensures.state _ c.in_ok-put.ensures.answer;
    }
