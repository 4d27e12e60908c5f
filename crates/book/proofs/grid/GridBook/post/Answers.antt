use Rattle.std.proofs.Common.{◌≡◌, Err, sym, ap, ◌∙◌, arith}
use Rattle.std.proofs.lemmas.List.{length-set}
use Rattle.std.proofs.lemmas.Result.{err_from_is_err_and}
use Rattle.terms.specs.declared.refusal.Refusal.TheVariants.{Pair}
use Rattle.book.proofs.Posts.{posted_declined}
use Rattle.book.proofs.Grids.{off, over, answered, left, still_bounded}
use Rattle.book.proofs.grid.GridBook.post.Goals as goal

pub returns-in_err-at : goal.returns-in_err-at
returns-in_err-at c =
    let g = c.args.self.now in
    let x = err_from_is_err_and c.from_residual.result c.from_residual.ensures.1 in
    let v = c.in_err-at.ensures.value in
    let n = c.in_err-at.ensures.ok_part in
    let y : c.in_err-at.field-0.0 ≡ Pair = grind arith in
    let r = off g.entities g.contracts g.cells.now c.args.entity c.args.contract (sym n ∙ c.place.ensures.place) c.args.change in
    record { answer = x.1 ∙ (ap Err (x.2 ∙ y) ∙ r); state = sym (posted_declined _ _ _ _ Pair (sym r)) }

pub returns-in_err-sum : goal.returns-in_err-sum
returns-in_err-sum c =
    let g = c.args.self.now in
    let x = err_from_is_err_and c.from_residual-in_err-sum.result c.from_residual-in_err-sum.ensures.1 in
    let r = over g.entities g.contracts g.cells.now g.fits g.bounded _ _ _ (sym c.in_ok-at.ensures.ok_part ∙ c.place.ensures.place) c.args.change c.ranges.change _ c.in_err-sum.ensures in
    record { answer = x.1 ∙ (ap Err x.2 ∙ r); state = sym (posted_declined _ _ _ _ _ (sym r)) }

pub invariant_of-self : goal.invariant_of-self
invariant_of-self c =
    let g = c.args.self.now in
    record {
      fits = simp length-set g.fits;
      bounded = still_bounded g.entities g.contracts g.cells.now g.fits g.bounded _ _ _ (sym c.in_ok-at.ensures.ok_part ∙ c.place.ensures.place) c.args.change c.ranges.change _ c.in_ok-sum.ensures;
    }

pub returns : goal.returns
returns c =
    let g = c.args.self.now in
    record {
      answer = answered g.entities g.contracts g.cells.now g.fits g.bounded _ _ _ (sym c.in_ok-at.ensures.ok_part ∙ c.place.ensures.place) c.args.change c.ranges.change _ c.in_ok-sum.ensures;
      state = left g.entities g.contracts g.cells.now g.fits g.bounded _ _ _ (sym c.in_ok-at.ensures.ok_part ∙ c.place.ensures.place) c.args.change c.ranges.change _ c.in_ok-sum.ensures;
    }
