use Rattle.std.proofs.Common.{List, ◌++◌, length, drop, pos, Err, sym, ap, ◌∙◌}
use Rattle.std.proofs.lemmas.Result.{err_from_is_err_and}
use Rattle.terms.specs.declared.kind.Underlying.TheVariants as kind
use Rattle.index.specs.declared.report.Breach.{Breach}
use Rattle.index.specs.Listing.{listing}
use Rattle.index.proofs.Reports.{listed}
use Rattle.terms.specs.Causes.{Verdict}
use Rattle.model.specs.Causes.{Answer}
use Rattle.model.specs.State.{State}
use Rattle.model.specs.Calls.{decided}
use Rattle.model.proofs.Steps.{on_kind, unless_err}
use Rattle.monitor.specs.View.{state_of}
use Rattle.monitor.proofs.state.Monitor.report.Goals as goal

pub returns-in_err-index : goal.returns-in_err-index
returns-in_err-index g c =
    let s : State = state_of g.B.Holds.held c.args.self.now in
    let u = c.args.underlying in
    let old = c.args.rows.now in
    let order : List Breach = listing s.terms.listing.entities (s.marks u) in
    let p = err_from_is_err_and c.from_residual.result c.from_residual.ensures.1 in
    record {
      order = order;
      names = listed (s.marks u) s.terms.listing.entities;
      is =
          ap (λ (a : Answer). (a, old)) (p.1 ∙ ap Err p.2)
          ∙ ap (λ (v : Verdict). decided v (pos (length order)) old (order ++ drop (length order) old)) (sym (unless_err (on_kind kind.Index s u) _ _ (sym c.in_err-index.ensures.is)));
    }
