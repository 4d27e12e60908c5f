use Rattle.std.proofs.Common.{◌≡◌, refl, ap, ◌∙◌, ap₂}
use Rattle.book.specs.declared.position.Shape.{Shape}
use Rattle.book.specs.Holding.{Holding}
use Rattle.model.specs.Opening.{Terms, opening_from, terms_of, terms_from, listing_from}
use Rattle.model.specs.State.{State, Ledger, Marks}
use Rattle.monitor.specs.View.{ledger_of, marks_of}
use Rattle.monitor.specs.Listed.{terms_in}
use Rattle.monitor.proofs.state.Monitor.open.Goals as goal

pub returns : goal.returns
returns g c =
    let b : Holding = g.B.Holds.held c.args.book.now in
    let t : Terms = terms_of (opening_from b c.args.contracts.now c.args.underlyings.now c.args.limits) in
    let fixed : terms_in c.new-fixed.result.terms ≡ t =
    c.new-fixed.ensures
    ∙ ap (λ (x : Shape). terms_from (listing_from x.entities x.contracts c.args.contracts.now c.args.underlyings.now) c.args.limits) c.shape-shape.ensures in
    let mk : Terms → Ledger → Marks → State = λ t l m. record { terms = t; ledger = l; marks = m } in
    record {
      state =
          ap (λ (x : Terms). mk x (ledger_of b c.new-inner.result) (marks_of c.new-inner.result.indices)) fixed
          ∙ ap₂ (λ (l : Ledger) (m : Marks). mk t l m) (c.new-inner.ensures.ledger b) c.new-inner.ensures.marks;
      same = refl;
    }
