use Rattle.std.proofs.Common.{◌≡◌, replicate, refl, ap}
use Rattle.terms.specs.Bounds.{most_entities}
use Rattle.book.specs.Holding.{Holding}
use Rattle.index.specs.Marks.{four_of}
use Rattle.model.specs.declared.parts.IndexRecord.{IndexRecord}
use Rattle.monitor.proofs.New.{new_index, no_ledger, no_marks}
use Rattle.monitor.proofs.inner.Inner.new.Goals as goal

pub returns : goal.returns
returns c =
    let index : IndexRecord = record { day = c.new.result; marks = replicate most_entities (four_of c.new-row.result) } in
    let is_new : index ≡ new_index = λ j. record { day = c.new.ensures j; marks = replicate most_entities (four_of (c.new-row.ensures j)) } in
    record {
      ledger = λ b. no_ledger b _ index (ap (λ (h : Holding). h.at) c.new-2.ensures) is_new;
      marks = no_marks index is_new;
      tickets = refl;
    }
