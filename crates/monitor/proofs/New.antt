-- A new monitor's tables hold nothing.
use Rattle.std.proofs.Common.{◌≡◌, ℕ, false, get_or, replicate, pos, None, refl, ap, ◌∙◌}
use Rattle.terms.specs.Bounds.{most_entities, most_underlyings, ticket_count}
use Rattle.terms.specs.declared.mark.Mark.{Mark}
use Rattle.terms.specs.declared.mark.Mark.TheVariants.{NetLong, NetShort, GrossLong, GrossShort}
use Rattle.book.specs.Holding.{Holding}
use Rattle.index.specs.Days.{no_day}
use Rattle.index.specs.Marks.{no_row, four, four_of}
use Rattle.model.specs.declared.parts.IndexRecord.{IndexRecord}
use Rattle.model.specs.declared.parts.StockRecord.{StockRecord}
use Rattle.model.specs.State.{Quantities, no_stock, new_ledger}
use Rattle.stock.specs.Close.{quantity_or_zero, charge_or_zero}
use Rattle.monitor.specs.View.{tickets_of, no_index, no_record, days_of, stock_in, stocks_of, marks_of}
use Rattle.monitor.proofs.Same.{same_everywhere, everywhere_replicate}

four_of_is : {A : Type 0} (a : A) (m : Mark) → four (four_of a) m ≡ a
four_of_is a NetLong = refl
four_of_is a NetShort = refl
four_of_is a GrossLong = refl
four_of_is a GrossShort = refl

-- a new index and a new stock
abbrev pub new_index : IndexRecord
new_index = record { day = no_day; marks = replicate most_entities (four_of no_row) }

abbrev pub new_stock : StockRecord
new_stock = record { limit = None; banned = false; violations = replicate most_entities None }

no_mark : (u e : ℕ) (m : Mark) → marks_of (replicate most_underlyings new_index) u e m ≡ no_row
no_mark u e m = everywhere_replicate (λ (x : IndexRecord). four (get_or x.marks e (four_of no_row)) m ≡ no_row) new_index no_index most_underlyings (ap (λ f. four f m) (same_everywhere most_entities e (four_of no_row)) ∙ four_of_is no_row m) (four_of_is no_row m) u

pub no_marks : (x : IndexRecord) → x ≡ new_index → marks_of (replicate most_underlyings x) ≡ (λ u e m. no_row)
no_marks x h = ap (λ (x : IndexRecord). marks_of (replicate most_underlyings x)) h ∙ (λ i u e m. no_mark u e m i)

no_days : (x : IndexRecord) → x ≡ new_index → (u : ℕ) → days_of (replicate most_underlyings x) u ≡ no_day
no_days x h u = ap (λ (x : IndexRecord). days_of (replicate most_underlyings x) u) h ∙ everywhere_replicate (λ (x : IndexRecord). x.day ≡ no_day) new_index no_index most_underlyings refl refl u

no_stocks : (u : ℕ) → stocks_of (replicate most_underlyings new_stock) u ≡ no_stock
no_stocks u = everywhere_replicate (λ (x : StockRecord). stock_in x ≡ no_stock) new_stock no_record most_underlyings (λ i. record { limit = None; ban = false; violated = λ e. quantity_or_zero (same_everywhere most_entities e None i); charge = λ e. charge_or_zero (same_everywhere most_entities e None i) }) refl u

pub no_ledger : (b : Holding) (q : Quantities) (x : IndexRecord) → q ≡ (λ e c. pos 0) → x ≡ new_index → record {
  book = b;
  base = q;
  tickets = tickets_of (replicate ticket_count None);
  days = days_of (replicate most_underlyings x);
  stocks = stocks_of (replicate most_underlyings new_stock);
} ≡ new_ledger b
no_ledger b q x p h = λ i. record {
  book = b;
  base = p i;
  tickets = λ k. same_everywhere ticket_count k None i;
  days = λ u. no_days x h u i;
  stocks = λ u. no_stocks u i;
}
