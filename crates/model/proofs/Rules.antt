-- The handbook, whole.
use Rattle.model.specs.Handbook.{Handbook}
use Rattle.model.proofs.Places.{outcomes, goes_on, declined, terms_stay}
use Rattle.model.proofs.Limits.{limits}
use Rattle.model.proofs.Larger.{larger_adds_no_breach}
use Rattle.model.proofs.InOrder.{days_go_in_order}
use Rattle.model.proofs.Truth.{marks_tell_the_truth, answers_tell_the_truth, reports_tell_the_truth}
use Rattle.model.proofs.Quiet.{postings}
use Rattle.model.proofs.Ban.{base_shrinks, market_shrinks}
use Rattle.model.proofs.Unmoved.{unmoved_is_free}

pub rules : Handbook
rules = record {
  outcomes = outcomes;
  goes_on = goes_on;
  limits = limits;
  larger = larger_adds_no_breach marks_tell_the_truth;
  days = days_go_in_order;
  answers = answers_tell_the_truth;
  marks = marks_tell_the_truth;
  reports = reports_tell_the_truth;
  declined = declined;
  terms = terms_stay;
  postings = postings;
  unmoved = unmoved_is_free;
  bases = base_shrinks;
  market = market_shrinks;
}
