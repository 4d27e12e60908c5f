use Rattle.std.proofs.Common.{◌≡◌, ℕ, leb, List, ◌++◌, map, length, drop, sym, refl, ap, ◌∙◌, arith}
use Rattle.std.proofs.lemmas.List.{length-map}
use Rattle.std.proofs.lemmas.Bool.{le-leb, lt-leb}
use Rattle.delta.specs.Sources.{source_of}
use Rattle.model.specs.State.{State}
use Rattle.model.specs.Calls.{Call}
use Rattle.model.specs.Runs.{outcome_from, answers_from}
use Rattle.model.proofs.Places.{goes_on}
use Rattle.model.proofs.Rules.{rules}
use Rattle.monitor.specs.View.{state_of}
use Rattle.handbook.specs.Replay.{meant}
use Rattle.handbook.proofs.Turns.{one_more, answer_more, all_calls, rows_more}
use Rattle.handbook.proofs.replay.replay.Goals as goal

pub returns-then-requests-answers : goal.returns-then-requests-answers
returns-then-requests-answers g c =
    let rs = c.args.requests.now in
    let f = meant (source_of g.D.Delta.answer g.D.PricedDelta.at g.D.PricedDelta.worth) g.C.Cover.amount in
    let n = length-map rs f in
    record {
      run = record {
        made = sym (ap (λ (k : ℕ). leb k (length c.args.answers.now)) n ∙ lt-leb _ _ c.if-requests-answers.true);
        leaves = refl;
        tells = refl;
        continues = λ r e. refl;
        laws = rules;
      };
      same = refl;
    }

pub loop-place-preserved : goal.loop-place-preserved
loop-place-preserved g c =
    let s = state_of g.B.Holds.held c.args.monitor.now in
    let rs = c.args.requests.now in
    let f = meant (source_of g.D.Delta.answer g.D.PricedDelta.at g.D.PricedDelta.worth) g.C.Cover.amount in
    let i = c.loop-place.place in
    let t = state_of g.B.Holds.held c.loop-place.monitor in
    let u = state_of g.B.Holds.held c.apply.new.monitor in
    let x = c.index-requests-place.result in
    let h = c.loop-place-test.true in
    let e = c.index-requests-place.is in
    let inv = c.loop-place.invariant in (
      one_more f s rs i x t u c.apply.result h e inv.0 c.apply.ensures.step,
      rows_more f s rs i c.args.answers.now c.loop-place.answers c.apply.result h c.if-requests-answers.false inv.1
          (answer_more f s rs i x t u c.apply.result h e inv.0 c.apply.ensures.step),
      c.apply.ensures.same ∙ inv.2,
    )

pub returns : goal.returns
returns g c =
    let s = state_of g.B.Holds.held c.args.monitor.now in
    let rs = c.args.requests.now in
    let f = meant (source_of g.D.Delta.answer g.D.PricedDelta.at g.D.PricedDelta.worth) g.C.Cover.amount in
    let all = all_calls f rs c.loop-place.place c.loop-place-test.false in
    let n = length-map rs f in
    let ends : c.loop-place.place ≡ length (map f rs) = omega (arith, n) in
    let leaves = c.loop-place.invariant.0 ∙ ap (outcome_from s) all in
    record {
      run = record {
        made = sym (ap (λ (k : ℕ). leb k (length c.args.answers.now)) n ∙ le-leb _ _ c.if-requests-answers.false);
        leaves = leaves;
        tells =
            c.loop-place.invariant.1
            ∙ ap (λ (l : List Call). answers_from s l ++ drop c.loop-place.place c.args.answers.now) all
            ∙ ap (λ (k : ℕ). answers_from s (map f rs) ++ drop k c.args.answers.now) ends;
        continues = λ r e. leaves ∙ ap (λ (x : State). outcome_from x (map f rs)) e ∙ sym (goes_on r (map f rs));
        laws = rules;
      };
      same = c.loop-place.invariant.2;
    }
