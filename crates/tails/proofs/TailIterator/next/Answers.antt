use Rattle.std.proofs.Common.{rules}
use Rattle.text.specs.Words.{to_come}
use Rattle.tails.proofs.Steps.{values_end, values_go_on}
use Rattle.tails.proofs.TailIterator.next.Goals as goal

pub returns-then-is_none-clause-steps : goal.returns-then-is_none-clause-steps
returns-then-is_none-clause-steps g c =
    values_end g.T.Worded.worded c.args.self.now.left c.in_ok-self.field-0 (to_come c.args.self.now.words) _ _ _ (search rules) c.in_ok-next.ensures.steps c.of_word-value.ensures c.if-is_none.ensures

pub returns-else-is_none-clause-steps : goal.returns-else-is_none-clause-steps
returns-else-is_none-clause-steps g c =
    values_go_on g.T.Worded.worded c.args.self.now.left c.in_ok-self.field-0 (to_come c.args.self.now.words) _ _ _ (search rules) c.in_ok-next.ensures.steps c.of_word-value.ensures c.if-is_none.ensures

pub returns-else-is_none-clause-goes : goal.returns-else-is_none-clause-goes
returns-else-is_none-clause-goes g c =
    let steps = values_go_on g.T.Worded.worded c.args.self.now.left c.in_ok-self.field-0 (to_come c.args.self.now.words) _ _ _ (search rules) c.in_ok-next.ensures.steps c.of_word-value.ensures c.if-is_none.ensures in
    search (rules, steps)
