use Rattle.std.proofs.Common.{◌∙◌, sym, refl}
use Rattle.text.proofs.Lines.{none_left, one_more, one_fewer}
use Rattle.text.proofs.words.WordsIterator.next.Goals as goal

pub returns-in_default-clause-steps : goal.returns-in_default-clause-steps
returns-in_default-clause-steps c = (none_left c.args.self.now.rest.now (sym c.in_default.is ∙ c.first_solid.ensures), refl)

pub returns-clause-steps : goal.returns-clause-steps
returns-clause-steps c = one_more c.args.self.now.rest.now _ _ _ _ _ (sym c.in-Some.is ∙ c.first_solid.ensures) refl c.solid_len.ensures.value c.split_at.ensures.front c.split_at.ensures.back

pub returns-clause-goes : goal.returns-clause-goes
returns-clause-goes c =
    let fewer = one_fewer c.args.self.now.rest.now _ _ _ _ _ (sym c.in-Some.is ∙ c.first_solid.ensures) refl c.solid_len.ensures.value c.split_at.ensures.front c.split_at.ensures.back in
    record { on = λ _. (tt, tt, fewer); keeps = tt; rests = λ _. tt }
