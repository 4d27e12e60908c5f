use Rattle.std.proofs.Common.{◌≡◌, Some, None, sym, arith}
use Rattle.terms.specs.Bounds.{most_contracts}
use Rattle.reading.specs.Views.{lacking_of}
use Rattle.reading.proofs.Firsts.{missing_at, missing_none, so_first}
use Rattle.reading.proofs.sheet.Sheet.first_missing.Goals as goal

pub returns-then-needs : goal.returns-then-needs
returns-then-needs g c =
    let lacks = lacking_of c.args.self.now in
    let needs = g.N.Needs.needed c.args.who.now in
    let e = sym (missing_at c.args.entities lacks needs c.loop-c.c c.loop-e.e c.loop-c-test.true c.loop-c.invariant c.if-lacks.ensures c.loop-e-test.true c.loop-e.invariant c.if-needs.ensures) in
    record { answer = e; first = so_first c.args.entities lacks needs (Some (c.loop-c.c, c.loop-e.e)) e }

pub returns-after-loop-c : goal.returns-after-loop-c
returns-after-loop-c g c =
    let lacks = lacking_of c.args.self.now in
    let needs = g.N.Needs.needed c.args.who.now in
    let all : c.loop-c.c ≡ most_contracts = omega arith in
    let e = sym (missing_none c.args.entities lacks needs c.loop-c.c all c.loop-c.invariant) in
    record { answer = e; first = so_first c.args.entities lacks needs None e }
