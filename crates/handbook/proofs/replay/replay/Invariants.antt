use Rattle.std.proofs.Common.{◌≡◌, ◌++◌, take, drop}
use Rattle.delta.specs.Sources.{source_of}
use Rattle.model.specs.Runs.{outcome_from, answers_from}
use Rattle.monitor.specs.View.{state_of}
use Rattle.handbook.specs.Replay.{calls}
use Rattle.handbook.proofs.replay.replay.Given as goal

abbrev pub invariant-loop-place : goal.invariant-loop-place
invariant-loop-place g l =
    (state_of g.B.Holds.held l.monitor ≡ outcome_from (state_of g.B.Holds.held l.initial.monitor) (calls (source_of g.D.Delta.answer g.D.PricedDelta.at g.D.PricedDelta.worth) g.C.Cover.amount (take l.place l.requests)))
    × (l.answers ≡ answers_from (state_of g.B.Holds.held l.initial.monitor) (calls (source_of g.D.Delta.answer g.D.PricedDelta.at g.D.PricedDelta.worth) g.C.Cover.amount (take l.place l.requests)) ++ drop l.place l.initial.answers)
    × (l.monitor.book.ghost_name ≡ l.initial.monitor.book.ghost_name)
