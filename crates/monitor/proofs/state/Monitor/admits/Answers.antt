use Rattle.std.proofs.Common.{sym}
use Rattle.model.specs.Calls.{closed_table}
use Rattle.model.proofs.Steps.{exit_verdict}
use Rattle.monitor.specs.View.{state_of}
use Rattle.monitor.proofs.state.Monitor.admits.Goals as goal

pub returns-in_err-opened-clause-is : goal.returns-in_err-opened-clause-is
returns-in_err-opened-clause-is g c =
    exit_verdict (closed_table (state_of g.B.Holds.held c.args.self.now).terms) _ c.from_residual.result _ c.from_residual.ensures.1 (sym c.in_err-opened.ensures)
