use Rattle.std.proofs.Common.{subst}
use Rattle.std.specs.Prelude.{IfSome}
use Rattle.lc_model.specs.Kept.Call.{next_on_packet}
use Rattle.lc_model.specs.Kept.Summary.{LcState}
use Rattle.app_host.specs.Calls.{Leaves}
use Rattle.app_host.specs.Shared.{on_board, shared}
use Rattle.limit_checker.specs.Application.{LcObject}
use Rattle.limit_checker.proofs.checker.LimitCheckerApp.on_packet.Goals as goal

pub returns-clause-exact : goal.returns-clause-exact
returns-clause-exact c =
    subst (λ (lc : LcObject). IfSome lc.seat (λ seat. IfSome (next_on_packet on_board c.args.services.now.moment (LcState lc.engine) c.args.packet.now (shared c.args.services.now))
    (Leaves seat (LcState c.answer.new.self.engine) c.args.services.now c.answer.new.services)))
    c.self.view_is c.answer.ensures.answers.exact
