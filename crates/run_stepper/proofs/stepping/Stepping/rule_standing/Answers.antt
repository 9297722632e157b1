use Rattle.std.proofs.Common.{ap, ◌∙◌}
use Rattle.run_stepper.specs.Stepping.{host_in}
use Rattle.run_stepper.specs.Trace.{standing_in}
use Rattle.run_stepper.proofs.Tracing.{same_engine}
use Rattle.run_stepper.proofs.stepping.Stepping.rule_standing.Goals as goal

pub returns : goal.returns
returns c =
    c.standing_in.ensures
    ∙ ap (λ own. standing_in own c.args.rule) (c.checker.ensures ∙ same_engine (host_in c.args.self.now).host.seats)
