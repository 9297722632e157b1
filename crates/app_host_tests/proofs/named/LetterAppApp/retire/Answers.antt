use Rattle.std.proofs.Common.{sym, ◌∙◌, subst}
use Rattle.std.specs.Prelude.{IfSome}
use Rattle.app_host.specs.Seating.{IsClosed}
use Rattle.app_host_tests.proofs.Names.{retires}
use Rattle.app_host_tests.proofs.named.LetterAppApp.retire.Goals as goal

pub returns-in-Some-clause-rules : goal.returns-in-Some-clause-rules
returns-in-Some-clause-rules c =
    retires c.seats_are_kept_by_the_rules.ensures.closing_retires c.args.self.now.seat c.args.self.now.name c.args.services.now c.leave.new.services
    (subst (λ place. IfSome place (λ seat. IsClosed seat c.args.services.now c.leave.new.services)) (sym c.in-Some.is ∙ c.take.ensures.value) c.leave.ensures) c.requires.idle
