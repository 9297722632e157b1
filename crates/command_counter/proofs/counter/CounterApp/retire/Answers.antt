use Rattle.std.proofs.Common.{sym, ◌∙◌, subst}
use Rattle.std.specs.Prelude.{IfSome}
use Rattle.app_host.specs.Seating.{IsClosed}
use Rattle.command_counter.proofs.Counting.{retires, leaves_empty}
use Rattle.command_counter.proofs.counter.CounterApp.retire.Goals as goal

pub returns-in-Some-clause-rules : goal.returns-in-Some-clause-rules
returns-in-Some-clause-rules c =
    retires c.seats_are_kept_by_the_rules.ensures.closing_retires c.args.self.now.seat c.args.services.now c.close.new.self
    (subst (λ place. IfSome place (λ seat. IsClosed seat c.args.services.now c.close.new.self)) (sym c.in-Some.is ∙ c.take.ensures.value) c.close.ensures) c.requires.idle

pub returns-in-Some-clause-exact : goal.returns-in-Some-clause-exact
returns-in-Some-clause-exact c =
    leaves_empty c.seats_are_kept_by_the_rules.ensures.closing_leaves c.seats_are_kept_by_the_rules.ensures.no_tables_go c.args.self.now.seat c.args.self.now.count
    c.args.services.now c.close.new.self c.requires.home
    (subst (λ place. IfSome place (λ seat. IsClosed seat c.args.services.now c.close.new.self)) (sym c.in-Some.is ∙ c.take.ensures.value) c.close.ensures) c.requires.idle
