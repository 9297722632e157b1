use Rattle.std.proofs.Common.{sym, ◌∙◌, ap, subst}
use Rattle.std.specs.Prelude.{IfSome}
use Rattle.app_host.specs.Seating.{IsClosed}
use Rattle.tick_scheduler.specs.Turn.{Turn}
use Rattle.tick_scheduler.proofs.Publishing.{retires, leaves_empty}
use Rattle.tick_scheduler.proofs.scheduler.SchedulerApp.retire.Goals as goal

pub returns-clause-rules : goal.returns-clause-rules
returns-clause-rules c =
    retires c.seats_are_kept_by_the_rules.ensures.closing_retires c.args.self.now.seat c.args.services.now c.close.new.self
    (subst (λ place. IfSome place (λ seat. IsClosed seat c.args.services.now c.close.new.self)) (sym (sym (ap (λ (t : Turn). t.seat) c.self.view_is) ∙ sym c.take.ensures.value ∙ c.unwrap-seat.ensures)) c.close.ensures) c.requires.idle

pub returns-clause-exact : goal.returns-clause-exact
returns-clause-exact c =
    leaves_empty c.seats_are_kept_by_the_rules.ensures.closing_leaves c.seats_are_kept_by_the_rules.ensures.no_tables_go c.args.self.now.seat c.args.self.now.schedule c.args.self.now.slot
    c.args.services.now c.close.new.self c.requires.home
    (subst (λ place. IfSome place (λ seat. IsClosed seat c.args.services.now c.close.new.self)) (sym (sym (ap (λ (t : Turn). t.seat) c.self.view_is) ∙ sym c.take.ensures.value ∙ c.unwrap-seat.ensures)) c.close.ensures) c.requires.idle
