use Rattle.std.proofs.Common.{◌∙◌, ap}
use Rattle.lc_model.specs.Kept.Summary.{SchState}
use Rattle.tick_scheduler.specs.Turn.{Turn}
use Rattle.tick_scheduler.proofs.Publishing.{starts, start_settles}
use Rattle.tick_scheduler.proofs.scheduler.SchedulerApp.start.Goals as goal

pub returns-clause-rules : goal.returns-clause-rules
returns-clause-rules c = c.seats_are_kept_by_the_rules.ensures.opening_starts c.args.seat _ _ c.args.services.now c.open.new.self c.open.ensures c.requires.free

pub returns-clause-exact : goal.returns-clause-exact
returns-clause-exact c =
    starts c.seats_are_kept_by_the_rules.ensures.opening_leaves c.args.seat c.args.services.now c.open.new.self c.open.ensures c.requires.free c.args.self.now.schedule c.args.self.now.slot _
    (ap (λ (t : Turn). SchState t.schedule t.slot) c.begin.ensures ∙ ap (λ (t : Turn). SchState t.schedule 0) c.self.view_is)

pub returns-clause-settled : goal.returns-clause-settled
returns-clause-settled c = start_settles c.seats_are_kept_by_the_rules.ensures.opening_settles c.args.seat c.args.services.now c.open.new.self c.open.ensures c.requires.free _ _
