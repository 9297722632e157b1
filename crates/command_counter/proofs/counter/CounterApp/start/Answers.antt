use Rattle.std.proofs.Common.{refl, sym}
use Rattle.command_counter.proofs.counter.CounterApp.start.Goals as goal
use Rattle.lc_model.specs.Kept.Summary.{CounterState}
use Rattle.command_counter.proofs.Counting.{starts, own_id}

pub returns-clause-rules : goal.returns-clause-rules
returns-clause-rules c = c.seats_are_kept_by_the_rules.ensures.opening_starts c.args.seat _ _ c.args.services.now c.open.new.self c.open.ensures c.requires.free

pub returns-clause-exact : goal.returns-clause-exact
returns-clause-exact c = starts c.seats_are_kept_by_the_rules.ensures.opening_leaves c.args.seat c.args.services.now c.open.new.self c.open.ensures c.requires.free c.args.self.now.count

pub returns-clause-settled : goal.returns-clause-settled
returns-clause-settled c = c.seats_are_kept_by_the_rules.ensures.opening_settles c.args.seat _ _ c.args.services.now c.open.new.self c.open.ensures c.requires.free (CounterState 0) refl refl (sym own_id)
