use Rattle.std.proofs.Common.{◌+◌, ◌≤◌, length, take}
use Rattle.lc_model.specs.Name.{lc_name}
use Rattle.app_host.specs.Telling.{Tells}
use Rattle.limit_engine.specs.Reactions.{requests_in}
use Rattle.limit_checker.specs.Sending.{MaySend, sizes}
use Rattle.limit_checker.proofs.reacting.tell_all.Given as goal

abbrev pub invariant-loop-item : goal.invariant-loop-item
invariant-loop-item l = record {
  told : Tells l.from lc_name (requests_in l.engine.rules (take l.item-index l.asked)) l.initial.services l.services;
  size : length l.services.outgoing ≤ length l.initial.services.outgoing + sizes (requests_in l.engine.rules (take l.item-index l.asked));
  sends : MaySend l.from l.services;
}
