use Rattle.std.proofs.Common.{rules}
use Rattle.rule_analysis.proofs.LaidLaws.{laid_already, laid_newly}
use Rattle.rule_analysis.proofs.packets.join.Goals as goal

pub returns-in_ok-push : goal.returns-in_ok-push
returns-in_ok-push c = λ before so_far.
    laid_newly c.args.chosen.now before c.args.one.now c.args.packets.now.items c.push.new.self.items c.in_ok-packet_of.field-0
    c.in_ok-packet_of.ensures c.in_ok-push.ensures.items so_far

pub returns-else-is_none : goal.returns-else-is_none
returns-else-is_none c = λ before so_far. laid_already c.args.chosen.now before c.args.one.now c.args.packets.now.items (search rules) so_far
