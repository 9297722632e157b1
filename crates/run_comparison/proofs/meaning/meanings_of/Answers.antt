use Rattle.std.proofs.Common.{rules, sym}
use Rattle.run_comparison.specs.Meaning.{all_held, meanings_in}
use Rattle.run_comparison.proofs.Packets.{meaning_more, meanings_over}
use Rattle.run_comparison.proofs.meaning.meanings_of.Goals as goal

pub loop-packet-preserved : goal.loop-packet-preserved
loop-packet-preserved c =
    meaning_more c.args.sort (all_held c.loop-packet.all.items) (all_held c.push_meaning.new.all.items) (meanings_in c.args.sort c.args.packets.now) c.loop-packet.rest.now c.in-Some.packet.now c.in-Some.others.now
    c.loop-packet.invariant (sym c.in-Some.ensures.whole) (search rules) (search rules) (search rules)

pub returns : goal.returns
returns c = meanings_over c.args.sort (all_held c.loop-packet.all.items) (meanings_in c.args.sort c.args.packets.now) c.loop-packet.rest.now c.loop-packet.invariant (sym c.in_default.ensures.whole)
