use Rattle.std.proofs.Common.{arith}
use Rattle.editor_text.proofs.Merged.{all_made}
use Rattle.editor_text.proofs.change.apply.Goals as goal

pub returns-clause-applied : goal.returns-clause-applied
returns-clause-applied c =
    all_made c.args.old.now c.loop-change.new.items c.extend_from_slice-2.new.self.items c.loop-change.at c.loop-change.change-index
    c.args.changes.now (omega arith) c.in_ok-extend_from_slice-3.ensures.items c.loop-change.invariant.same c.loop-change.invariant.apart
