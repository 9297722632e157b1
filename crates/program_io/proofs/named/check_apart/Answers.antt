use Rattle.std.proofs.Common.{refl, []}
use Rattle.program_io.proofs.Stopping.{one_of_these_stops}
use Rattle.program_io.proofs.named.check_apart.Goals as goal

pub returns-then-is_one_file-clause-refused : goal.returns-then-is_one_file-clause-refused
returns-then-is_one_file-clause-refused g c =
    one_of_these_stops c.args.name _ c.args.others.now c.loop-other.other-index (record { ref_ptr = (0, 0); now = [] }) _ _ _ _ c.loop-other-test.true refl c.loop-other.invariant c.if-is_one_file.ensures
