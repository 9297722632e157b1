-- The name was compared with the others so far.
use Rattle.std.proofs.Common.{◌≡◌, ℕ, List, map, take, Bor}
use Rattle.program_io.specs.FileCall.{all_apart, followed_by}
use Rattle.program_io.proofs.named.check_apart.Given as goal

abbrev pub invariant-loop-other : goal.invariant-loop-other
invariant-loop-other g l = g.D.Disk.calls l.disk ≡ followed_by (g.D.Disk.calls l.initial.disk) (all_apart l.name (map (λ (other : Bor (List ℕ)). other.now) (take l.other-index l.others)))
