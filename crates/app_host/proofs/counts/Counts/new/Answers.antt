use Rattle.std.proofs.Common.{◌≡◌, ◌∙◌, ap, arith, replicate}
use Rattle.app_host.proofs.counts.Counts.new.Goals as goal

pub returns : goal.returns
returns c = let all : c.loop.counter ≡ 8192 = omega arith in c.loop.invariant.counts ∙ ap (λ n. replicate n 0) all
