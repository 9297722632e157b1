use Rattle.std.proofs.Common.{◌≡◌, ◌∙◌, ap, arith, replicate}
use Rattle.packet_bus.specs.Inside.{nobody}
use Rattle.packet_bus.proofs.bus.empty_rows.Goals as goal

pub returns-clause-rows : goal.returns-clause-rows
returns-clause-rows c = let all : c.loop.counter ≡ 8192 = omega arith in c.loop.invariant.rows ∙ ap (λ n. replicate n nobody) all
