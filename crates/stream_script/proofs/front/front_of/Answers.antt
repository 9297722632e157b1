use Rattle.std.proofs.Common.{rules, arith}
use Rattle.stream_script.proofs.InFront.{reads_so}
use Rattle.stream_script.proofs.front.front_of.Goals as goal

pub returns-clause-reads : goal.returns-clause-reads
returns-clause-reads c = reads_so c.args.bytes.now c.front_of_header.result (λ i. omega (arith, c.type_inv.bytes i)) (search rules)
