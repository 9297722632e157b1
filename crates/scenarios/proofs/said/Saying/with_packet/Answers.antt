-- The line is the packet's, and the packet is counted.
use Rattle.std.proofs.Common.{rules, ◌≡◌, subst, Result, Ok}
use Rattle.std.specs.Prelude.{IfErr, IfOk}
use Rattle.scenarios.specs.declared.error.Reason.{Reason}
use Rattle.scenarios.specs.Error.{IsRefused}
use Rattle.scenarios.specs.Said.{Said}
use Rattle.scenarios.proofs.Packets.{there, with_packet_is}
use Rattle.scenarios.proofs.said.Saying.with_packet.Goals as goal

pub returns-clause-said : goal.returns-clause-said
returns-clause-said c =
    let at = there c.args.self.packets c.args.place c.index.result.now (search rules) (search rules) in
    subst (λ (r : Result Said Reason). IfOk c.with_line.result (λ after. r ≡ Ok after))
    (with_packet_is c.args.n c.args.place c.args.self c.count_packet.result c.index.result.now c.as_slice.result.now at (search rules) (c.count_packet.ensures c.index.result.now at))
    c.with_line.ensures.said

pub returns-clause-refused : goal.returns-clause-refused
returns-clause-refused c =
    let at = there c.args.self.packets c.args.place c.index.result.now (search rules) (search rules) in
    subst (λ (r : Result Said Reason). IfErr c.with_line.result (IsRefused r))
    (with_packet_is c.args.n c.args.place c.args.self c.count_packet.result c.index.result.now c.as_slice.result.now at (search rules) (c.count_packet.ensures c.index.result.now at))
    c.with_line.ensures.refused
