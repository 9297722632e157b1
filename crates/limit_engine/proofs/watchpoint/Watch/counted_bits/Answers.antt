use Rattle.std.proofs.Common.{◌∙◌, sym, ap, arith}
use Rattle.std.specs.Prelude.{bit_and}
use Rattle.limit_engine.proofs.LowBytes.{counted}
use Rattle.limit_engine.proofs.watchpoint.Watch.counted_bits.Goals as goal

pub returns-then-self : goal.returns-then-self
returns-then-self c =
    let watch = c.args.self.now in
    ap (λ n. bit_and n watch.mask) c.four_bytes.ensures
    ∙ counted watch.kind c.args.packet.now (λ i. omega (arith, c.type_inv.packet i)) watch.start watch.need watch.mask c.requires.fit.need c.requires.fit.mask (sym c.requires.fit.by_four ∙ c.if-self.true)
