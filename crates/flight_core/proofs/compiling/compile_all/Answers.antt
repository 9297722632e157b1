use Rattle.std.proofs.Common.{sym, subst, ◌+◌, take, arith}
use Rattle.flight_core.specs.Compiled.{sources_of, AreAllCompiled}
use Rattle.flight_core.proofs.TextsCompiled.{one_more, refused}
use Rattle.flight_core.proofs.compiling.compile_all.Goals as goal

pub returns-in-Err-clause-refused : goal.returns-in-Err-clause-refused
returns-in-Err-clause-refused c =
    refused (sources_of c.args.texts.now) c.loop-number.pairs.items c.loop-number.number c.text_at.result.now c.in-Err.error
    c.text_at.ensures
    c.loop-number.invariant.2 c.in-Err.ensures.refused c.in-Err.ensures.named c.refusal.result c.refusal.ensures

pub loop-number-preserved : goal.loop-number-preserved
loop-number-preserved c =
    let said = c.in-Ok.ensures.compiles in (
      omega (arith, c.push_reserved.ensures.len, c.loop-number.invariant.0),
      omega (arith, c.push_reserved.ensures.capacity, c.loop-number.invariant.1),
      subst (AreAllCompiled (take (c.loop-number.number + 1) (sources_of c.args.texts.now))) (λ i. sym c.push_reserved.ensures.items i)
          (one_more (sources_of c.args.texts.now) c.loop-number.pairs.items c.loop-number.number c.text_at.result.now c.in-Ok.pair
          c.text_at.ensures
          c.loop-number.invariant.2 (record { rules = said.0; compiles = said.1; tables = said.2 })),
    )
