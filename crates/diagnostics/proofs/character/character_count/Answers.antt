use Rattle.std.proofs.Common.{◌≡◌, ◌+◌, ◌<◌, length, arith, sym, subst}
use Rattle.diagnostics.specs.Character.{characters}
use Rattle.diagnostics.proofs.Steps.{counted, counted_all}
use Rattle.diagnostics.proofs.character.character_count.Goals as goal

pub loop-rest-preserved : goal.loop-rest-preserved
loop-rest-preserved c =
    let some : 0 < length c.loop-rest.rest.now = grind (arith, c.is_empty.ensures) in (
      subst (λ rest. c.loop-rest.count + 1 + length (characters rest) ≡ length (characters c.args.bytes.now))
          (sym c.split_at.ensures.back)
          (counted c.loop-rest.count (length (characters c.args.bytes.now)) c.front_character.result.1 c.loop-rest.rest.now some
          c.front_character.ensures.some c.front_character.ensures.size c.loop-rest.invariant.0),
      omega (arith, c.split_at.ensures.back_len, c.front_character.ensures.some, c.loop-rest.invariant.1),
    )

pub returns-clause-value : goal.returns-clause-value
returns-clause-value c =
    let none : length c.loop-rest.rest.now ≡ 0 = grind (arith, c.is_empty.ensures) in
    counted_all c.loop-rest.count (length (characters c.args.bytes.now)) c.loop-rest.rest.now none c.loop-rest.invariant.0
