use Rattle.std.proofs.Common.{◌≡◌, ◌++◌, ◌<◌, length, arith, ◌∙◌, ap}
use Rattle.diagnostics.specs.Character.{shown, shown_of}
use Rattle.diagnostics.proofs.Steps.{shown_all, shown_next}
use Rattle.diagnostics.proofs.columns.shown_columns.Goals as goal

pub loop-rest-preserved : goal.loop-rest-preserved
loop-rest-preserved c =
    let some : 0 < length c.loop-rest.rest.now = grind (arith, c.is_empty.ensures) in
    let next = shown_next c.loop-rest.columns.items (shown c.args.bytes.now) c.front_character-character.result.0
    c.front_character-character.result.1 c.loop-rest.rest.now some c.front_character-character.ensures.some
    c.front_character-character.ensures.char c.front_character-character.ensures.size c.loop-rest.invariant in
    ap (λ items. items ++ shown c.split_at.result.1.now) c.in_ok-push_shown.ensures
    ∙ ap (λ rest. (c.loop-rest.columns.items ++ shown_of c.front_character-character.result.0) ++ shown rest) c.split_at.ensures.back ∙ next

pub returns : goal.returns
returns c =
    let none : length c.loop-rest.rest.now ≡ 0 = grind (arith, c.is_empty.ensures) in
    shown_all c.loop-rest.columns.items (shown c.args.bytes.now) c.loop-rest.rest.now none c.loop-rest.invariant
