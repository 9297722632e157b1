use Rattle.std.proofs.Common.{◌≡◌, ◌∙◌, ap, subst, Some, arith}
use Rattle.std.proofs.lemmas.Int.{ints, to_z-of_z}
use Rattle.lc_model.specs.Text.Token.{number}
use Rattle.rule_lexer.specs.Token.{IsKind}
use mir.Val.{to_z, of_z}
use mir.Syntax.{w64}
use Rattle.rule_parser.proofs.TokenFronts.{no_number_at_end, no_number, number_taken, is_no_number, number_below}
use Rattle.rule_parser.proofs.cursor.Cursor.number.Goals as goal

pub returns-in_err-token : goal.returns-in_err-token
returns-in_err-token c = rw c.from_residual.ensures (no_number_at_end _ c.in_err-token.ensures)

pub returns-in-Number : goal.returns-in-Number
returns-in-Number c =
    let same : c.in-Number.value ≡ to_z w64 (of_z w64 c.in-Number.value) = omega (arith, ints) in
    number_taken _ _ c.in_ok-token.token c.in_ok-token.ensures _ c.in-Number.is
    ∙ ap (λ z. Some (record { at = c.in_ok-token.token.at; value = z }, c.next.new.self)) same

pub returns-in_default : goal.returns-in_default
returns-in_default c =
    no_number _ _ c.in_ok-token.token c.in_ok-token.ensures (is_no_number c.in_ok-token.token.kind c.in_default.not-Number)

pub invariant_of-result : goal.invariant_of-result
invariant_of-result c =
    let read : number c.in_ok-token.token.text.now ≡ Some c.in-Number.value =
    subst (λ kind. IsKind kind c.in_ok-token.token.text.now) c.in-Number.is c.in_ok-token.ensures.1.kind in
    let small = number_below c.in_ok-token.token.text.now c.in-Number.value read in
    grind (arith, to_z-of_z)
