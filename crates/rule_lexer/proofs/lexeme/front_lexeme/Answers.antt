use Rattle.std.proofs.Common.{MatchResult, sym, ◌∙◌, subst}
use Rattle.rule_lexer.specs.Front.{IsBadFront, IsFrontToken}
use Rattle.rule_lexer.proofs.Judged.{sign_or_bad, wrong_byte}
use Rattle.rule_lexer.proofs.lexeme.front_lexeme.Goals as goal

pub returns-else-begins_string : goal.returns-else-begins_string
returns-else-begins_string c =
    subst (λ r. MatchResult r (IsFrontToken c.args.rest.now) (IsBadFront c.args.at c.args.rest.now)) (sym c.ok_or.ensures.value)
    (sign_or_bad c.args.at c.args.rest.now c.sign.result c.sign.ensures
    (wrong_byte c.args.rest.now c.requires.some c.requires.no_gap (sym c.begins_word.ensures ∙ c.if-begins_word.false)
    (sym c.begins_numeral.ensures ∙ c.if-begins_numeral.false) (sym c.begins_string.ensures ∙ c.if-begins_string.false)))
