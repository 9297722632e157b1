use Rattle.std.proofs.Common.{sym, subst, ◌<◌, ◌≤◌, length, take, drop}
use Rattle.std.proofs.lemmas.List.Sums.{prefix_len-le-length}
use Rattle.lc_model.specs.Text.Token.{IsComment}
use Rattle.rule_lexer.specs.Front.{is_line_byte}
use Rattle.rule_lexer.proofs.Gaps.{comment_front, comment_is_some}
use Rattle.rule_lexer.proofs.gap.comment_length.Goals as goal

pub returns-clause-within : goal.returns-clause-within
returns-clause-within c = subst (λ n. n ≤ length c.args.rest.now) (sym c.line_length.ensures) (prefix_len-le-length is_line_byte c.args.rest.now)

pub returns-clause-some : goal.returns-clause-some
returns-clause-some c = subst (λ n. 0 < n) (sym c.line_length.ensures) (comment_is_some c.args.rest.now c.requires)

pub returns-clause-comment : goal.returns-clause-comment
returns-clause-comment c =
    subst (λ n. IsComment (take n c.args.rest.now) (drop n c.args.rest.now)) (sym c.line_length.ensures) (comment_front c.args.rest.now c.requires)
