use Rattle.std.proofs.Common.{◌≡◌, ◌-◌, ◌≤◌, drop, take, length, sym, ◌∙◌, subst}
use Rattle.std.proofs.lemmas.List.{take_rest}
use Rattle.lc_model.specs.Text.Token.{IsComment}
use Rattle.rule_lexer.proofs.Gaps.{no_gap_yet, blank_more, comment_more}
use Rattle.rule_lexer.proofs.gap.gap_length.Goals as goal

pub loop-count-init : goal.loop-count-init
loop-count-init c = no_gap_yet c.args.rest.now

pub loop-count-preserved-then-is_blank : goal.loop-count-preserved-then-is_blank
loop-count-preserved-then-is_blank c =
    blank_more c.args.rest.now c.loop-count.count c.loop-count.invariant c.loop-count-test.true (sym c.is_blank.ensures ∙ c.if-is_blank.true)

pub loop-count-preserved : goal.loop-count-preserved
loop-count-preserved c =
    let behind : take (length c.args.rest.now - c.loop-count.count) (drop c.loop-count.count c.args.rest.now) ≡ drop c.loop-count.count c.args.rest.now =
    take_rest c.args.rest.now c.loop-count.count in
    let k = c.comment_length-count.result in
    comment_more c.args.rest.now c.loop-count.count k c.loop-count.invariant
    (subst (λ xs. k ≤ length xs) behind c.comment_length-count.ensures.within)
    (subst (λ xs. IsComment (take k xs) (drop k xs)) behind c.comment_length-count.ensures.comment)
