use Rattle.std.proofs.Common.{sym, ◌∙◌, arith}
use Rattle.rule_lexer.proofs.Strings.{string_by_parts, no_string_by_parts}
use Rattle.rule_lexer.proofs.string_literals.string_length.Goals as goal
use Rattle.rule_lexer.proofs.string_literals.string_length.Goals.{else-count-le-LONGEST_STRING-via-then-count-le-LONGEST_STRING+else-begins_string, else-count-le-LONGEST_STRING-via-else-count-le-LONGEST_STRING}

pub returns-then-begins_string : goal.returns-then-begins_string
returns-then-begins_string c =
    string_by_parts c.args.rest.now c.split_at.result.1.now c.split_at-2.result.1.now c.inner_length-count.result c.requires
    c.split_at.ensures.back c.inner_length-count.ensures.value c.split_at-2.ensures.back
    c.if-count-le-LONGEST_STRING.true (sym c.begins_string.ensures ∙ c.if-begins_string.true)

pub returns-else-count-le-LONGEST_STRING : goal.returns-else-count-le-LONGEST_STRING
returns-else-count-le-LONGEST_STRING c =
    no_string_by_parts c.args.rest.now c.split_at.result.1.now c.split_at-2.result.1.now c.inner_length-count.result c.requires
    c.split_at.ensures.back c.inner_length-count.ensures.value c.split_at-2.ensures.back
    (λ short ends. elim c.else-count-le-LONGEST_STRING.branch [
      | else-count-le-LONGEST_STRING-via-then-count-le-LONGEST_STRING+else-begins_string w ↦ cc (w.begins_string.ensures, w.if-begins_string.false, ends)
      | else-count-le-LONGEST_STRING-via-else-count-le-LONGEST_STRING w ↦ omega arith
    ])
