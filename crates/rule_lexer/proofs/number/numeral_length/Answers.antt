use Rattle.std.proofs.Common.{◌≡◌, ◌+◌, ◌-◌, length, arith}
use Rattle.std.specs.List.{prefix_len}
use Rattle.lc_model.specs.Text.Token.{is_numeral, is_word_byte, magnitude_text}
use Rattle.rule_lexer.specs.Front.{IsFront}
use Rattle.rule_lexer.proofs.Numerals.{numeral_front}
use Rattle.rule_lexer.proofs.number.numeral_length.Goals as goal
use Rattle.rule_lexer.proofs.number.numeral_length.Goals.{After-run_length}

-- what the sign and the run behind it have together
front : (c : After-run_length) → IsFront is_numeral c.args.rest.now (length c.args.rest.now - length c.without_sign-digits.result.now + c.run_length.result)
front c =
    let run : c.run_length.result ≡ prefix_len is_word_byte c.without_sign-digits.result.now = c.run_length.ensures in
    let digits : c.without_sign-digits.result.now ≡ magnitude_text c.args.rest.now = c.without_sign-digits.ensures in
    rw (run, digits) (numeral_front c.args.rest.now c.requires)

pub overflow_add-result : goal.overflow_add-result
overflow_add-result c = let within = (front c).within in omega (arith, within)

pub returns : goal.returns
returns c = front c
