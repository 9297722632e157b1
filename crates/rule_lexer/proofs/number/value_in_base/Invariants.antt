use Rattle.std.proofs.Common.{◌≡◌, ◌<◌, ◌^◌, true, take}
use Rattle.std.specs.List.{list_all}
use Rattle.lc_model.specs.Text.Token.{number_of_digits}
use Rattle.rule_lexer.specs.Digits.{is_digit_in}
use Rattle.rule_lexer.proofs.number.value_in_base.Given as goal

abbrev pub invariant-loop-byte : goal.invariant-loop-byte
invariant-loop-byte l = record {
  all_digits : list_all (is_digit_in l.base) (take l.byte-index l.digits) ≡ true;
  value_is : l.value ≡ number_of_digits l.base (take l.byte-index l.digits);
  fits : l.value < 2 ^ 32;
}
