-- The digits so far are digits, and the number is theirs.
use Rattle.std.proofs.Common.{◌≡◌, ◌<◌, ◌^◌, true, take}
use Rattle.std.specs.List.{list_all}
use Rattle.std.specs.Char.{is_ascii_digit}
use Rattle.lc_model.specs.Text.Token.{number_of_digits}
use Rattle.text_lines.proofs.number.decimal_number.Given as goal

abbrev pub invariant-loop-byte : goal.invariant-loop-byte
invariant-loop-byte l = record {
  digits : list_all is_ascii_digit (take l.byte-index l.word) ≡ true;
  value : l.number ≡ number_of_digits 10 (take l.byte-index l.word);
  below : l.number < 10 ^ l.byte-index;
}
