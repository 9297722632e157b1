-- The digits so far are digits, and the number is theirs.
use Rattle.std.proofs.Common.{◌≡◌, ◌<◌, ◌^◌, true, take}
use Rattle.std.specs.List.{list_all}
use Rattle.std.specs.Char.{is_ascii_hexdigit}
use Rattle.lc_model.specs.Text.Token.{number_of_digits}
use Rattle.scenarios.proofs.number.hexadecimal.Given as goal

abbrev pub invariant-loop-byte : goal.invariant-loop-byte
invariant-loop-byte l = record {
  digits : list_all is_ascii_hexdigit (take l.byte-index l.digits) ≡ true;
  value : l.number ≡ number_of_digits 16 (take l.byte-index l.digits);
  below : l.number < 16 ^ l.byte-index;
}
