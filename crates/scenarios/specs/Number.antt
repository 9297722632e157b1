-- Numbers in scenarios. This project's own.
use Rattle.std.specs.Prelude.{ℕ, ◌&&◌, List, length, take, drop, codes, bytes_eq, nat_lt, nat_le, Option, Some, None, Result, Ok, Err, ℤ, if◌then◌else◌}
use Rattle.std.specs.List.{list_all}
use Rattle.std.specs.Char.{is_ascii_hexdigit}
use Rattle.lc_model.specs.Text.Token.{magnitude_text, number_of_digits, with_sign}
use Rattle.stream_script.specs.Number.{decimal_number}
use Rattle.scenarios.specs.declared.error.Reason.{Reason}
use Rattle.scenarios.specs.declared.error.Reason.TheVariants.{BadNumber}
use Rattle.scenarios.specs.Error.{◌>>=◌}

-- a number of 1 to 8 hexadecimal digits
abbrev pub hexadecimal : List ℕ → Option ℕ
hexadecimal digits =
    if nat_lt 0 (length digits) && nat_le (length digits) 8 && list_all is_ascii_hexdigit digits then Some (number_of_digits 16 digits) else None

-- the number that digits write: hexadecimal ones after `0x`, or those of a plain script
abbrev pub magnitude_in : List ℕ → Option ℕ
magnitude_in word = if bytes_eq (take 2 word) (codes "0x") then hexadecimal (drop 2 word) else decimal_number word

-- a number that is not over the greatest
abbrev pub at_most : ℕ → Option ℕ → Result ℕ Reason
at_most most None = Err BadNumber
at_most most (Some number) = if nat_le number most then Ok number else Err BadNumber

-- the number that a word writes, from 0 to the greatest
abbrev pub number_in : ℕ → List ℕ → Result ℕ Reason
number_in most word = at_most most (magnitude_in word)

-- the value that a word writes: a number of 32 bits without its sign, which is `-` where it is negative
abbrev pub value_in : List ℕ → Result ℤ Reason
value_in word = do
  n ← number_in 4294967295 (magnitude_text word)
  Ok (with_sign (bytes_eq (take 1 word) (codes "-")) n)
