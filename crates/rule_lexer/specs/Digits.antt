-- The number that digits write in a base.
use Rattle.std.specs.Prelude.{ℕ, Bool, ◌&&◌, if◌then◌else◌, ◌==◌, nat_lt, List, length, Option, Some, None}
use Rattle.std.specs.List.{list_all}
use Rattle.std.specs.Char.{is_ascii_digit, is_ascii_hexdigit}
use Rattle.lc_model.specs.Text.Token.{number_of_digits, at_most_32_bits}

-- Whether the byte is a digit of this base, 16 or 10.
abbrev pub is_digit_in : ℕ → ℕ → Bool
is_digit_in base = if base == 16 then is_ascii_hexdigit else is_ascii_digit

-- The number that one or more digits write in this base, if it is below 2 ^ 32.
abbrev pub value_in_base : ℕ → List ℕ → Option ℕ
value_in_base base digits =
    if nat_lt 0 (length digits) && list_all (is_digit_in base) digits then at_most_32_bits (Some (number_of_digits base digits))
    else None
