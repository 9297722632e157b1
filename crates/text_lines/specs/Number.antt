-- Decimal numbers. This project's own.
use Rattle.std.specs.Prelude.{ℕ, ◌&&◌, List, length, nat_lt, nat_le, Option, Some, None, if◌then◌else◌}
use Rattle.std.specs.List.{list_all}
use Rattle.std.specs.Char.{is_ascii_digit}
use Rattle.lc_model.specs.Text.Token.{number_of_digits}

-- a number of at least one decimal digit, and of at most this many
abbrev pub decimal_number : ℕ → List ℕ → Option ℕ
decimal_number most word =
    if nat_lt 0 (length word) && nat_le (length word) most && list_all is_ascii_digit word then Some (number_of_digits 10 word) else None
