-- The most bytes of a number in an event's text. This project's own.
use Rattle.std.specs.Prelude.{ℕ}

-- A number with its space: at most ten decimal digits.
abbrev pub longest_number : ℕ
longest_number = 11

-- A message id: four hexadecimal digits.
abbrev pub hex_size : ℕ
hex_size = 4
