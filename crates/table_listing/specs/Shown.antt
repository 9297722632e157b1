-- Bytes and numbers as printable text. This project's own.
use Rattle.std.specs.Prelude.{ℕ, ◌^◌, ◌-◌, ◌&&◌, ◌||◌, ◌==◌, Bool, true, false, if◌then◌else◌, nat_le, List, [], ◌∷◌, ◌++◌, flat_map, codes}
use Rattle.std.specs.Fmt.{digits, padded_integral, format_spec}

-- the two small hexadecimal digits of a byte
abbrev pub two_digits : ℕ → List ℕ
two_digits n = padded_integral (format_spec 32 0 4 2 (2 ^ 64 - 1)) false [] (digits 16 false n)

-- at least four capital hexadecimal digits
abbrev pub four_digits : ℕ → List ℕ
four_digits n = padded_integral (format_spec 32 0 4 4 (2 ^ 64 - 1)) false [] (digits 16 true n)

-- as many capital hexadecimal digits as the number has
abbrev pub hex_digits : ℕ → List ℕ
hex_digits n = digits 16 true n

-- bytes in hexadecimal
abbrev pub in_hex : List ℕ → List ℕ
in_hex = flat_map two_digits

-- a byte of ASCII that can be printed
abbrev pub is_printable : ℕ → Bool
is_printable b = nat_le 0x20 b && nat_le b 0x7E

-- a byte as it is if it is printable, else `\x` and its two digits
abbrev pub shown_byte : ℕ → List ℕ
shown_byte b = if is_printable b then b ∷ [] else codes "\\x" ++ two_digits b

-- the bytes in order
abbrev pub shown : List ℕ → List ℕ
shown = flat_map shown_byte

-- a byte of a name: a quote, which would end the name, and a backslash, which stands before digits, become digits too
abbrev pub named_byte : ℕ → List ℕ
named_byte b = if b == 0x22 || b == 0x5C then codes "\\x" ++ two_digits b else shown_byte b

-- the bytes of a name
abbrev pub named : List ℕ → List ℕ
named = flat_map named_byte
