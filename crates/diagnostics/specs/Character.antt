-- Characters of a line, and the columns that show them. A character is a UTF-8 sequence (the Unicode Standard, Table 3-7); a byte
-- that is in none is one by itself. This project's own.
use Rattle.std.specs.Prelude.{ℕ, zero, suc, ◌+◌, ◌-◌, ◌==◌, ◌&&◌, ◌||◌, Bool, if◌then◌else◌, nat_le, List, [], ◌∷◌, length, drop, take, flat_map, Option, Some, None}
use Rattle.bstr.specs.Utf8.{decoded}
use Rattle.diagnostics.specs.Line.{line_start}

-- U+FFFD
abbrev pub replacement : ℕ
replacement = 0xFFFD

-- the character that was decoded, or the sign for a byte that is in none; and its bytes
abbrev pub char_or : Option ℕ → ℕ
char_or None = replacement
char_or (Some char) = char

abbrev pub size_or : Option ℕ → ℕ → ℕ
size_or None size = 1
size_or (Some char) size = size

-- the character in front, and its bytes
abbrev pub char_in_front : List ℕ → ℕ
char_in_front bytes = char_or (decoded bytes).char

abbrev pub size_in_front : List ℕ → ℕ
size_in_front bytes = size_or (decoded bytes).char (decoded bytes).size

-- the characters after this many bytes, which belong to the character before
abbrev pub characters_behind : ℕ → List ℕ → List ℕ
characters_behind left [] = []
characters_behind zero (byte ∷ bytes) =
    char_in_front (byte ∷ bytes) ∷ characters_behind (size_in_front (byte ∷ bytes) - 1) bytes
characters_behind (suc left) (byte ∷ bytes) = characters_behind left bytes

-- all characters
unfoldable pub characters : List ℕ → List ℕ
characters bytes = characters_behind 0 bytes

-- the column of a place: one more than there are characters before it in its line
abbrev pub column : List ℕ → ℕ → ℕ
column text at = length (characters (drop (line_start text at) (take at text))) + 1

-- between two numbers, or one of them
abbrev is_from : ℕ → ℕ → ℕ → Bool
is_from low high code = nat_le low code && nat_le code high

-- a control character, and one that changes the direction of what follows (the Unicode Standard's Bidi_Control)
abbrev pub is_control : ℕ → Bool
is_control code = is_from 0 0x1F code || is_from 0x7F 0x9F code

abbrev pub is_direction : ℕ → Bool
is_direction code =
    code == 0x61C || is_from 0x200E 0x200F code || is_from 0x202A 0x202E code || is_from 0x2066 0x2069 code

abbrev pub tab : ℕ
tab = 9

abbrev pub blank : ℕ
blank = 32

-- the columns that show a character: four blanks a tab, one sign for what can't be shown
abbrev pub shown_of : ℕ → List ℕ
shown_of char =
    if char == tab then blank ∷ blank ∷ blank ∷ blank ∷ []
    else if is_control char || is_direction char then replacement ∷ [] else char ∷ []

-- the columns that show some bytes
abbrev pub shown : List ℕ → List ℕ
shown bytes = flat_map shown_of (characters bytes)
