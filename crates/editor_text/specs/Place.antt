-- Places of a text: lines and UTF-16 units (Language Server Protocol 3.17, "Position").
use Rattle.std.specs.Prelude.{ℕ, zero, suc, ◌+◌, ◌-◌, ◌^◌, min, Bool, not, ◌||◌, ◌&&◌, if◌then◌else◌, ◌==◌, nat_lt, nat_le, List, length, slice_index}
use Rattle.editor_text.specs.declared.position.UnitPlace.{UnitPlace}

-- ASCII
abbrev pub line_feed : ℕ
line_feed = 10

abbrev pub carriage_return : ℕ
carriage_return = 13

-- a byte of UTF-8 that isn't the first of its character
abbrev pub is_continuation : ℕ → Bool
is_continuation byte = nat_le 0x80 byte && nat_lt byte 0xC0

-- the UTF-16 units of a character, counted at its first byte; the other bytes count none
abbrev pub units_of : ℕ → ℕ
units_of byte = if is_continuation byte then 0 else if nat_le 0xF0 byte then 2 else 1

-- a sum as the program counts it
abbrev pub plus : ℕ → ℕ → ℕ
plus a b = min (a + b) (2 ^ 32 - 1)

-- whether a place stands between a carriage return and the line feed after it, where `at` is the place before both
abbrev pub is_pair : List ℕ → ℕ → Bool
is_pair text at = slice_index text at == carriage_return && slice_index text (at + 1) == line_feed

-- whether a line ends with this byte: with a line feed, or a carriage return that no line feed follows
abbrev pub ends_line : List ℕ → ℕ → Bool
ends_line text at =
    slice_index text at == line_feed || (slice_index text at == carriage_return && not (slice_index text (at + 1) == line_feed))

-- the place after this byte, whose own place is given
abbrev pub next_place : List ℕ → ℕ → UnitPlace → UnitPlace
next_place text at place =
    if ends_line text at then record { line = plus place.line 1; unit = 0 } else
    record { line = place.line; unit = plus place.unit (units_of (slice_index text at)) }

-- the place of the byte that has so many bytes before it
unfoldable pub place_of : List ℕ → ℕ → UnitPlace
place_of text zero = record { line = 0; unit = 0 }
place_of text (suc at) = next_place text at (place_of text at)

-- whether a place stands after another
abbrev pub is_after : UnitPlace → UnitPlace → Bool
is_after a b = nat_lt b.line a.line || (a.line == b.line && nat_lt b.unit a.unit)

-- on from a byte while the place of the next one, of so many, isn't after this place
unfoldable pub reach : List ℕ → UnitPlace → ℕ → ℕ → ℕ
reach text place at zero = at
reach text place at (suc left) =
    if is_after (place_of text (suc at)) place then at else reach text place (suc at) left

-- a place between a carriage return and a line feed is the one before both
abbrev pub before_pair : List ℕ → ℕ → ℕ
before_pair text at = if nat_lt 0 at && is_pair text (at - 1) then at - 1 else at

-- how many bytes stand before a place: those of the last place that isn't after it
abbrev pub offset_of : List ℕ → UnitPlace → ℕ
offset_of text place = before_pair text (reach text place 0 (length text))
