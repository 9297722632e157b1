-- Lines of a text. This project's own.
use Rattle.std.specs.Prelude.{ℕ, zero, suc, ◌+◌, ◌-◌, ◌==◌, ◌&&◌, Bool, not, if◌then◌else◌, nat_lt, List, length, take, drop, count_by, slice_index}
use Rattle.std.specs.List.{prefix_len}

-- ASCII
abbrev pub line_feed : ℕ
line_feed = 10

abbrev pub carriage_return : ℕ
carriage_return = 13

abbrev pub is_line_feed : ℕ → Bool
is_line_feed byte = byte == line_feed

abbrev pub is_line_byte : ℕ → Bool
is_line_byte byte = not (byte == line_feed)

-- where the line of a place begins: after the last line feed before the place, or at the text's first byte
unfoldable pub line_start : List ℕ → ℕ → ℕ
line_start text zero = 0
line_start text (suc at) = if slice_index text at == line_feed then suc at else line_start text at

-- the line's number, from 1
abbrev pub line_number : List ℕ → ℕ → ℕ
line_number text at = count_by is_line_feed (take at text) + 1

-- the line's bytes, up to the next line feed or the text's end
abbrev pub line_of : List ℕ → ℕ → List ℕ
line_of text at =
    let rest : List ℕ = drop (line_start text at) text in take (prefix_len is_line_byte rest) rest

-- the line's last byte is a carriage return
abbrev pub ends_in_return : List ℕ → Bool
ends_in_return line = nat_lt 0 (length line) && slice_index line (length line - 1) == carriage_return

-- a line feed ends the line
abbrev pub is_closed : List ℕ → ℕ → Bool
is_closed text at = nat_lt (line_start text at + length (line_of text at)) (length text)

-- the line without a carriage return right before its line feed
abbrev pub written_line : List ℕ → ℕ → List ℕ
written_line text at =
    let line : List ℕ = line_of text at in
    if is_closed text at && ends_in_return line then take (length line - 1) line else line
