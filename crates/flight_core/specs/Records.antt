-- The state of `Records`, and what its calls do. This project's own.
use Rattle.std.specs.Prelude.{ℕ, ◌+◌, ◌-◌, min, Bool, true, false, List, [], ◌++◌, length, take, if◌then◌else◌, Option, Some, None, ⊤}
use Rattle.lc_model.specs.Host.Stream.{Front, EndOfStream, Record, NoRecord, CutRecord, all_kinds, body_size, front, header_size}
use Rattle.flight_core.specs.Answer.{Answer, Entry, Bad}

-- The unread bytes; the record handed out last, until the next piece; the number of records handed out, up to 2^64 - 1; whether
-- the next record is bad; and the number of rule texts.
pub record Held : Type 0 where
  pub bytes : List ℕ
  pub last : List ℕ
  pub count : ℕ
  pub is_bad : Bool
  pub texts : ℕ

-- The most bytes of a piece.
abbrev pub piece_size : ℕ
piece_size = 8192

-- The most unread bytes: a longest record and a piece.
abbrev pub most_held : ℕ
most_held = 73739

-- The greatest count, 2^64 - 1.
abbrev pub most_counted : ℕ
most_counted = 18446744073709551615

-- New `Records`.
abbrev pub nothing_held : ℕ → Held
nothing_held texts = record { bytes = []; last = []; count = 0; is_bad = false; texts = texts }

-- ---- `feed`

-- The bytes that are taken of a piece: as many as there is room for, none after a bad record.
abbrev pub taken_of : Held → List ℕ → List ℕ
taken_of held piece = if held.is_bad then [] else take (most_held - length held.bytes) piece

-- The state after `feed`.
abbrev pub fed : Held → List ℕ → Held
fed held piece = record held { bytes = held.bytes ++ taken_of held piece; last = [] }

-- ---- `next`

-- What the unread bytes begin with.
abbrev pub front_of : Held → Front
front_of held = front all_kinds held.texts held.bytes

-- The bytes of the next record, header and body.
abbrev pub first_record : List ℕ → List ℕ
first_record bytes = take (header_size + body_size bytes) bytes

-- The number of the next record.
abbrev pub next_number : Held → ℕ
next_number held = min (held.count + 1) most_counted

-- What `next` returns, by what the unread bytes begin with.
abbrev pub answer_by : Held → Front → Option Answer
answer_by held (Record entry rest) = Some (Entry entry)
answer_by held NoRecord = Some (Bad (next_number held))
answer_by held EndOfStream = None
answer_by held CutRecord = None

-- The state after it.
abbrev pub after_by : Held → Front → Held
after_by held (Record entry rest) = record held { bytes = rest; last = first_record held.bytes; count = next_number held }
after_by held NoRecord = record held { is_bad = true }
after_by held EndOfStream = held
after_by held CutRecord = held

-- What `next` returns: a record, a bad record's number, or nothing yet.
abbrev pub next_answer : Held → Option Answer
next_answer held = answer_by held (front_of held)

-- The state after `next`.
abbrev pub after_next : Held → Held
after_next held = after_by held (front_of held)

-- `next` returns a record.
abbrev pub IsRecord : Option Answer → Type 0
IsRecord (Some (Entry entry)) = ⊤
IsRecord (Some (Bad number)) = ⊥
IsRecord None = ⊥
