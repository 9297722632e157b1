-- How the next record is judged. This project's own format.
use Rattle.std.specs.Prelude.{◌≡◌, ℕ, ◌+◌, ◌-◌, ◌<◌, ◌≤◌, List, [], ◌∷◌, length, take, drop, ⊤}
use Rattle.lc_model.specs.Name.{name_in, name_size}
use Rattle.lc_model.specs.Host.Stream.{Contents, StreamEntry, header_size, all_kinds, body_size, moment_of, front}
use Rattle.lc_model.specs.Host.Stream as stream
use Rattle.flight_core.specs.declared.front.Shape.{Shape}
use Rattle.flight_core.specs.declared.front.Shape.TheVariants as shape
use Rattle.flight_core.specs.declared.front.Front.{Front}
use Rattle.flight_core.specs.declared.front.Front.TheVariants.{Part, NoRecord, Record}

-- What a record of this shape and body brings.
abbrev pub contents_by : List ℕ → Shape → Contents
contents_by body shape.Packet = stream.Packet body
contents_by body shape.Tick = stream.Tick
contents_by body shape.File = stream.File (name_in (take name_size body)) (drop name_size body)
contents_by body (shape.Half kind text) = stream.Half (name_in (take name_size body)) kind text

-- The body of a file or a half has room for a file name.
abbrev pub HasName : Shape → ℕ → Type 0
HasName shape.File size = name_size ≤ size
HasName (shape.Half kind text) size = name_size ≤ size
HasName shape.Packet size = ⊤
HasName shape.Tick size = ⊤

-- A half names a text below the number of texts.
abbrev pub IsOfText : ℕ → Shape → Type 0
IsOfText texts (shape.Half kind text) = text < texts
IsOfText texts other = ⊤

-- The record of this shape in these bytes.
abbrev pub entry_by : Shape → List ℕ → StreamEntry
entry_by shape bytes = record { moment = moment_of bytes; contents = contents_by (drop header_size bytes) shape }

-- Nothing, or a part of a record.
abbrev pub part_of : List ℕ → stream.Front
part_of [] = stream.EndOfStream
part_of (byte ∷ bytes) = stream.CutRecord

-- The bytes begin with a whole record of this shape and size.
pub record IsWhole (texts : ℕ) (bytes : List ℕ) (shape : Shape) (size : ℕ) : Type 0 where
  pub inside : size ≤ length bytes
  pub long : header_size ≤ size
  pub sized : size ≡ header_size + body_size bytes
  pub named : HasName shape (size - header_size)
  pub text : IsOfText texts shape
  pub is : front all_kinds texts bytes ≡ stream.Record (entry_by shape (take size bytes)) (drop size bytes)

-- The judgement is what the bytes begin with. A part of a record is shorter than a longest record, which has 11 + 65,536 bytes.
abbrev pub IsFront : ℕ → List ℕ → Front → Type 0
IsFront texts bytes Part = (front all_kinds texts bytes ≡ part_of bytes) × (length bytes < 65547)
IsFront texts bytes NoRecord = front all_kinds texts bytes ≡ stream.NoRecord
IsFront texts bytes (Record shape size) = IsWhole texts bytes shape size
