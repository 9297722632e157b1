-- What stands at the front of a stream, by its kind. This project's own.
use Rattle.std.specs.Prelude.{◌≡◌, ℕ, ◌+◌, ◌-◌, ◌≤◌, not, ◌==◌, List, [], length, take, drop, slice_index, nat_lt, Option, Some, None, if◌then◌else◌, ⊤}
use denote.Ref.{Bor}
use Rattle.lc_model.specs.Host.Stream.{Contents, all_kinds, body_size, contents_of, fits_body, front, header_size, moment_of}
use Rattle.lc_model.specs.Host.Stream as stream
use Rattle.stream_script.specs.declared.kind.RecordKind.{RecordKind}
use Rattle.stream_script.specs.declared.front.Front.{Front}
use Rattle.stream_script.specs.declared.front.Front.TheVariants.{End, Record, NoRecord, Cut}
use Rattle.stream_script.specs.Kind.{fits_kind, kind_number, kind_numbered, has_half}

-- the bytes of the record in front, as its header says
abbrev pub record_size : List ℕ → ℕ
record_size bytes = header_size + body_size bytes

-- the body of the record in front
abbrev pub body_in_front : List ℕ → List ℕ
body_in_front bytes = drop header_size (take (record_size bytes) bytes)

-- what stands in front, where it has this kind
abbrev pub front_of_kind : Option RecordKind → List ℕ → Front
front_of_kind None bytes = NoRecord
front_of_kind (Some kind) bytes =
    if not (fits_body all_kinds (kind_number kind) (body_size bytes)) then NoRecord
    else if nat_lt (length bytes) (record_size bytes) then Cut
    else if not (has_half kind (body_in_front bytes)) then NoRecord
    else Record kind (record_size bytes)

-- what stands in front
abbrev pub front_in : List ℕ → Front
front_in bytes =
    if length bytes == 0 then End
    else if nat_lt (length bytes) header_size then Cut
    else front_of_kind (kind_numbered (slice_index bytes 0)) bytes

-- what is left of a stream, where something is, and its end
abbrev pub bytes_left : Option (Bor (List ℕ)) → ℕ
bytes_left None = 0
bytes_left (Some bytes) = length bytes.now + 1

-- a record in front is there as a whole, and its body fits its kind
abbrev pub IsInside : List ℕ → Front → Type 0
IsInside bytes (Record kind size) = (size ≡ record_size bytes) × (header_size ≤ size) × (size ≤ length bytes) × fits_kind kind (size - header_size)
IsInside bytes front = ⊤

-- a rule text may have any number of two bytes
abbrev pub any_text : ℕ
any_text = 65536

-- a record of this kind stands in front, and brings what its body says
pub record IsRead (bytes : List ℕ) (kind : RecordKind) : Type 0 where
  pub contents : Contents
  pub brings : contents_of any_text (kind_number kind) (body_in_front bytes) ≡ Some contents
  pub there : front all_kinds any_text bytes ≡ stream.Record (record { moment = moment_of bytes; contents = contents }) (drop (record_size bytes) bytes)

-- what stands in front is what a stream has there, whatever numbers its rule texts have
abbrev pub Reads : List ℕ → Front → Type 0
Reads bytes End = bytes ≡ []
Reads bytes NoRecord = front all_kinds any_text bytes ≡ stream.NoRecord
Reads bytes Cut = front all_kinds any_text bytes ≡ stream.CutRecord
Reads bytes (Record kind size) = IsRead bytes kind
