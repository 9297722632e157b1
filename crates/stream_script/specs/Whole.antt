-- The script that says a stream: a line for each record, with its moment, its kind and its body. This project's own.
use Rattle.std.specs.Prelude.{◌≡◌, ℕ, zero, suc, List, [], ◌++◌, length, take, drop, codes, decimal, Option, Some, None, Ok}
use denote.Ref.{Bor}
use Rattle.hex.specs.Hex.{IsBytes}
use Rattle.lc_model.specs.declared.record.Moment.{Moment}
use Rattle.lc_model.specs.Host.Stream.{Whole, moment_of, records_of}
use Rattle.stream_script.specs.declared.kind.RecordKind.{RecordKind}
use Rattle.stream_script.specs.declared.front.Front.{Front}
use Rattle.stream_script.specs.declared.front.Front.TheVariants.{End, Record, NoRecord, Cut}
use Rattle.stream_script.specs.Front.{any_text, body_in_front, front_in, record_size}
use Rattle.stream_script.specs.Kind.{kind_word}
use Rattle.stream_script.specs.Number.{bytes_word}
use Rattle.stream_script.specs.Script.{script_in}

-- the line that says a record
abbrev pub record_line : Moment → RecordKind → List ℕ → List ℕ
record_line moment kind body =
    codes "record " ++ decimal moment.seconds ++ codes " " ++ decimal moment.subseconds ++ codes " " ++ kind_word kind ++ codes " " ++ bytes_word body

-- the lines, by what is in front; the function continues with what follows
abbrev pub script_by : (List ℕ → List ℕ) → List ℕ → Front → List ℕ
script_by others bytes End = []
script_by others bytes (Record kind size) =
    record_line (moment_of bytes) kind (body_in_front bytes) ++ codes "\n" ++ others (drop (record_size bytes) bytes)
script_by others bytes NoRecord = codes "# no record\n"
script_by others bytes Cut = codes "# cut short\n"

-- the lines of at most this number of records
abbrev pub script_within : ℕ → List ℕ → List ℕ
script_within zero bytes = []
script_within (suc most) bytes = script_by (script_within most) bytes (front_in bytes)

-- the script of a stream: a line for each record, and a comment where what follows is no record, or is cut short
abbrev pub script_of : List ℕ → List ℕ
script_of stream = script_within (length stream) stream

-- the script of what is left, where something is
abbrev pub script_of_rest : Option (Bor (List ℕ)) → List ℕ
script_of_rest None = []
script_of_rest (Some bytes) = script_of bytes.now

-- the bytes of the records before a fault, by what is in front; the function continues with what follows
abbrev pub records_by : (List ℕ → List ℕ) → List ℕ → Front → List ℕ
records_by others bytes (Record kind size) = take (record_size bytes) bytes ++ others (drop (record_size bytes) bytes)
records_by others bytes front = []

-- the bytes of at most this number of records
abbrev pub records_within : ℕ → List ℕ → List ℕ
records_within zero bytes = []
records_within (suc most) bytes = records_by (records_within most) bytes (front_in bytes)

-- the bytes of a stream's records, up to the first fault
abbrev pub whole_records : List ℕ → List ℕ
whole_records stream = records_within (length stream) stream

-- the law: what a stream's script says are its records, byte for byte
abbrev pub SaysTheRecords : Type 0
SaysTheRecords = (stream : List ℕ) → IsBytes stream → script_in (script_of stream) ≡ Ok (whole_records stream)

-- the law: the script of a stream that ends after a whole record gives back the stream
abbrev pub SaysTheStream : Type 0
SaysTheStream = (stream : List ℕ) → IsBytes stream → (records_of any_text stream).1 ≡ Whole → script_in (script_of stream) ≡ Ok stream
