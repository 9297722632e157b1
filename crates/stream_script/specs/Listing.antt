-- The listing of a stream: a line for each record, and one for bytes that aren't a record. This project's own.
use Rattle.std.specs.Prelude.{ℕ, zero, suc, ◌+◌, ◌-◌, ◌&&◌, ◌==◌, List, [], ◌++◌, length, take, drop, map, slice_index, codes, decimal, nat_le, nat_lt, Option, Some, None, if◌then◌else◌}
use denote.Ref.{Bor}
use Rattle.lc_model.specs.declared.record.Moment.{Moment}
use Rattle.lc_model.specs.Bytes.{u16_at}
use Rattle.lc_model.specs.Name.{Name, name_in, app_name_size, name_size}
use Rattle.lc_model.specs.Packet.{message_id, function_code, is_telemetry_mid, lc_command_mid, lc_housekeeping_request_mid, sample_mid, counter_mid, by_service, payload}
use Rattle.lc_model.specs.Host.Stream.{moment_of}
use Rattle.stream_script.specs.declared.kind.RecordKind.{RecordKind}
use Rattle.stream_script.specs.declared.kind.RecordKind.TheVariants.{Packet, Tick, File, Half}
use Rattle.stream_script.specs.declared.front.Front.{Front}
use Rattle.stream_script.specs.declared.front.Front.TheVariants.{End, Record, NoRecord, Cut}
use Rattle.stream_script.specs.Front.{body_in_front, front_in, record_size}
use Rattle.stream_script.specs.Kind.{kind_word}
use Rattle.stream_script.specs.Number.{bytes_word}

-- ---- parts of a line

-- a byte of a name, or `?` where it can't be printed
abbrev pub printable : ℕ → ℕ
printable byte = if nat_le 32 byte && nat_le byte 126 then byte else 63

-- a name
abbrev pub name_shown : Name → List ℕ
name_shown name = codes " " ++ map printable name

-- how many bytes there are
abbrev pub size_shown : ℕ → List ℕ
size_shown size = codes " " ++ decimal size ++ codes " bytes"

-- the receiver of a command to the host, or the word for telemetry, by message id
abbrev pub mid_shown : ℕ → List ℕ
mid_shown mid =
    by_service mid (codes " event services") (codes " table services") (codes " executive services")
    (if mid == lc_command_mid then codes " LC command"
    else if mid == lc_housekeeping_request_mid then codes " LC housekeeping"
    else if mid == sample_mid then codes " LC sample"
    else if mid == counter_mid then codes " counter"
    else if is_telemetry_mid mid then codes " telemetry"
    else [])

-- the words of the codes 1 to 4, of event, table and executive services
abbrev pub one_of_four : (first second third fourth : List ℕ) → ℕ → List ℕ
one_of_four first second third fourth code =
    if code == 1 then first else if code == 2 then second else if code == 3 then third else if code == 4 then fourth else codes " unknown"

abbrev pub event_order : ℕ → List ℕ
event_order = one_of_four (codes " set filter of") (codes " reset filters of") (codes " types on of") (codes " types off of")

abbrev pub table_order : ℕ → List ℕ
table_order = one_of_four (codes " load") (codes " validate") (codes " activate") (codes " abort")

abbrev pub app_order : ℕ → List ℕ
app_order = one_of_four (codes " start") (codes " stop") (codes " restart") (codes " reload")

-- what a command with a whole header says
abbrev pub order_shown : ℕ → List ℕ → List ℕ
order_shown mid packet =
    by_service mid
    (event_order (function_code packet) ++ name_shown (name_in (take app_name_size (payload packet))))
    (table_order (function_code packet) ++ name_shown (name_in (take name_size (payload packet))))
    (app_order (function_code packet) ++ name_shown (name_in (take app_name_size (payload packet))))
    (codes " code " ++ decimal (function_code packet))

-- what a command says, and nothing of telemetry
abbrev pub any_order_shown : ℕ → List ℕ → List ℕ
any_order_shown mid packet = if is_telemetry_mid mid then [] else order_shown mid packet

-- a packet's message id
abbrev pub header_shown : List ℕ → List ℕ
header_shown packet = codes " " ++ bytes_word (take 2 packet) ++ mid_shown (message_id packet)

-- a packet: its message id, what a command says, and its size
abbrev pub packet_shown : List ℕ → List ℕ
packet_shown packet =
    if nat_lt (length packet) 8 then size_shown (length packet)
    else header_shown packet ++ any_order_shown (message_id packet) packet ++ size_shown (length packet)

-- a half of a rule text
abbrev pub half_shown : List ℕ → List ℕ
half_shown body =
    (if slice_index body 40 == 1 then codes " wdt " else codes " adt ") ++ decimal (u16_at body 41) ++ name_shown (name_in (take 40 body))

-- a file
abbrev pub file_shown : List ℕ → List ℕ
file_shown body = name_shown (name_in (take 40 body)) ++ size_shown (length body - 40)

-- what a record of this kind brings
abbrev pub body_shown : RecordKind → List ℕ → List ℕ
body_shown Packet body = packet_shown body
body_shown Tick body = []
body_shown File body = file_shown body
body_shown Half body = half_shown body

-- ---- lines

-- a record's number, its moment and its kind
abbrev pub head_shown : ℕ → Moment → RecordKind → List ℕ
head_shown number moment kind = decimal number ++ codes " " ++ decimal moment.seconds ++ codes " " ++ decimal moment.subseconds ++ codes " " ++ kind_word kind

-- a record's line
abbrev pub record_shown : ℕ → Moment → RecordKind → List ℕ → List ℕ
record_shown number moment kind body = head_shown number moment kind ++ body_shown kind body ++ codes "\n"

-- the line of what stands in front
abbrev pub line_shown : ℕ → List ℕ → Front → List ℕ
line_shown number bytes End = []
line_shown number bytes (Record kind size) = record_shown number (moment_of bytes) kind (body_in_front bytes)
line_shown number bytes NoRecord = decimal number ++ codes " is no record\n"
line_shown number bytes Cut = decimal number ++ codes " is cut short\n"

-- the lines from what stands in front on
abbrev pub lines_by : (ℕ → List ℕ → List ℕ) → ℕ → List ℕ → Front → List ℕ
lines_by others number bytes (Record kind size) = line_shown number bytes (Record kind size) ++ others (number + 1) (drop (record_size bytes) bytes)
lines_by others number bytes front = line_shown number bytes front

-- the lines of at most this number of records, from the number of the first on
abbrev pub lines_within : ℕ → ℕ → List ℕ → List ℕ
lines_within zero number bytes = []
lines_within (suc most) number bytes = lines_by (lines_within most) number bytes (front_in bytes)

-- the lines of a stream whose first record has this number
abbrev pub lines_from : ℕ → List ℕ → List ℕ
lines_from number stream = lines_within (length stream) number stream

-- the lines of what is left, where something is
abbrev pub lines_of_rest : ℕ → Option (Bor (List ℕ)) → List ℕ
lines_of_rest number None = []
lines_of_rest number (Some bytes) = lines_from number bytes.now
