-- Scripts: what each line says, and the stream that all lines say. This project's own.
use Rattle.std.specs.Prelude.{ℕ, ◌+◌, ◌-◌, Bool, false, ◌==◌, List, [], ◌∷◌, ◌++◌, length, codes, bytes_eq, nat_le, Option, Some, None, Result, Ok, Err, if◌then◌else◌}
use Rattle.lc_model.specs.Bytes.{u16, u32, u16_at, zero_filled}
use Rattle.lc_model.specs.Packet.{command, telemetry, executive_services_mid, table_services_mid, lc_housekeeping_request_mid, sample_mid}
use Rattle.lc_model.specs.Host.ScheduleText.{is_silent, lines_of, words_of}
use Rattle.lc_model.specs.declared.record.Moment.{Moment}
use Rattle.stream_script.specs.declared.error.Reason.{Reason}
use Rattle.stream_script.specs.declared.error.Reason.TheVariants.{UnknownStatement, BadNumber, UnknownKind, BadBody, LongName}
use Rattle.stream_script.specs.declared.kind.RecordKind.{RecordKind}
use Rattle.stream_script.specs.declared.kind.RecordKind.TheVariants.{Packet, Tick, File, Half}
use Rattle.stream_script.specs.Error.{ScriptFault, ◌>>=◌}
use Rattle.stream_script.specs.Fields.{payload_of}
use Rattle.stream_script.specs.Kind.{kind_in, kind_number, may_bring}
use Rattle.stream_script.specs.Number.{bytes_in, number_in}

-- what a script says so far: the moment of what comes next, and the stream's bytes
pub record Said : Type 0 where
  pub moment : Moment
  pub bytes : List ℕ

-- before its first line
abbrev pub nothing_said : Said
nothing_said = record { moment = record { seconds = 0; subseconds = 0 }; bytes = [] }

-- ---- records

-- a record in bytes
abbrev pub record_bytes : Moment → RecordKind → List ℕ → List ℕ
record_bytes moment kind body = kind_number kind ∷ u32 moment.seconds ++ u16 moment.subseconds ++ u32 (length body) ++ body

-- adds a record at the moment
abbrev pub recorded : RecordKind → List ℕ → Said → Said
recorded kind body said = record { moment = said.moment; bytes = said.bytes ++ record_bytes said.moment kind body }

-- adds a record if one of this kind may have this body
abbrev pub brought : RecordKind → List ℕ → Said → Result Said Reason
brought kind body said = if may_bring kind body then Ok (recorded kind body said) else Err BadBody

-- a command with sequence count 0
abbrev pub commanded : (mid code : ℕ) → List ℕ → Said → Said
commanded mid code payload said = recorded Packet (command mid 0 code payload) said

-- ---- what the words are

-- the kind that a word names
abbrev pub some_kind : Option RecordKind → Result RecordKind Reason
some_kind None = Err UnknownKind
some_kind (Some kind) = Ok kind

-- a name in a field of this size
abbrev pub name_field : ℕ → List ℕ → Result (List ℕ) Reason
name_field size word = if nat_le (length word) size then Ok (zero_filled size word) else Err LongName

-- whether the watchpoints age after a sample, as a number
abbrev pub ages_in : List ℕ → Result ℕ Reason
ages_in word = if bytes_eq word (codes "age") then Ok 1 else if bytes_eq word (codes "keep") then Ok 0 else Err UnknownStatement

-- ---- statements

-- `at S F`: the moment is second S and F / 65,536
abbrev pub moment_set : Said → List ℕ → List ℕ → Result Said Reason
moment_set said seconds subseconds = do
  s ← number_in 4294967295 seconds
  f ← number_in 65535 subseconds
  Ok (record { moment = record { seconds = s; subseconds = f }; bytes = said.bytes })

-- `after S`: the moment moves on by S seconds
abbrev pub moved_on : Said → List ℕ → Result Said Reason
moved_on said seconds = do
  s ← number_in (4294967295 - said.moment.seconds) seconds
  Ok (record { moment = record { seconds = said.moment.seconds + s; subseconds = said.moment.subseconds }; bytes = said.bytes })

-- a record of this kind with this body, at the moment
abbrev pub record_brought : Said → List ℕ → List ℕ → Result Said Reason
record_brought said kind bytes = do
  k ← some_kind (kind_in kind)
  body ← bytes_in bytes
  brought k body said

-- `record S F KIND BYTES`: the same at this moment, which is then the moment of what comes next
abbrev pub whole_record : Said → List ℕ → List ℕ → List ℕ → List ℕ → Result Said Reason
whole_record said seconds subseconds kind bytes = do
  there ← moment_set said seconds subseconds
  record_brought there kind bytes

-- `packet BYTES`
abbrev pub packet_brought : Said → List ℕ → Result Said Reason
packet_brought said bytes = do
  body ← bytes_in bytes
  brought Packet body said

-- `file NAME BYTES`
abbrev pub file_brought : Said → List ℕ → List ℕ → Result Said Reason
file_brought said name bytes = do
  field ← name_field 40 name
  contents ← bytes_in bytes
  brought File (field ++ contents) said

-- `wdt TEXT NAME` and `adt TEXT NAME`: the half of this number
abbrev pub half_brought : Said → ℕ → List ℕ → List ℕ → Result Said Reason
half_brought said half text name = do
  n ← number_in 65535 text
  field ← name_field 40 name
  Ok (recorded Half (field ++ half ∷ u16 n) said)

-- `start NAME`, `stop NAME`, `restart NAME`, `reload NAME`: the command of this code to the executive services
abbrev pub app_ordered : Said → ℕ → List ℕ → Result Said Reason
app_ordered said code name = do
  field ← name_field 20 name
  Ok (commanded executive_services_mid code field said)

-- `load FILE`, `validate TABLE`, `activate TABLE`, `abort TABLE`: the command of this code to the table services
abbrev pub table_ordered : Said → ℕ → List ℕ → Result Said Reason
table_ordered said code name = do
  field ← name_field 40 name
  Ok (commanded table_services_mid code field said)

-- `sample FIRST LAST age`, `sample FIRST LAST keep`: the sample request
abbrev pub sample_requested : Said → List ℕ → List ℕ → List ℕ → Result Said Reason
sample_requested said first last ages = do
  f ← number_in 65535 first
  l ← number_in 65535 last
  a ← ages_in ages
  Ok (commanded sample_mid 0 (u16 f ++ u16 l ++ 0 ∷ a ∷ 0 ∷ 0 ∷ []) said)

-- a message id, as four hexadecimal digits
abbrev pub mid_of : List ℕ → Result ℕ Reason
mid_of bytes = if length bytes == 2 then Ok (u16_at bytes 0) else Err BadNumber

abbrev pub mid_in : List ℕ → Result ℕ Reason
mid_in word = do
  bytes ← bytes_in word
  mid_of bytes

-- telemetry at the moment, and a command, where they have at most 2,048 bytes
abbrev pub told : (mid count : ℕ) → List ℕ → Said → Said
told mid count payload said = recorded Packet (telemetry mid count said.moment payload) said

abbrev pub telemetry_fits : (mid count : ℕ) → List ℕ → Said → Result Said Reason
telemetry_fits mid count payload said = if nat_le (length payload) 2036 then Ok (told mid count payload said) else Err BadBody

abbrev pub command_fits : (mid code : ℕ) → List ℕ → Said → Result Said Reason
command_fits mid code payload said = if nat_le (length payload) 2040 then Ok (commanded mid code payload said) else Err BadBody

-- `telemetry MID COUNT BYTES`: telemetry with this sequence count and this payload, and the time of the moment
abbrev pub telemetry_brought : Said → List ℕ → List ℕ → List ℕ → Result Said Reason
telemetry_brought said mid count bytes = do
  m ← mid_in mid
  n ← number_in 16383 count
  payload ← bytes_in bytes
  telemetry_fits m n payload said

-- `fields MID COUNT LENGTH {TYPE OFFSET VALUE}`: telemetry with this sequence count, this length and these fields, and the time of
-- the moment
abbrev pub fields_brought : Said → List ℕ → List ℕ → List ℕ → List (List ℕ) → Result Said Reason
fields_brought said mid count size words = do
  m ← mid_in mid
  n ← number_in 16383 count
  payload ← payload_of size words
  Ok (told m n payload said)

-- `command MID CODE BYTES`: the command of this code with this payload
abbrev pub command_brought : Said → List ℕ → List ℕ → List ℕ → Result Said Reason
command_brought said mid code bytes = do
  m ← mid_in mid
  c ← number_in 127 code
  payload ← bytes_in bytes
  command_fits m c payload said

-- ---- a line, by its words

abbrev pub one_word : Said → List ℕ → Result Said Reason
one_word said verb =
    if bytes_eq verb (codes "tick") then Ok (recorded Tick [] said)
    else if bytes_eq verb (codes "housekeeping") then Ok (commanded lc_housekeeping_request_mid 0 [] said)
    else Err UnknownStatement

abbrev pub two_words : Said → List ℕ → List ℕ → Result Said Reason
two_words said verb a =
    if bytes_eq verb (codes "after") then moved_on said a
    else if bytes_eq verb (codes "packet") then packet_brought said a
    else if bytes_eq verb (codes "start") then app_ordered said 1 a
    else if bytes_eq verb (codes "stop") then app_ordered said 2 a
    else if bytes_eq verb (codes "restart") then app_ordered said 3 a
    else if bytes_eq verb (codes "reload") then app_ordered said 4 a
    else if bytes_eq verb (codes "load") then table_ordered said 1 a
    else if bytes_eq verb (codes "validate") then table_ordered said 2 a
    else if bytes_eq verb (codes "activate") then table_ordered said 3 a
    else if bytes_eq verb (codes "abort") then table_ordered said 4 a
    else Err UnknownStatement

abbrev pub three_words : Said → List ℕ → List ℕ → List ℕ → Result Said Reason
three_words said verb a b =
    if bytes_eq verb (codes "at") then moment_set said a b
    else if bytes_eq verb (codes "file") then file_brought said a b
    else if bytes_eq verb (codes "wdt") then half_brought said 1 a b
    else if bytes_eq verb (codes "adt") then half_brought said 2 a b
    else Err UnknownStatement

abbrev pub four_words : Said → List ℕ → List ℕ → List ℕ → List ℕ → Result Said Reason
four_words said verb a b c =
    if bytes_eq verb (codes "sample") then sample_requested said a b c
    else if bytes_eq verb (codes "telemetry") then telemetry_brought said a b c
    else if bytes_eq verb (codes "command") then command_brought said a b c
    else Err UnknownStatement

abbrev pub five_words : Said → List ℕ → List ℕ → List ℕ → List ℕ → List ℕ → Result Said Reason
five_words said verb a b c d =
    if bytes_eq verb (codes "record") then whole_record said a b c d
    else Err UnknownStatement

-- what a line with these words says, where its statement has a certain number of words
abbrev pub some_words : Said → List (List ℕ) → Result Said Reason
some_words said (verb ∷ []) = one_word said verb
some_words said (verb ∷ a ∷ []) = two_words said verb a
some_words said (verb ∷ a ∷ b ∷ []) = three_words said verb a b
some_words said (verb ∷ a ∷ b ∷ c ∷ []) = four_words said verb a b c
some_words said (verb ∷ a ∷ b ∷ c ∷ d ∷ []) = five_words said verb a b c d
some_words said words = Err UnknownStatement

-- whether the first of these words is `fields`
abbrev pub sets_fields : List (List ℕ) → Bool
sets_fields [] = false
sets_fields (verb ∷ words) = bytes_eq verb (codes "fields")

-- what a line says whose first word is `fields`
abbrev pub fields_said : Said → List (List ℕ) → Result Said Reason
fields_said said (verb ∷ mid ∷ count ∷ size ∷ words) = fields_brought said mid count size words
fields_said said words = Err UnknownStatement

-- what a line with these words says
abbrev pub statement : Said → List (List ℕ) → Result Said Reason
statement said words = if sets_fields words then fields_said said words else some_words said words

-- what a line says, where one without words or with `#` in front says nothing
abbrev pub line_said : Said → List (List ℕ) → Result Said Reason
line_said said words = if is_silent words then Ok said else statement said words

-- ---- the whole script

-- the lines from this number on
abbrev pub lines_said : Said → ℕ → List (List ℕ) → Result Said ScriptFault
lines_said said n [] = Ok said
lines_said said n (line ∷ lines) =
    elim (line_said said (words_of line)) [ Err reason ↦ Err (record { line = n; reason = reason }) | Ok after ↦ lines_said after (n + 1) lines ]

-- the stream of what was said
abbrev pub stream_of : Result Said ScriptFault → Result (List ℕ) ScriptFault
stream_of (Err fault) = Err fault
stream_of (Ok said) = Ok said.bytes

-- the stream that a script says, or its fault of the least line
abbrev pub script_in : List ℕ → Result (List ℕ) ScriptFault
script_in text = stream_of (lines_said nothing_said 1 (lines_of text))
