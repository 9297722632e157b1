-- The script's line that says a command packet. This project's own.
use Rattle.std.specs.Prelude.{◌≡◌, ℕ, Bool, true, false, not, ◌&&◌, ◌==◌, List, [], ◌++◌, length, take, drop, find, slice_index, codes, decimal, bytes_eq, nat_lt, nat_le, Option, Some, None, option_map, Result, Ok, Err, if◌then◌else◌}
use Rattle.std.specs.List.{list_all, list_any}
use Rattle.lc_model.specs.declared.mode.ApMode.{ApMode}
use Rattle.lc_model.specs.Bytes.{u16_at}
use Rattle.lc_model.specs.Command.{state_numbered}
use Rattle.lc_model.specs.Host.Stream.{header_size}
use Rattle.lc_model.specs.Name.{app_name_size, name_in}
use Rattle.lc_model.specs.Packet.{command, function_code, header_fault, lc_command_mid, lc_housekeeping_request_mid, message_id, payload, sample_mid, event_services_mid, table_services_mid, executive_services_mid}
use Rattle.lc_model.specs.Words.{state_word}
use Rattle.stream_script.specs.declared.kind.RecordKind.TheVariants.{Packet}
use Rattle.stream_script.specs.Error.{ScriptFault}
use Rattle.stream_script.specs.Script.{nothing_said, record_bytes, script_in}
use Rattle.scenarios.specs.Declarations.{Declarations}
use Rattle.scenarios.specs.Error.{ScenarioFault}
use Rattle.scenarios.specs.Named.{NamedRule}
use Rattle.scenarios.specs.Orders.{all_rules}
use Rattle.scenarios.specs.Plain.{PlainScript, plain_in}

-- ---- what is read back

-- a printable character of ASCII, or a space
abbrev pub is_printable : ℕ → Bool
is_printable byte = nat_le 32 byte && nat_le byte 126

-- What the host reads of a command: its message id, code and payload, here with sequence count 0 and the checksum that goes with it.
abbrev pub command_of : List ℕ → List ℕ
command_of packet = command (message_id packet) 0 (function_code packet) (payload packet)

-- the stream of one record, at second 0, that brings this packet
abbrev pub one_packet : List ℕ → List ℕ
one_packet packet = record_bytes nothing_said.moment Packet packet

-- whether a plain script says that stream
abbrev pub is_stream_of : List ℕ → Result (List ℕ) ScriptFault → Bool
is_stream_of packet (Err fault) = false
is_stream_of packet (Ok stream) = bytes_eq stream (one_packet packet)

abbrev pub is_script_of : List ℕ → Result PlainScript ScenarioFault → Bool
is_script_of packet (Err fault) = false
is_script_of packet (Ok plain) = is_stream_of packet (script_in plain.script)

-- whether a line of printable characters is a script of that stream, in the words of these declarations
abbrev pub says_packet : Declarations → (line packet : List ℕ) → Bool
says_packet declared line packet = list_all is_printable line && is_script_of packet (plain_in declared [] line)

-- So a line says a packet: it is printable, and as a script it says the stream that brings this packet alone, at second 0.
pub record SaysPacket (declared : Declarations) (line packet : List ℕ) : Type 0 where
  pub printable : list_all is_printable line ≡ true
  pub plain : PlainScript
  pub short : plain_in declared [] line ≡ Ok plain
  pub says : script_in plain.script ≡ Ok (one_packet packet)

-- So it says a command: the packet has no fault, and the line says it, with sequence count 0 and the checksum that goes with that.
-- The host reads neither.
abbrev pub SaysCommand : Declarations → (line packet : List ℕ) → Type 0
SaysCommand declared line packet = (header_fault packet ≡ None) × SaysPacket declared line (command_of packet)

-- ---- the word of a rule

-- the first rule of a number
abbrev pub first_numbered : ℕ → List NamedRule → Option NamedRule
first_numbered number rules = find (λ (r : NamedRule). r.number == number) rules

-- whether a rule of this number has another name
abbrev pub is_named_otherwise : ℕ → List ℕ → List NamedRule → Bool
is_named_otherwise number name rules = list_any (λ (r : NamedRule). r.number == number && not (bytes_eq r.name name)) rules

-- whether a rule is of another text than the first
abbrev pub are_of_several : List NamedRule → Bool
are_of_several rules = list_any (λ (r : NamedRule). not (r.text == 0)) rules

-- NAME where there is one text, and N:NAME where there are several, of which N is the first that has the rule; the number where no
-- text has it, or where texts have other names for it
abbrev pub name_word : ℕ → List NamedRule → Option NamedRule → List ℕ
name_word number rules None = decimal number
name_word number rules (Some first) =
    if is_named_otherwise number first.name rules then decimal number
    else if are_of_several rules then decimal first.text ++ codes ":" ++ first.name
    else first.name

abbrev pub rule_word : ℕ → List NamedRule → List ℕ
rule_word number rules = if number == all_rules then codes "all" else name_word number rules (first_numbered number rules)

-- ---- the line that is tried, by a command's code and payload

abbrev pub standing_tried : List ℕ → Option ApMode → Option (List ℕ)
standing_tried front None = None
standing_tried front (Some standing) = Some (front ++ codes " " ++ state_word standing)

-- commands to the Limit Checker
abbrev pub lc_tried : List NamedRule → ℕ → List ℕ → Option (List ℕ)
lc_tried rules code payload =
    if nat_lt (length payload) 4 then None
    else if code == 2 then standing_tried (codes "mode") (state_numbered (u16_at payload 0))
    else if code == 3 then standing_tried (codes "state " ++ rule_word (u16_at payload 0) rules) (state_numbered (u16_at payload 2))
    else if code == 4 then Some (codes "state " ++ rule_word (u16_at payload 0) rules ++ codes " off")
    else None

-- a request to sample rules
abbrev pub sample_tried : List ℕ → Option (List ℕ)
sample_tried payload =
    if nat_lt (length payload) 8 then None
    else Some (codes "sample " ++ decimal (u16_at payload 0) ++ codes " " ++ decimal (u16_at payload 2)
    ++ (if u16_at payload 4 == 0 then codes " keep" else codes " age"))

-- a filter of an event
abbrev pub filter_tried : ℕ → List ℕ → Option (List ℕ)
filter_tried code payload =
    if not (code == 1) then None
    else if nat_lt (length payload) 24 then None
    else Some (codes "filter " ++ name_in (take app_name_size payload) ++ codes " " ++ decimal (u16_at payload 20) ++ codes " " ++ decimal (u16_at payload 22))

-- the words of commands to the table services, and to the executive services
abbrev pub one_of_four : (first second third fourth : List ℕ) → ℕ → Option (List ℕ)
one_of_four first second third fourth code =
    if code == 1 then Some first else if code == 2 then Some second else if code == 3 then Some third else if code == 4 then Some fourth else None

abbrev pub table_verb : ℕ → Option (List ℕ)
table_verb = one_of_four (codes "load ") (codes "validate ") (codes "activate ") (codes "abort ")

abbrev pub app_verb : ℕ → Option (List ℕ)
app_verb = one_of_four (codes "start ") (codes "stop ") (codes "restart ") (codes "reload ")

abbrev pub order_tried : Option (List ℕ) → List ℕ → Option (List ℕ)
order_tried None payload = None
order_tried (Some verb) payload = Some (verb ++ name_in payload)

-- any command
abbrev pub payload_tried : List NamedRule → (mid code : ℕ) → List ℕ → Option (List ℕ)
payload_tried rules mid code payload =
    if mid == lc_command_mid then lc_tried rules code payload
    else if mid == lc_housekeeping_request_mid then Some (codes "housekeeping")
    else if mid == sample_mid then sample_tried payload
    else if mid == event_services_mid then filter_tried code payload
    else if mid == table_services_mid then order_tried (table_verb code) payload
    else if mid == executive_services_mid then order_tried (app_verb code) payload
    else None

abbrev pub tried : List NamedRule → List ℕ → Option (List ℕ)
tried rules packet = payload_tried rules (message_id packet) (function_code packet) (payload packet)

-- ---- the line

abbrev pub kept_if : Bool → List ℕ → Option (List ℕ)
kept_if true line = Some line
kept_if false line = None

abbrev pub read_back : Declarations → List ℕ → Option (List ℕ) → Option (List ℕ)
read_back declared packet None = None
read_back declared packet (Some line) = kept_if (says_packet declared line packet) line

-- the line that is tried, where it says the command; a packet with a fault has none
abbrev pub by_fault : Option ℕ → Option (List ℕ) → Option (List ℕ)
by_fault None line = line
by_fault (Some fault) line = None

abbrev pub command_in_words : Declarations → List ℕ → Option (List ℕ)
command_in_words declared packet = by_fault (header_fault packet) (read_back declared (command_of packet) (tried declared.rules packet))

-- the line of the packet that a record brings, which is whole in bytes
abbrev pub record_in_words : Declarations → List ℕ → Option (List ℕ)
record_in_words declared bytes =
    if nat_lt (length bytes) header_size then None
    else if not (slice_index bytes 0 == 1) then None
    else command_in_words declared (drop header_size bytes)
