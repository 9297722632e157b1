-- What a scenario says so far: a plain script, line by line. This project's own.
use Rattle.std.specs.Prelude.{ℕ, Bool, false, List, [], ◌∷◌, ◌++◌, length, codes, bytes_eq, nat_lt, slice_get, slice_set, Option, Some, None, Result, Ok, Err, ℤ, if◌then◌else◌}
use Rattle.std.specs.List.{position_from}
use Rattle.scenarios.specs.declared.error.Reason.{Reason}
use Rattle.scenarios.specs.declared.error.Reason.TheVariants.{OutsidePacket, TooLong, UnknownField}
use Rattle.scenarios.specs.Declarations.{Declarations}
use Rattle.scenarios.specs.Error.{◌>>=◌}
use Rattle.scenarios.specs.Fields.{is_inside, reads, value_bits, with_bits}
use Rattle.scenarios.specs.Named.{NamedField, NamedPacket, counted_on, packet_line, with_payload}

-- the packets, each with what was said of it by now; the fields; the plain script, and of each of its lines the number of the
-- scenario's line that says it
pub record Said : Type 0 where
  pub packets : List NamedPacket
  pub fields : List NamedField
  pub script : List ℕ
  pub lines : List ℕ

-- before the first line
abbrev pub nothing_said : Declarations → Said
nothing_said d = record { packets = d.packets; fields = d.fields; script = []; lines = [] }

-- the most lines of a plain script
abbrev pub most_lines : ℕ
most_lines = 1000000

-- adds a line, which this line of the scenario gives
abbrev pub lined : ℕ → List ℕ → Said → Result Said Reason
lined n line said =
    if nat_lt (length said.lines) most_lines then
    Ok (record { packets = said.packets; fields = said.fields; script = said.script ++ line ++ codes "\n"; lines = said.lines ++ n ∷ [] })
    else Err TooLong

-- ---- by names

-- the index of the first packet of a name, and of the first field
abbrev pub packet_place : List ℕ → List NamedPacket → Option ℕ
packet_place name packets = position_from (λ (p : NamedPacket). bytes_eq p.name name) 0 packets

abbrev pub field_place : List ℕ → List NamedField → Option ℕ
field_place name fields = position_from (λ (f : NamedField). bytes_eq f.name name) 0 fields

-- ---- packets and values

-- the field at a place
abbrev pub some_field_at : Option NamedField → Result NamedField Reason
some_field_at None = Err UnknownField
some_field_at (Some f) = Ok f

-- its packet, which has to be declared
abbrev pub some_packet_at : Option ℕ → Result ℕ Reason
some_packet_at None = Err OutsidePacket
some_packet_at (Some place) = Ok place

-- the packets, where the one at a place has these bits of a field, which has to stand in it
abbrev pub bits_written : ℕ → NamedField → ℕ → List NamedPacket → Option NamedPacket → Result (List NamedPacket) Reason
bits_written place f bits packets None = Err OutsidePacket
bits_written place f bits packets (Some p) =
    if is_inside f (length p.payload) then Ok (slice_set packets place (with_payload (with_bits f bits p.payload) p)) else Err OutsidePacket

-- the packets with this value of a field
abbrev pub packets_with : NamedField → ℤ → List NamedPacket → Result (List NamedPacket) Reason
packets_with f z packets = do
  bits ← value_bits f z
  place ← some_packet_at (packet_place f.packet packets)
  bits_written place f bits packets (slice_get packets place)

-- the field at this place has this value from now on
abbrev pub with_value : ℕ → ℤ → Said → Result Said Reason
with_value place z said = do
  f ← some_field_at (slice_get said.fields place)
  packets ← packets_with f z said.packets
  Ok (record { packets = packets; fields = said.fields; script = said.script; lines = said.lines })

-- whether a field reads this value in a packet
abbrev pub packet_reads : NamedField → ℤ → Option NamedPacket → Bool
packet_reads f z None = false
packet_reads f z (Some p) = reads f z p.payload

abbrev pub field_reads : ℤ → Option NamedPacket → Option NamedField → Bool
field_reads z packet None = false
field_reads z packet (Some f) = packet_reads f z packet

-- whether the field at a place reads this value in the packet at a place, by now
abbrev pub reads_value : (packet field : ℕ) → ℤ → Said → Bool
reads_value packet field z said = field_reads z (slice_get said.packets packet) (slice_get said.fields field)

-- one packet more of this place
abbrev pub counted : ℕ → NamedPacket → Said → Said
counted place p said =
    record { packets = slice_set said.packets place (counted_on p); fields = said.fields; script = said.script; lines = said.lines }

-- the line of a packet, where there is one
abbrev pub packet_lined : ℕ → ℕ → Said → Option NamedPacket → Result Said Reason
packet_lined n place said None = Ok said
packet_lined n place said (Some p) = lined n (packet_line p) (counted place p said)

-- the next packet of this place, with all values that its fields have by now
abbrev pub with_packet : ℕ → ℕ → Said → Result Said Reason
with_packet n place said = packet_lined n place said (slice_get said.packets place)
