-- The parts of a packet's header. From CCSDS 133.0-B and the cFE user's guide, message headers; the numbers of the faults are
-- this project's own.
use Rattle.std.specs.Prelude.{ℕ, ◌%◌, List, if◌then◌else◌, Option, Some, None, Result, Ok, Err}
use Rattle.lc_model.specs.Bytes.{u16_at}
use Rattle.lc_model.specs.Packet.{message_id, is_command, function_code}
use Rattle.packet_bus.specs.declared.header.HeaderFault.{HeaderFault}
use Rattle.packet_bus.specs.declared.header.HeaderFault.TheVariants.{TooShort, WrongVersion, NoSecondaryHeader, Segment, WrongLength, TooLong}
use Rattle.packet_bus.specs.declared.header.PacketKind.{PacketKind}
use Rattle.packet_bus.specs.declared.header.PacketKind.TheVariants.{Command, Telemetry}
use Rattle.packet_bus.specs.declared.header.Header.{Header}

-- The number of a header fault, 1 to 6.
abbrev pub fault_number : HeaderFault → ℕ
fault_number TooShort = 1
fault_number WrongVersion = 2
fault_number NoSecondaryHeader = 3
fault_number Segment = 4
fault_number WrongLength = 5
fault_number TooLong = 6

-- The number of the header fault in a result, if it has one.
abbrev pub fault_in : {A : Type 0} → Result A HeaderFault → Option ℕ
fault_in (Ok x) = None
fault_in (Err fault) = Some (fault_number fault)

-- The size of a packet's headers, in bytes.
abbrev pub header_size : PacketKind → ℕ
header_size (Command function_code) = 8
header_size Telemetry = 12

-- A packet's kind: a command with its function code, or telemetry.
abbrev pub kind_of : List ℕ → PacketKind
kind_of packet = if is_command packet then Command (function_code packet) else Telemetry

-- A packet's message id, sequence count and kind.
abbrev pub header_of : List ℕ → Header
header_of packet = record { message_id = message_id packet; sequence_count = u16_at packet 2 % 16384; kind = kind_of packet }
