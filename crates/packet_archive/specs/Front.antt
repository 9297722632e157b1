-- What stands at the front of what is left of an archive: space packets one behind the other (CCSDS 133.0-B), each behind a
-- synchronization marker where the archive has them (CCSDS 131.0-B). This project's own where it says what a fault is.
use Rattle.std.specs.Prelude.{ℕ, ◌+◌, ◌≤◌, ◌<◌, Bool, not, ◌&&◌, ◌||◌, ◌==◌, List, [], ◌∷◌, length, take, drop, nat_lt, nat_le, bytes_eq, if◌then◌else◌, ⊤}
use Rattle.std.specs.Prelude.{take_while}
use Rattle.lc_model.specs.Bytes.{u16_at}
use Rattle.lc_model.specs.Packet.{command_header_size, has_secondary_header, is_command, length_offset, longest_packet, primary_header_size, sequence_flags, telemetry_header_size, unsegmented, version}
use Rattle.packet_archive.specs.declared.front.ArchiveFront.{ArchiveFront}
use Rattle.packet_archive.specs.declared.front.ArchiveFront.TheVariants.{Over, Gap, Cut, Foreign, Unmarked, Stray, Packet}
use Rattle.packet_archive.specs.declared.front.Resync.{Resync}
use Rattle.packet_archive.specs.declared.front.Resync.TheVariants.{Never, Within, AtEnd}
use Rattle.packet_archive.specs.Choice.{is_idle}

-- the bytes in front of each packet of a marked archive
abbrev pub marker : List ℕ
marker = 26 ∷ 207 ∷ 252 ∷ 29 ∷ []

-- how many zero bytes stand in front; no packet of version 0 with a secondary header begins with one
abbrev pub zeros : List ℕ → ℕ
zeros bytes = length (take_while (λ byte. byte == 0) bytes)

-- the bytes of the packet in front, as its header says
abbrev pub packet_size : List ℕ → ℕ
packet_size packet = u16_at packet 4 + length_offset

-- a packet in front, after this number of bytes of its marker
abbrev pub packet_in : ℕ → List ℕ → ArchiveFront
packet_in before bytes =
    if nat_lt (length bytes) primary_header_size then Cut
    else if not (version bytes == 0) then Foreign
    else if nat_lt (length bytes) (packet_size bytes) then Cut
    else Packet before (packet_size bytes)

-- what is after a marker, which may be cut short
abbrev pub marked_in : List ℕ → ArchiveFront
marked_in bytes =
    if nat_lt (length bytes) (length marker) then (if bytes_eq bytes (take (length bytes) marker) then Cut else Unmarked)
    else if bytes_eq (take (length marker) bytes) marker then packet_in (length marker) (drop (length marker) bytes)
    else Unmarked

-- what stands in front, of an archive with markers or without
abbrev pub front_in : Bool → List ℕ → ArchiveFront
front_in marked bytes =
    if length bytes == 0 then Over
    else if nat_lt 0 (zeros bytes) then Gap (zeros bytes)
    else if marked then marked_in bytes
    else packet_in 0 bytes

-- ---- an import that resynchronizes

-- the bytes of the headers that a packet needs which isn't idle
abbrev pub headers_size : List ℕ → ℕ
headers_size header = if is_command header then command_header_size else telemetry_header_size

-- A plausible header: version 0, no part of another packet, at most 2,048 bytes, and either that of an idle packet, or one with a
-- secondary header and a packet that is long enough for it.
abbrev pub is_plausible : List ℕ → Bool
is_plausible header =
    version header == 0 && sequence_flags header == unsegmented && nat_le (packet_size header) longest_packet
    && (is_idle header || (has_secondary_header header && nat_le (headers_size header) (packet_size header)))

-- the bytes before each packet
abbrev pub before_each : Bool → List ℕ
before_each marked = if marked then marker else []

-- whether a plausible packet begins here: its marker, where the archive has them, and a plausible header
abbrev pub is_begin : Bool → List ℕ → Bool
is_begin marked bytes =
    bytes_eq (take (length (before_each marked)) bytes) (before_each marked) && is_plausible (drop (length (before_each marked)) bytes)

-- what stands in front: a plausible packet, a part of what may be one, a gap, or a byte that begins none
abbrev pub sought_in : Bool → List ℕ → ArchiveFront
sought_in marked bytes =
    if length bytes == 0 then Over
    else if nat_lt 0 (zeros bytes) then Gap (zeros bytes)
    else if nat_lt (length bytes) (length (before_each marked) + primary_header_size) then Cut
    else if is_begin marked bytes then packet_in (length (before_each marked)) (drop (length (before_each marked)) bytes)
    else Stray

-- a part of a packet is none where no more bytes come
abbrev pub uncut : ArchiveFront → ArchiveFront
uncut Cut = Stray
uncut front = front

-- what stands in front for an import that resynchronizes or doesn't
abbrev pub front_by : Resync → Bool → List ℕ → ArchiveFront
front_by Never marked bytes = front_in marked bytes
front_by Within marked bytes = sought_in marked bytes
front_by AtEnd marked bytes = uncut (sought_in marked bytes)

-- what is in front is there as a whole
abbrev pub IsInside : List ℕ → ArchiveFront → Type 0
IsInside bytes (Gap size) = (0 < size) × (size ≤ length bytes)
IsInside bytes (Packet before size) = (length_offset ≤ size) × (before + size ≤ length bytes)
IsInside bytes Stray = 0 < length bytes
IsInside bytes front = ⊤
