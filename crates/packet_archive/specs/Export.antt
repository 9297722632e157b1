-- What an export writes: the packets that a stream brings, one behind the other. This project's own.
use Rattle.std.specs.Prelude.{◌≡◌, ℕ, zero, suc, ◌+◌, ◌<◌, Bool, true, false, List, [], ◌∷◌, ◌++◌, length, take, drop, flat_map, map, slice_index, Option, Some, None}
use Rattle.std.specs.List.{AllByRecursion, concat, filter}
use Rattle.lc_model.specs.Host.Stream.{Contents, StreamEntry, Whole, all_kinds, records_of}
use Rattle.lc_model.specs.Host.Stream as stream
use Rattle.lc_model.specs.Packet.{stream_fault}
use Rattle.stream_script.specs.declared.front.Front as found
use Rattle.stream_script.specs.declared.front.Front.TheVariants as in_front
use Rattle.stream_script.specs.declared.kind.RecordKind.{RecordKind}
use Rattle.stream_script.specs.declared.kind.RecordKind.TheVariants as kinds
use Rattle.stream_script.specs.Front.{any_text, body_in_front}
use Rattle.packet_archive.specs.declared.choice.Fate.{Fate}
use Rattle.packet_archive.specs.declared.choice.Fate.TheVariants.{Kept}
use Rattle.packet_archive.specs.declared.clock.Times.{Times}
use Rattle.packet_archive.specs.declared.front.ArchiveFront.{ArchiveFront}
use Rattle.packet_archive.specs.declared.front.ArchiveFront.TheVariants.{Gap, Stray, Packet}
use Rattle.packet_archive.specs.declared.front.Resync.{Resync}
use Rattle.packet_archive.specs.Choice.{fate_of}
use Rattle.packet_archive.specs.Clock.{Clocked}
use Rattle.packet_archive.specs.Front.{before_each, front_by}
use Rattle.packet_archive.specs.Import.{Asking, Imported, imported}

-- ---- what an export writes

-- the bytes of the packet that a record brings; ticks, files and rule texts bring none
abbrev pub packet_of : Contents → List ℕ
packet_of (stream.Packet bytes) = bytes
packet_of contents = []

-- the packets of records, one behind the other
abbrev pub packets_of : List StreamEntry → List ℕ
packets_of entries = flat_map (λ (entry : StreamEntry). packet_of entry.contents) entries

-- what an export writes: the packets of a stream's records, up to the first fault, one behind the other
abbrev pub exported : List ℕ → List ℕ
exported bytes = packets_of (records_of any_text bytes).0

-- the rest after the whole records of a stream, by what is in front; the function continues with what follows
abbrev pub left_by : (List ℕ → List ℕ) → List ℕ → stream.Front → List ℕ
left_by others bytes (stream.Record entry rest) = others rest
left_by others bytes front = bytes

-- the rest after at most this number of records
unfoldable pub left_within : ℕ → List ℕ → List ℕ
left_within zero bytes = bytes
left_within (suc most) bytes = left_by (left_within most) bytes (stream.front all_kinds any_text bytes)

-- the rest after the whole records in front
abbrev pub left_of : List ℕ → List ℕ
left_of bytes = left_within (length bytes) bytes

-- what a record of this kind and body adds to it, and what stands in front
abbrev pub packet_by : RecordKind → List ℕ → List ℕ
packet_by kinds.Packet body = body
packet_by kind body = []

abbrev pub packet_in_front : List ℕ → found.Front → List ℕ
packet_in_front bytes (in_front.Record kind size) = packet_by kind (body_in_front bytes)
packet_in_front bytes front = []

-- the number of bytes of the record in front, if there is one
abbrev pub record_passed : found.Front → Option ℕ
record_passed (in_front.Record kind size) = Some size
record_passed front = None

-- a stream that is exported in pieces gives what it gives as a whole: what is left of the first goes in front of the next
abbrev pub ExportsInPieces : Type 0
ExportsInPieces = (first next : List ℕ) → exported (first ++ next) ≡ exported first ++ exported (left_of first ++ next)

-- ---- the packets of an archive

-- the packets, by what is in front; the function continues with what follows
abbrev pub packets_by : (List ℕ → List (List ℕ)) → List ℕ → ArchiveFront → List (List ℕ)
packets_by others bytes (Packet before size) = take size (drop before bytes) ∷ others (drop (before + size) bytes)
packets_by others bytes (Gap size) = others (drop size bytes)
packets_by others bytes Stray = others (drop 1 bytes)
packets_by others bytes front = []

-- at most this number of packets, gaps of zeros, and bytes that are skipped
unfoldable pub packets_within : ℕ → Resync → Bool → List ℕ → List (List ℕ)
packets_within zero resync marked bytes = []
packets_within (suc most) resync marked bytes = packets_by (packets_within most resync marked) bytes (front_by resync marked bytes)

-- The packets of an archive in order. Without resynchronizing they end where no whole packet stands; with it they are those at each
-- place behind the packet before where a plausible packet begins.
abbrev pub packets_in : Resync → Bool → List ℕ → List (List ℕ)
packets_in resync marked bytes = packets_within (length bytes + 1) resync marked bytes

-- whether a packet becomes a record
abbrev pub keeps : Fate → Bool
keeps Kept = true
keeps fate = false

-- the packets of an archive that become records, one behind the other
abbrev pub kept_in : Asking → List ℕ → List ℕ
kept_in asking archive = concat (filter (λ packet. keeps (fate_of asking.chosen packet)) (packets_in asking.resync asking.marked archive))

-- ---- the laws

-- An import, exported, gives the bytes of the packets that became records, whatever is asked for, whatever their times, and however
-- many ticks stand between them.
pub record GivesBack (asking : Asking) (archive : List ℕ) (import : Imported) : Type 0 where
  pub all : exported import.written ≡ kept_in asking archive
  -- what is left has none that is asked for
  pub none_left : kept_in asking import.left ≡ []
  -- and the stream ends behind a whole record
  pub ends : (records_of any_text import.written).1 ≡ Whole

abbrev pub ImportsAreGivenBack : Type 0
ImportsAreGivenBack = (asking : Asking) (clock : Clocked) (archive : List ℕ) → GivesBack asking archive (imported asking clock archive)

-- what is exported of streams, one behind the other, is what is exported of each
abbrev pub ExportsGoOn : Type 0
ExportsGoOn = (first next : List ℕ) → (records_of any_text first).1 ≡ Whole → exported (first ++ next) ≡ exported first ++ exported next

-- an archive of these packets, each after a marker or not
abbrev pub archive_of : Bool → List (List ℕ) → List ℕ
archive_of marked packets = concat (map (λ packet. before_each marked ++ packet) packets)

-- all that an archive holds is asked for
abbrev pub all_of : Bool → Resync → Bool → Times → Asking
all_of marked resync faulty times = record { marked = marked; resync = resync; chosen = record { idle = true; faulty = faulty; only = [] }; times = times }

-- bytes that are a packet without a fault
pub record IsFine (packet : List ℕ) : Type 0 where
  pub bytes : (place : ℕ) → slice_index packet place < 256
  pub fault : stream_fault packet ≡ None

-- An archive of packets without a fault, of which all are asked for, is given back byte for byte, without its markers: without
-- markers it is what it was. So it is with or without resynchronizing, and whatever the packets' times.
abbrev pub ArchivesAreGivenBack : Type 0
ArchivesAreGivenBack = (marked : Bool) (resync : Resync) (faulty : Bool) (times : Times) (clock : Clocked) (packets : List (List ℕ)) →
    AllByRecursion IsFine packets →
    exported (imported (all_of marked resync faulty times) clock (archive_of marked packets)).written ≡ concat packets
