-- Which packets of an archive become records. This project's own.
use Rattle.std.specs.Prelude.{ℕ, ◌+◌, ◌/◌, ◌%◌, Bool, not, ◌&&◌, ◌||◌, ◌==◌, List, length, nat_lt, Option, Some, None, if◌then◌else◌}
use Rattle.std.specs.List.{list_any}
use Rattle.lc_model.specs.Packet.{message_id, message_id_end, stream_fault, long_packet}
use Rattle.lc_model.specs.Host.Stream.{max_body}
use Rattle.packet_archive.specs.declared.choice.Fate.{Fate}
use Rattle.packet_archive.specs.declared.choice.Fate.TheVariants.{Kept, Idle, Other, Faulty}

-- a choice: whether idle packets and packets with a fault become records, and the only message ids; all if there are none
pub record Chosen : Type 0 where
  pub idle : Bool
  pub faulty : Bool
  pub only : List ℕ

-- the application id of idle packets (CCSDS 133.0-B)
abbrev pub idle_application : ℕ
idle_application = 2047

-- whether a packet is idle
abbrev pub is_idle : List ℕ → Bool
is_idle packet = message_id packet % 2048 == idle_application

-- whether packets of a message id are asked for: all, where none is named
abbrev pub is_asked_for : List ℕ → ℕ → Bool
is_asked_for only mid = length only == 0 || list_any (◌==◌ mid) only

-- what becomes of a packet with this fault, or none
abbrev pub fate_by_fault : Bool → Option ℕ → Fate
fate_by_fault faulty None = Kept
fate_by_fault faulty (Some fault) = if faulty then Kept else Faulty fault

-- what becomes of a packet: one that no record can hold has a fault whatever is chosen
abbrev pub fate_of : Chosen → List ℕ → Fate
fate_of chosen packet =
    if not chosen.idle && is_idle packet then Idle
    else if not (is_asked_for chosen.only (message_id packet)) then Other
    else if nat_lt max_body (length packet) then Faulty long_packet
    else fate_by_fault chosen.faulty (stream_fault packet)

-- whether a message id is that of commands
abbrev pub is_command_id : ℕ → Bool
is_command_id mid = mid / 4096 % 2 == 1

-- the message id that was probably meant by one without the bit of a secondary header, which every packet without a fault has
abbrev pub meant_id : ℕ → Option ℕ
meant_id mid = if nat_lt mid message_id_end && mid / 2048 % 2 == 0 then Some (mid + 2048) else None
