-- How many packets of each message id came. This project's own.
use Rattle.std.specs.Prelude.{ℕ, ◌==◌, ◌||◌, not, List, drop, get_or, is_some, length, nat_lt, Option, Some, None, if◌then◌else◌}
use Rattle.lc_model.specs.Packet.{message_id, stream_fault}
use Rattle.lc_model.specs.Host.Stream.{header_size}
use Rattle.run_account.specs.Clock.{add}
use Rattle.run_account.specs.declared.packets.PacketCount.{PacketCount}

-- the message id of a packet, if the host accepts it
abbrev pub mid_of : List ℕ → Option ℕ
mid_of packet = if is_some (stream_fault packet) then None else Some (message_id packet)

-- the message id of the packet that a record brings, if the host accepts it
abbrev pub brings : List ℕ → Option ℕ
brings bytes = if nat_lt (length bytes) header_size || not (get_or bytes 0 0 == 1) then None else mid_of (drop header_size bytes)

-- one more packet of this message id
abbrev pub packet_with : ℕ → PacketCount → PacketCount
packet_with mid count = if mid == count.mid then record count { packets = add count.packets 1 } else count
