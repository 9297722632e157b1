-- What a stream and an archive may take the place of. This project's own.
use Rattle.std.specs.Prelude.{ℕ, Bool, List, length, nat_le, nat_lt, slice_index, ◌&&◌}
use Rattle.lc_model.specs.Packet.{message_id, message_id_end}
use Rattle.lc_model.specs.Host.Stream.{all_kinds, body_size, fits_body, header_size}

-- whether the first bytes of a file begin with a record's header
abbrev pub begins_stream : List ℕ → Bool
begins_stream bytes = nat_le header_size (length bytes) && fits_body all_kinds (slice_index bytes 0) (body_size bytes)

-- whether the first bytes of a file begin with version 0, as a packet does
abbrev pub begins_packet : List ℕ → Bool
begins_packet bytes = nat_lt (message_id bytes) message_id_end
