-- A bound on the deliveries that a record can still lead to. A tick counts for 64 more, since its receiver may publish eight
-- packets into each of eight pipes.
use Rattle.std.specs.Prelude.{◌≡◌, ℕ, ◌+◌, ◌*◌, ◌≤◌, ◌==◌, Bool, List, length, count_by, slice_index_or, Option, None}
use Rattle.std.specs.List.{sum_by}
use Rattle.lc_model.specs.Packet.{message_id, tick_mid}
use Rattle.lc_model.specs.Kept.Executive.{Pipe, seat_count}
use Rattle.lc_model.specs.Services.Interface.{waiting_in, most_published}

-- Whether the packet is a tick.
abbrev pub is_tick : List ℕ → Bool
is_tick packet = message_id packet == tick_mid

-- The number of packets that wait in a pipe.
abbrev pub packets_in : Option Pipe → ℕ
packets_in pipe = length (waiting_in pipe)

-- The number of ticks that wait in a pipe.
abbrev pub ticks_in : Option Pipe → ℕ
ticks_in pipe = count_by is_tick (waiting_in pipe)

-- The deliveries that a pipe's packets can lead to.
abbrev pub weight_of : Option Pipe → ℕ
weight_of pipe = packets_in pipe + 64 * ticks_in pipe

-- The number of ticks that wait in all pipes.
abbrev pub all_ticks : List (Option Pipe) → ℕ
all_ticks pipes = sum_by ticks_in pipes

-- The deliveries that all waiting packets can lead to.
abbrev pub load : List (Option Pipe) → ℕ
load pipes = sum_by weight_of pipes

-- No pipe can become full: with all packets that the waiting ticks may bring, each has at most 65 of 72.
pub record IsLight (pipes : List (Option Pipe)) : Type 0 where
  pub eight : length pipes ≡ seat_count
  pub short : (seat : ℕ) → packets_in (slice_index_or pipes seat None) + most_published * all_ticks pipes ≤ 65
