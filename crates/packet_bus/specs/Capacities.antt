-- The capacities of the bus's lists. This project's own.
use Rattle.lc_model.specs.Kept.Executive.{seat_count}
use Rattle.lc_model.specs.Packet.{message_id_end}
use Rattle.lc_model.specs.Services.Bus.{most_publications, most_subscriptions, pipe_depth}
use Rattle.packet_bus.specs.declared.capacities.BusCapacities.{BusCapacities}

-- There is room for each seat, each message id of packet version 0 and each packet that may wait, and in each pipe for its most
-- subscriptions and packets.
abbrev pub bus_capacities : BusCapacities
bus_capacities = record {
  seats = seat_count;
  message_ids = message_id_end;
  packets = most_publications;
  free = most_publications;
  subscriptions = most_subscriptions;
  waiting = pipe_depth;
}
