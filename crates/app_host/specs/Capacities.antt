-- The capacities of a host's lists. This project's own.
use Rattle.lc_model.specs.Kept.Executive.{seat_count}
use Rattle.lc_model.specs.Packet.{message_id_end}
use Rattle.lc_model.specs.Services.Interface.{outgoing_room}
use Rattle.packet_bus.specs.Capacities.{bus_capacities}
use Rattle.tbl_service.specs.Capacities.{table_capacities}
use Rattle.app_host.specs.declared.capacities.HostCapacities.{HostCapacities}

-- There is room for what one call of an application may append, and the services have the room that they were made with.
abbrev pub host_capacities : HostCapacities
host_capacities = record {
  bus = bus_capacities;
  senders = seat_count;
  tables = table_capacities;
  counts = message_id_end;
  outgoing = outgoing_room;
}
