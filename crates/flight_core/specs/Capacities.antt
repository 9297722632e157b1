-- The capacities of a fed host's lists. This project's own.
use Rattle.app_host.specs.Capacities.{host_capacities}
use Rattle.flight_core.specs.Window.{window_room}
use Rattle.flight_core.specs.declared.capacities.FedCapacities.{FedCapacities}

-- There is room for the bytes of the stream, beside the room of the host.
abbrev pub fed_capacities : FedCapacities
fed_capacities = record { host = host_capacities; stream = window_room }
