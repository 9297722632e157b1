-- The subscribers of a packet.
use Rattle.std.specs.Prelude.{ℕ, ◌==◌, if◌then◌else◌, List, count_by, Option, None}
use Rattle.std.specs.List.{position_from}
use Rattle.lc_model.specs.Services.Bus.{Bus, hears_packet}

-- The only seat whose pipe is subscribed to the packet; `None` if no seat's pipe is, or several are.
abbrev pub only_hearer : List ℕ → Bus → Option ℕ
only_hearer packet bus = if count_by (hears_packet packet) bus == 1 then position_from (hears_packet packet) 0 bus else None
