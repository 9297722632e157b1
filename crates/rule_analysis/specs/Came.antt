-- Packets that came. This project's own.
use Rattle.std.specs.Prelude.{ℕ, List, map}
use Rattle.std.specs.declared.vec.Vec.{Vec}
use Rattle.std.specs.Global.{Global}
use Rattle.lc_model.specs.LimitChecker.Watch.{History, Packet}

-- these packets came, the first of them last, and nothing has aged since
abbrev pub history_of : List (Vec ℕ Global) → History
history_of packets = map (λ (packet : Vec ℕ Global). Packet packet.items) packets
