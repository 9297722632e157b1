-- The application that leaves its seat when a record is handled. This project's own.
use Rattle.std.specs.Prelude.{ℕ, List, Option, None, IfSome, ⊤}
use Rattle.lc_model.specs.Host.Stream.{Contents, Packet, Tick, File, Half, StreamEntry, Front, EndOfStream, Record, NoRecord, CutRecord}
use Rattle.app_host.specs.Boxes.{BoxHasGone}
use Rattle.app_host.specs.Hosted.{Object, Hosted}
use Rattle.app_host.specs.Response.{response_to_packet}
use Rattle.app_host.specs.Shared.{at_moment}

-- The seat that is left, if any: only a packet 0x1806 makes an application leave.
abbrev pub seat_left_for : Contents → Hosted → Option ℕ
seat_left_for (Packet bytes) h = (response_to_packet bytes h).leaves
seat_left_for Tick h = None
seat_left_for (File name bytes) h = None
seat_left_for (Half name kind text) h = None

module _ {B : Type 0} (meaning : B → Object) (boxes : List (Option B)) (h : Hosted) where
  -- The application that was on this seat has retired, over the services at the record's moment.
  abbrev pub LeavesFor : StreamEntry → Type 0
  LeavesFor entry = IfSome (seat_left_for entry.contents h) (BoxHasGone meaning boxes (at_moment entry.moment h.services))

  -- If the next record is whole, the application that it makes leave has retired.
  abbrev pub LeavesForFront : Front → Type 0
  LeavesForFront (Record entry rest) = LeavesFor entry
  LeavesForFront EndOfStream = ⊤
  LeavesForFront NoRecord = ⊤
  LeavesForFront CutRecord = ⊤
