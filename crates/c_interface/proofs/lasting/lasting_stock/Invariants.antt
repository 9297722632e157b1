use Rattle.std.proofs.Common.{◌≡◌, ◌++◌, length}
use Rattle.std.specs.Vec.Iter.{into_iter_items, into_iter_len}
use Rattle.app_host.specs.Hosted.{objects_in}
use Rattle.flight_profile.specs.Members.{meaning_of}
use Rattle.c_interface.specs.Lasting.{lasting_meaning}
use Rattle.c_interface.proofs.lasting.lasting_stock.Given as goal

-- those in boxes that last, and then those that are left
abbrev pub invariant-loop-app : goal.invariant-loop-app
invariant-loop-app l =
    (into_iter_len l.app-iterator ≡ length (into_iter_items l.app-iterator))
    × (objects_in lasting_meaning l.boxes.items ++ objects_in meaning_of (into_iter_items l.app-iterator) ≡ objects_in meaning_of l.fn.stock.items)
