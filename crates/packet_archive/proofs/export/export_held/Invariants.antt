use Rattle.packet_archive.proofs.Exporting.{Exporting}
use Rattle.packet_archive.proofs.export.export_held.Given as goal

abbrev pub invariant-loop : goal.invariant-loop
invariant-loop l = record { exports : Exporting l.fn.bytes l.fn.out.items l.counter l.out.items l.left }
