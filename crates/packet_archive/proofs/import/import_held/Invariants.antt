use Rattle.packet_archive.specs.Import.{imported}
use Rattle.packet_archive.specs.Tally.{tallied}
use Rattle.packet_archive.proofs.Counting.{Counting}
use Rattle.packet_archive.proofs.Importing.{Importing}
use Rattle.packet_archive.proofs.import.import_held.Given as goal

abbrev pub invariant-loop : goal.invariant-loop
invariant-loop l = record {
  imports : Importing l.asked (imported l.fn.asked l.fn.clock l.fn.bytes) l.fn.out.items l.counter l.end l.out.items l.clock l.left;
  counts : Counting l.asked (tallied l.fn.asked l.fn.clock l.fn.bytes l.fn.tally) l.counter l.end l.clock l.left l.tally;
}
