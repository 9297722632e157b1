use Rattle.std.proofs.Common.{◌<◌, ℕ, List, length}
use Rattle.run_page.specs.Reading.{HasRead}
use Rattle.run_page.proofs.Reading.{ReadsOn}
use Rattle.run_page.proofs.intake.Intake.take_rest.Given as goal

abbrev pub invariant-loop : goal.invariant-loop
invariant-loop g l = record {
  some : 0 < length l.room;
  read :
      (front : List ℕ) → HasRead l.initial.self front →
      ReadsOn (g.R.ByteSource.source l.initial.reader).rest (g.R.ByteSource.source l.reader).rest front l.self;
}
