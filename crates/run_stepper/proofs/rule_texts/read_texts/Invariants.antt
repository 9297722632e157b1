use Rattle.std.proofs.Common.{take}
use Rattle.std.specs.List.{AllByRecursion}
use Rattle.flight_core.specs.Compiled.{sources_of}
use Rattle.rpn_compiler.specs.TextParts.{AreTextsOf}
use Rattle.run_stepper.proofs.TextsRead.{IsWithin}
use Rattle.run_stepper.proofs.rule_texts.read_texts.Given as goal

-- those so far were read, and their rules keep to the limits
abbrev pub invariant-loop-number : goal.invariant-loop-number
invariant-loop-number l = AreTextsOf (take l.number (sources_of l.texts)) l.found.items × AllByRecursion IsWithin l.found.items
