use Rattle.std.proofs.Common.{◌≡◌, ◌++◌, drop}
use Rattle.flight_core.specs.Compiled.{sources_of}
use Rattle.run_comparison.specs.Comparing.{sources_in}
use Rattle.run_comparison.proofs.texts.bytes_of.Given as goal

abbrev pub invariant-loop-text : goal.invariant-loop-text
invariant-loop-text l = sources_of l.all.items ++ sources_in (drop l.text-index l.texts) ≡ sources_in l.texts
