use Rattle.std.proofs.Common.{◌≡◌, ◌<◌, None, drop, length}
use Rattle.std.specs.Prelude.{IfSome}
use Rattle.run_comparison.specs.Meaning.{last_colon}
use Rattle.run_comparison.proofs.meaning.last_colon.Given as goal

abbrev pub invariant-loop-at : goal.invariant-loop-at
invariant-loop-at l = record {
  place : last_colon l.found l.at (drop l.at l.text) ≡ last_colon None 0 l.text;
  inside : IfSome l.found (λ at. at < length l.text);
}
