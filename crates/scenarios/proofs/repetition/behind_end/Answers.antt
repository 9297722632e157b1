-- All lines of the repetition are left.
use Rattle.std.proofs.Common.{ap, sym, ℕ, List, arith}
use Rattle.std.proofs.lemmas.List.{drop-map}
use denote.Ref.{Bor}
use Rattle.scenarios.specs.Plain.{behind_end}
use Rattle.scenarios.proofs.repetition.behind_end.Goals as goal

pub loop-place-init : goal.loop-place-init
loop-place-init c = record {
  finds = ap (behind_end 0 c.args.first) (sym (drop-map (λ (word : Bor (List ℕ)). word.now) c.args.first c.args.lines.now));
  counted = omega arith;
}
