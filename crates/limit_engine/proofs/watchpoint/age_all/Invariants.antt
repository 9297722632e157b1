use Rattle.std.proofs.Common.{◌≡◌, ◌++◌, take, drop, map}
use Rattle.lc_model.specs.Kept.Next.{aged_result}
use Rattle.limit_engine.proofs.watchpoint.age_all.Given as goal

abbrev pub invariant-loop-result : goal.invariant-loop-result
invariant-loop-result l =
    take l.result-index l.results ++ map aged_result (drop l.result-index l.results) ≡ map aged_result l.initial.results
