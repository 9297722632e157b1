use Rattle.std.proofs.Common.{◌≡◌, ◌++◌, take, drop, map, option_map, Some}
use Rattle.run_account.specs.Counts.{row_sampled}
use Rattle.run_account.specs.Samples.{requests_of}
use Rattle.run_account.proofs.counts.count_text.Given as goal

abbrev pub invariant-loop-row : goal.invariant-loop-row
invariant-loop-row l =
    take l.row-index l.rows ++ map (row_sampled (requests_of l.requests) (option_map (λ engine. engine.now) l.engine) (Some l.text)) (drop l.row-index l.rows)
    ≡ map (row_sampled (requests_of l.requests) (option_map (λ engine. engine.now) l.engine) (Some l.text)) l.initial.rows
