-- The starts are those that the law speaks of.
use Rattle.std.proofs.Common.{rules, sym, subst, List, ℕ}
use Rattle.stream_script.specs.ByLines.{AreStarts}
use Rattle.stream_script.proofs.Fronts.{says_its_fronts}
use Rattle.stream_script.proofs.line_reader.read_script_by_lines.Goals as goal

pub returns-in-Ok-clause-fronts : goal.returns-in-Ok-clause-fronts
returns-in-Ok-clause-fronts c =
    subst (λ (starts : List ℕ). AreStarts c.args.script.now c.into_bytes.result.items starts) (sym c.in-Ok.ensures.starts)
    (says_its_fronts c.args.script.now c.into_bytes.result.items (search rules))
