-- A line that is refused is the first.
use Rattle.std.proofs.Common.{ap, ◌∙◌, ◌+◌, map, Some, arith}
use Rattle.text_lines.specs.Lines.{lines_in}
use Rattle.scenario_trial.specs.Reading.{expectations_in, lines_expected, placed_of}
use Rattle.scenario_trial.proofs.Lines.{line_refused}
use Rattle.scenario_trial.proofs.expectation_lines.read_lines.Goals as goal

pub loop-left-init : goal.loop-left-init
loop-left-init c = record {
  says = ap (λ found. lines_expected (map placed_of found) 1 (lines_in (Some c.args.script))) c.new-found.ensures.items;
  counted = omega arith;
}

pub returns-in-Err-clause-refused : goal.returns-in-Err-clause-refused
returns-in-Err-clause-refused c =
    line_refused (map placed_of c.loop-left.found.items) (c.loop-left.n + 1) c.loop-left.left c.first_line.result.0.now c.first_line.result.1
    (expectations_in c.args.script.now) c.in-Err.error c.loop-left.invariant.says (ap lines_in c.in-Some.is ∙ c.first_line.ensures.lines) c.in-Err.ensures.refused
