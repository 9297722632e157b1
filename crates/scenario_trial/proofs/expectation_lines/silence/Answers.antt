-- A line and its end more.
use Rattle.std.proofs.Common.{ap, rules, sym, ◌∙◌, ◌++◌, map}
use Rattle.std.specs.List.{join_with_byte}
use Rattle.text_lines.specs.Lines.{lines_in}
use Rattle.scenario_trial.specs.Reading.{silenced_line}
use Rattle.scenario_trial.proofs.Lines.{join_more, some_left}
use Rattle.scenario_trial.proofs.expectation_lines.silence.Goals as goal

pub loop-left-preserved : goal.loop-left-preserved
loop-left-preserved c =
    join_more c.loop-left.quiet.items c.push.new.self.items c.first_line.result.0.now (lines_in c.first_line.result.1)
    (some_left c.first_line.result.1 (search rules)) (search rules)
    ∙ ap (λ lines. c.loop-left.quiet.items ++ join_with_byte 10 (map silenced_line lines)) (sym (ap lines_in c.in-Some.is ∙ c.first_line.ensures.lines))
    ∙ c.loop-left.invariant
