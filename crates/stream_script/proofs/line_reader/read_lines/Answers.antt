-- A line that is refused is the first.
use Rattle.std.proofs.Common.{rules, ap, subst, ◌∙◌, ◌+◌, ℕ, length, List, ◌∷◌}
use Rattle.lc_model.specs.Host.ScheduleText.{lines_of}
use Rattle.text_lines.specs.Lines.{lines_in}
use Rattle.stream_script.specs.Error.{IsScriptError}
use Rattle.stream_script.specs.Script.{lines_said, nothing_said}
use Rattle.stream_script.proofs.Streams.{line_refused}
use Rattle.stream_script.proofs.line_reader.read_lines.Goals as goal

pub returns-in-Err-clause-refused : goal.returns-in-Err-clause-refused
returns-in-Err-clause-refused c =
    line_refused c.loop-left.said (length c.loop-left.starts.items + 1) c.loop-left.left c.first_line.result.0.now c.first_line.result.1 (lines_said nothing_said 1 (lines_of c.args.script.now)) c.in-Err.error
    c.loop-left.invariant.says (ap lines_in c.in-Some.is ∙ c.first_line.ensures.lines)
    (subst (λ (n : ℕ). (lines : List (List ℕ)) → IsScriptError (lines_said c.loop-left.said n (c.first_line.result.0.now ∷ lines)) c.in-Err.error)
    (search rules) c.in-Err.ensures.refused)
