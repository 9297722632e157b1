-- The file can't be read, or is too long.
use Rattle.std.proofs.Common.{rules}
use Rattle.program_io.proofs.Stopping.{long_stops, passes, read_stops}
use Rattle.program_io.proofs.named.read_whole_text.Goals as goal

pub returns-in_err-text-clause-stops : goal.returns-in_err-text-clause-stops
returns-in_err-text-clause-stops g c =
    passes _ _ _ c.from_residual.ensures.1 (read_stops c.args.name.now _ _ c.in_err-text.field-0.0 c.in_err-text.ensures.noted c.in_err-text.ensures.refused)

pub returns-then-len-gt-LONGEST_TEXT-clause-stops : goal.returns-then-len-gt-LONGEST_TEXT-clause-stops
returns-then-len-gt-LONGEST_TEXT-clause-stops g c = long_stops c.args.name _ c.in_ok-text.text.items _ _ c.in_ok-text.ensures.noted (search rules)
