-- No line has so many words.
use Rattle.stream_script.proofs.Commands.{many_said}
use Rattle.stream_script.proofs.statement.some_words.Goals as goal

pub returns-in-len6-up-clause-refused : goal.returns-in-len6-up-clause-refused
returns-in-len6-up-clause-refused c = many_said c.args.script c.args.words.now c.in-len6-up.len_at_least
