-- The name, and zeros behind it.
use Rattle.stream_script.proofs.Commands.{name_is}
use Rattle.stream_script.proofs.word.long_name.Goals as goal

pub returns : goal.returns
returns c = name_is 40 c.args.word.now c.copy_from_slice.new.self c.copy_from_slice.ensures.after c.if-word-gt40.false
