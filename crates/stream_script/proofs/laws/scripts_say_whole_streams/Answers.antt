-- The law, as it was shown of the definitions.
use Rattle.stream_script.proofs.WholeStreams.{says_the_stream}
use Rattle.stream_script.proofs.laws.scripts_say_whole_streams.Goals as goal

pub returns : goal.returns
returns c = says_the_stream
