-- The law, as it was shown of the definitions.
use Rattle.stream_script.proofs.Again.{says_the_records}
use Rattle.stream_script.proofs.laws.scripts_say_their_records.Goals as goal

pub returns : goal.returns
returns c = says_the_records
