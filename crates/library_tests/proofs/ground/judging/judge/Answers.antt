use Rattle.std.proofs.Common.{rules}
use Rattle.library_tests.proofs.ground.judging.judge.Goals as goal

pub returns-clause-sound : goal.returns-clause-sound
returns-clause-sound c = (c.in_ok-file.file, search rules, search rules)
