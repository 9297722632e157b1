use Rattle.std.proofs.Common.{length}
use Rattle.c_interface.proofs.running.run_in_memory.Given as goal

-- the room has as many bytes as the output
abbrev pub ghosts-run_into : goal.ghosts-run_into
ghosts-run_into a = record { size = length a.output.now }
