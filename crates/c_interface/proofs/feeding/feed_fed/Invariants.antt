use Rattle.std.proofs.Common.{length}
use Rattle.c_interface.proofs.feeding.feed_fed.Given as goal

-- the room has as many bytes as it has
abbrev pub ghosts-handle_into : goal.ghosts-handle_into
ghosts-handle_into a = record { size = length a.room.now }
