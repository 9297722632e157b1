use Rattle.flight_core.proofs.gathering.run_gathered.Given as goal

abbrev pub ghosts-run_with_buffer : goal.ghosts-run_with_buffer
ghosts-run_with_buffer g a = record { had = (g.W.ByteSink.sink a.device).gained }
