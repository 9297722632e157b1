use Rattle.flight_core.proofs.Cutting.{ends_badly, ends_whole, ends_cut}
use Rattle.flight_core.proofs.laws.the_rest_says_the_end.Goals as goal

pub returns : goal.returns
returns c = record { bad = ends_badly; whole = ends_whole; cut = ends_cut }
