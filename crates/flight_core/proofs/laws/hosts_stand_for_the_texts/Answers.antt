use Rattle.lc_model.specs.Tables.InForce.{layouts}
use Rattle.flight_core.proofs.Worlds.{stand_for_the_texts}
use Rattle.flight_core.proofs.laws.hosts_stand_for_the_texts.Goals as goal

pub returns : goal.returns
returns c = λ schedule texts compiled are.
    stand_for_the_texts schedule texts compiled are (c.keeps_to_the_world.ensures layouts schedule) (c.begins_as_the_world.ensures layouts schedule) c.records_of_bytes_are_fine.ensures.fine
