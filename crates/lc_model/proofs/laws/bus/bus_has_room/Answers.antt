use Rattle.lc_model.proofs.Services.BusLaws.{has_room, fills_by_one}
use Rattle.lc_model.proofs.laws.bus.bus_has_room.Goals as goal

pub returns-clause-room : goal.returns-clause-room
returns-clause-room c = has_room

pub returns-clause-fills : goal.returns-clause-fills
returns-clause-fills c = fills_by_one
