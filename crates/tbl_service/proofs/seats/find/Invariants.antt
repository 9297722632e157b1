use Rattle.std.proofs.Common.{◌≡◌, drop}
use Rattle.lc_model.specs.Services.Tables.{handle_from}
use Rattle.tbl_service.proofs.seats.find.Given as goal

abbrev pub invariant-loop-index : goal.invariant-loop-index
invariant-loop-index l = handle_from l.name l.index (drop l.index l.places) ≡ handle_from l.name 0 l.places
