use Rattle.std.proofs.Common.{rules}
use Rattle.tbl_service.proofs.Handles.{found_here, is_there, not_here, nowhere}
use Rattle.tbl_service.proofs.seats.find.Goals as goal

pub returns-in-Some-clause-slot : goal.returns-in-Some-clause-slot
returns-in-Some-clause-slot c =
    found_here c.args.name.now c.args.places.now (search rules) c.loop-index.index (search rules) c.loop-index.invariant c.tables.result.now c.index-places-index.result (search rules)
    c.in-Some.number c.new-in-Some.result c.in-Some.ensures.number (search rules)

pub returns-in-Some-clause-there : goal.returns-in-Some-clause-there
returns-in-Some-clause-there c =
    is_there c.args.name.now c.args.places.now (search rules) c.loop-index.index (search rules) c.loop-index.invariant c.tables.result.now c.index-places-index.result (search rules)
    c.in-Some.number c.new-in-Some.result c.in-Some.ensures.inside (search rules)

pub loop-index-preserved : goal.loop-index-preserved
loop-index-preserved c =
    not_here c.args.name.now c.args.places.now (search rules) c.loop-index.index (search rules) c.loop-index.invariant c.tables.result.now c.index-places-index.result (search rules)
    c.in_default.ensures.number

pub returns-clause-slot : goal.returns-clause-slot
returns-clause-slot c = nowhere c.args.name.now c.args.places.now c.loop-index.index (search rules) c.loop-index.invariant
