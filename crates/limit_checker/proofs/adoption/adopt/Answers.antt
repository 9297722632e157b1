use Rattle.lc_model.specs.Tables.Slot.{taken}
use Rattle.limit_checker.proofs.Adopting.{engine_has, second_still_there}
use Rattle.limit_checker.proofs.adoption.adopt.Goals as goal

pub take_activated-requires-2 : goal.take_activated-requires-2
take_activated-requires-2 c =
    second_still_there taken c.args.seat c.args.services.now.tables c.take_activated.new.tables c.new-wdt_slot.result c.new-adt_slot.result c.requires.tables c.new-wdt_slot.ensures c.new-adt_slot.ensures
    c.take_activated.ensures

pub returns-clause-engine : goal.returns-clause-engine
returns-clause-engine c =
    engine_has c.args.seat c.args.services.now.tables c.new-wdt_slot.result c.new-adt_slot.result c.in-Some.wdt c.in-Some.adt c.args.engine.now c.put_in_force.new.engine c.new-wdt_slot.ensures c.new-adt_slot.ensures
    c.in-Some.ensures.pair c.put_in_force.ensures.engine
