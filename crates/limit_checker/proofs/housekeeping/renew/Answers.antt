use Rattle.lc_model.specs.declared.kind.Kind.TheVariants.{Wdt}
use Rattle.limit_checker.specs.Housekeeping.{validation}
use Rattle.limit_checker.proofs.Adopting.{second_still_there}
use Rattle.limit_checker.proofs.Renewing.{still_may, renewed}
use Rattle.limit_checker.proofs.housekeeping.renew.Goals as goal

pub judge-adt-requires : goal.judge-adt-requires
judge-adt-requires c =
    second_still_there (validation Wdt) c.args.seat c.args.services.now.tables c.judge-wdt.new.tables c.new.result c.new-2.result c.requires.tables c.new.ensures c.new-2.ensures c.judge-wdt.ensures.after

pub adopt-adopted-requires : goal.adopt-adopted-requires
adopt-adopted-requires c =
    still_may c.args.seat c.args.engine.now c.args.services.now c.judge-wdt.new.tables c.judge-adt.new.tables c.new.result c.new-2.result c.requires c.new.ensures c.new-2.ensures
    c.judge-wdt.ensures.after c.judge-adt.ensures.after

pub returns : goal.returns
returns c =
    renewed c.args.seat c.args.engine.now c.args.services.now c.judge-wdt.new.tables c.judge-adt.new.tables c.new.result c.new-2.result c.requires c.new.ensures c.new-2.ensures
    c.judge-wdt.ensures.after c.judge-adt.ensures.after c.adopt-adopted.new.engine c.adopt-adopted.new.services c.judge-wdt.result c.judge-adt.result c.adopt-adopted.result
    c.judge-wdt.ensures.requests c.judge-adt.ensures.requests c.adopt-adopted.ensures.answer c.adopt-adopted.ensures.engine c.adopt-adopted.ensures.tables c.adopt-adopted.ensures.bus
    c.adopt-adopted.ensures.rest
