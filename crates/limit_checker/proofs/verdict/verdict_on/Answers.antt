use Rattle.std.proofs.Common.{Some, None}
use Rattle.lc_model.specs.Services.Tables.{slot_at}
use Rattle.table_validator.specs.Fault.{fault_in}
use Rattle.limit_checker.proofs.Judging.{found_so}
use Rattle.limit_checker.proofs.verdict.verdict_on.Goals as goal

pub returns-in-Ok : goal.returns-in-Ok
returns-in-Ok c =
    found_so c.args.kind (slot_at c.args.slot c.args.tables.now) c.in-Some-Asked-default.field-0-0 c.in-Some-Asked-default.image.now None c.in-Some-Asked-default.ensures
    c.in-Some-Asked-default.field-0-0-is c.in-Ok.ensures.exact

pub returns-in-Err : goal.returns-in-Err
returns-in-Err c =
    found_so c.args.kind (slot_at c.args.slot c.args.tables.now) c.in-Some-Asked-default.field-0-0 c.in-Some-Asked-default.image.now (Some (fault_in c.in-Err.fault)) c.in-Some-Asked-default.ensures
    c.in-Some-Asked-default.field-0-0-is c.in-Err.ensures.exact
