use Rattle.std.proofs.Common.{◌≡◌, Some}
use Rattle.lc_model.specs.Tables.Compiling.{limit_refusal}
use Rattle.lc_model.specs.Tables.InForce.{limits}
use Rattle.lc_model.proofs.Exits.{passed_on}
use Rattle.rpn_compiler.specs.Fault.{Refuses}
use Rattle.rpn_compiler.specs.Naming.{IsOfTables}
use Rattle.rpn_compiler.proofs.Naming.{sharing_is_of_tables}
use Rattle.rpn_compiler.proofs.Refused.{of_sharing}
use Rattle.rpn_compiler.proofs.lowering.share_within.Goals as goal

pub returns-in_err-shared-clause-refused : goal.returns-in_err-shared-clause-refused
returns-in_err-shared-clause-refused c =
    passed_on (Refuses (λ refusal. limit_refusal limits c.args.rules.now.rules ≡ Some refusal)) _ _ c.from_residual.ensures.1
    (of_sharing c.args.rules.now.rules c.in_err-shared.field-0.0 c.in_err-shared.ensures.refused)

pub returns-in_err-shared-clause-tables : goal.returns-in_err-shared-clause-tables
returns-in_err-shared-clause-tables c =
    passed_on IsOfTables _ _ c.from_residual.ensures.1 (sharing_is_of_tables c.in_err-shared.field-0.0)
