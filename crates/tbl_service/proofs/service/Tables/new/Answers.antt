use Rattle.std.proofs.Common.{rules, sym, subst}
use Rattle.lc_model.specs.Services.Tables.{IsTableService}
use Rattle.lc_model.proofs.Services.TableServiceLaws.{first_is_sound}
use Rattle.tbl_service.proofs.service.Tables.new.Goals as goal

pub invariant_of-result : goal.invariant_of-result
invariant_of-result c = (subst IsTableService (sym (search rules)) first_is_sound, search rules)
