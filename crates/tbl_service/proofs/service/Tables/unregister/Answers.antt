use Rattle.std.proofs.Common.{rules, sym, subst}
use Rattle.lc_model.specs.Services.Tables.{TableService, IsTableService}
use Rattle.lc_model.proofs.Services.TableServiceLaws.{unregistering_stays_sound}
use Rattle.tbl_service.proofs.service.Tables.unregister.Goals as goal

pub invariant_of-self : goal.invariant_of-self
invariant_of-self c =
    let old : TableService = record { files = c.self.inside.files; places = c.self.inside.places.items } in
    (subst IsTableService (sym (search rules)) (unregistering_stays_sound c.args.seat old c.self.invariant.0), search rules)
