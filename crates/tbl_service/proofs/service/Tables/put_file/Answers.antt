use Rattle.std.proofs.Common.{rules}
use Rattle.lc_model.specs.Services.Tables.{TableService, file_put}
use Rattle.lc_model.proofs.Services.TableServiceLaws.{files_stay_sound}
use Rattle.tbl_service.proofs.Sound.{stays_sound}
use Rattle.tbl_service.proofs.service.Tables.put_file.Goals as goal

pub invariant_of-self : goal.invariant_of-self
invariant_of-self c =
    let old : TableService = record { files = c.self.inside.files; places = c.self.inside.places.items } in (
      stays_sound c.put.result old _ (file_put c.args.name.now c.args.bytes.now old) (search rules) (search rules)
          (files_stay_sound c.args.name.now c.args.bytes.now old c.self.invariant.0) c.self.invariant.0,
      search rules,
    )
