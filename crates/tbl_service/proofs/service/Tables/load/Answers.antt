use Rattle.std.proofs.Common.{rules}
use Rattle.lc_model.specs.Command.{Load}
use Rattle.lc_model.specs.Services.Tables.{TableService, table_commanded}
use Rattle.lc_model.proofs.Services.TableServiceLaws.{commands_stay_sound}
use Rattle.tbl_service.proofs.Sound.{answered_sound}
use Rattle.tbl_service.proofs.service.Tables.load.Goals as goal

pub invariant_of-self : goal.invariant_of-self
invariant_of-self c =
    let old : TableService = record { files = c.self.inside.files; places = c.self.inside.places.items } in (
      answered_sound c.self.inside.files c.self.inside.places.items c.as_mut_slice.result.now c.load_into.new.places c.self.inside.places.len (search rules) (search rules) (search rules)
          c.load_into.result (table_commanded (Load c.args.file.now) old) (search rules)
          c.load_into.ensures.refused (commands_stay_sound (Load c.args.file.now) old c.self.invariant.0) c.self.invariant.0,
      search rules,
    )
