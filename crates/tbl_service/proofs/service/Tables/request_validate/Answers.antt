use Rattle.std.proofs.Common.{rules, ap}
use Rattle.lc_model.specs.Command.{Manage}
use Rattle.lc_model.specs.Tables.Slot.{Validate}
use Rattle.lc_model.specs.Services.Tables.{TableService, moved_among, table_commanded}
use Rattle.lc_model.proofs.Services.TableServiceLaws.{commands_stay_sound}
use Rattle.tbl_service.proofs.Sound.{answered_sound, of_places}
use Rattle.tbl_service.proofs.service.Tables.request_validate.Goals as goal

pub invariant_of-self : goal.invariant_of-self
invariant_of-self c =
    let old : TableService = record { files = c.self.inside.files; places = c.self.inside.places.items } in (
      answered_sound c.self.inside.files c.self.inside.places.items c.as_mut_slice.result.now c.change_among.new.places c.self.inside.places.len (search rules) (search rules) (search rules)
          c.change_among.result (table_commanded (Manage Validate c.args.table.now) old)
          (of_places c.change_among.result c.self.inside.files c.self.inside.places.items c.change_among.new.places (moved_among Validate c.args.table.now c.self.inside.places.items) (search rules))
          c.change_among.ensures.refused (commands_stay_sound (Manage Validate c.args.table.now) old c.self.invariant.0) c.self.invariant.0,
      search rules,
    )
