use Rattle.std.proofs.Common.{◌≡◌, rules, subst}
use Rattle.std.specs.Prelude.{IfOk}
use Rattle.lc_model.specs.Services.Tables.{TableService, new_handle, table_registered}
use Rattle.lc_model.proofs.Services.TableServiceLaws.{registering_stays_sound}
use Rattle.tbl_service.proofs.Sound.{answered_sound}
use Rattle.tbl_service.proofs.service.Tables.register.Goals as goal

pub invariant_of-self : goal.invariant_of-self
invariant_of-self c =
    let old : TableService = record { files = c.self.inside.files; places = c.self.inside.places.items } in (
      answered_sound c.self.inside.files c.self.inside.places.items c.as_mut_slice.result.now c.register.new.places c.self.inside.places.len (search rules) (search rules) (search rules)
          c.register.result (table_registered c.args.seat c.args.name.now c.args.size c.args.other old) (search rules)
          c.register.ensures.refused (registering_stays_sound c.args.seat c.args.name.now c.args.size c.args.other old c.self.invariant.0) c.self.invariant.0,
      search rules,
    )

pub returns-clause-slot : goal.returns-clause-slot
returns-clause-slot c =
    let same : record { files = c.self.inside.files; places = c.as_mut_slice.result.now } ≡ c.args.self.now = search rules in
    subst (λ (now : TableService). IfOk c.register.result (λ slot. slot ≡ new_handle c.args.seat now)) same (c.register.ensures.slot c.self.inside.files)
