use Rattle.std.proofs.Common.{rules, ◌≡◌, ◌∙◌, ap}
use Rattle.lc_model.specs.Services.Tables.{handle_named}
use Rattle.tbl_service.proofs.Named.{found_active, none_active}
use Rattle.tbl_service.proofs.service.Tables.active_under.Goals as goal

pub returns-in-Some : goal.returns-in-Some
returns-in-Some c =
    let places : c.as_slice.result.now ≡ c.args.self.now.places = search rules in
    c.active.ensures ∙ found_active c.args.name.now c.args.self.now c.in-Some.slot (c.in-Some.ensures.slot ∙ ap (handle_named c.args.name.now) places)

pub returns-in-None : goal.returns-in-None
returns-in-None c =
    let places : c.as_slice.result.now ≡ c.args.self.now.places = search rules in
    none_active c.args.name.now c.args.self.now (c.in-None.ensures.slot ∙ ap (handle_named c.args.name.now) places)
