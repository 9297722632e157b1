use Rattle.std.proofs.Common.{◌≡◌, rules, ap, ◌∙◌, subst, IsTrue, List, ℕ, Option, Some, None}
use Rattle.std.specs.Prelude.{IsSomeAnd}
use Rattle.std.specs.Option.{option_map_or}
use Rattle.lc_model.specs.Name.{value_under}
use Rattle.lc_model.specs.Tables.File.{opened}
use Rattle.lc_model.specs.Tables.Slot.{installed}
use Rattle.lc_model.specs.Services.Tables.{Places, TableService, fits_at, image_in}
use Rattle.tbl_service.proofs.Installed.{all_written, installed_so}
use Rattle.tbl_service.proofs.Sound.{installed_sound}
use Rattle.tbl_service.proofs.service.Tables.install.Goals as goal

pub invariant_of-self : goal.invariant_of-self
invariant_of-self c =
    let there : value_under c.args.file.now c.args.self.now.files ≡ Some c.in-Some.bytes.now = search rules in (
      installed_sound c.self.inside.files c.self.inside.places.items c.as_mut_slice.result.now c.install_into.new.places c.self.inside.places.len (search rules) (search rules) (search rules)
          (image_in (opened c.in-Some.bytes.now)) (λ image. IsTrue (fits_at c.args.slot c.args.self.now image)) (λ image. installed image) c.args.slot
          (subst (λ (o : Option (List ℕ)). IsSomeAnd (option_map_or (λ bytes. image_in (opened bytes)) o None) (λ image. IsTrue (fits_at c.args.slot c.args.self.now image))) there c.requires.fits)
          c.install_into.ensures.opened c.self.invariant.0,
      search rules,
    )

pub returns-in-Some : goal.returns-in-Some
returns-in-Some c =
    installed_so c.args.file.now c.args.self.now _ c.in-Some.bytes.now c.args.slot c.as_mut_slice.result.now c.install_into.new.places
    (search rules) (search rules) c.install_into.ensures.opened
    (ap (λ (places : Places). record { files = c.self.inside.files; places = places })
    (all_written c.install_into.new.places c.self.inside.places.items c.self.inside.places.len (search rules) (search rules))
    ∙ ap (λ (t : TableService). record { files = t.files; places = c.install_into.new.places }) c.self.view_is)
