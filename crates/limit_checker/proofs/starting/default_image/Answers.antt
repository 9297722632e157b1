use Rattle.std.proofs.Common.{ap, ◌∙◌, not, Some}
use Rattle.lc_model.specs.Tables.Image.{fault_of}
use Rattle.lc_model.specs.Tables.InForce.{layouts}
use Rattle.table_validator.specs.Sound.{TableImage}
use Rattle.limit_checker.proofs.DefaultTables.{no_file, no_opening, another_name, not_sound, is_sound_image, is_default, named_by}
use Rattle.limit_checker.proofs.starting.default_image.Goals as goal

pub returns-in_default-clause-image : goal.returns-in_default-clause-image
returns-in_default-clause-image c = no_file c.args.kind c.args.tables.now _ c.default_file.ensures c.in_default.ensures

pub returns-in_default-open-clause-image : goal.returns-in_default-open-clause-image
returns-in_default-open-clause-image c =
    no_opening c.args.kind c.args.tables.now _ c.default_file.ensures c.in-Some.bytes.now c.in-Some.ensures c.in_default-open.field-0 c.in_default-open.ensures.exact

pub returns-then-ne-clause-image : goal.returns-then-ne-clause-image
returns-then-ne-clause-image c =
    another_name c.args.kind c.args.tables.now _ c.default_file.ensures c.in-Some.bytes.now c.in-Some.ensures c.in-Ok.file c.in-Ok.ensures.exact
    (named_by _ _ _ _ c.ne.result c.name.ensures c.table_name.ensures.bytes c.ne.ensures ∙ ap not c.if-ne.true)

pub returns-in-Ok-validate-clause-image : goal.returns-in-Ok-validate-clause-image
returns-in-Ok-validate-clause-image c =
    ap (λ (valid : TableImage). Some valid.bytes) c.in-Ok-validate.ensures.lends ∙ ap Some c.image.ensures
    ∙ is_sound_image c.args.kind c.args.tables.now _ c.default_file.ensures c.in-Some.bytes.now c.in-Some.ensures c.in-Ok.file c.in-Ok.ensures.exact
    (named_by _ _ _ _ c.ne.result c.name.ensures c.table_name.ensures.bytes c.ne.ensures ∙ ap not c.if-ne.false)
    (c.in-Ok-validate.ensures.exact ∙ ap (fault_of layouts c.args.kind) c.image.ensures)

pub returns-in-Ok-validate-clause-default : goal.returns-in-Ok-validate-clause-default
returns-in-Ok-validate-clause-default c =
    is_default c.args.kind c.args.tables.now _ c.default_file.ensures c.in-Some.bytes.now c.in-Some.ensures c.in-Ok.file c.in-Ok.ensures.exact
    (named_by _ _ _ _ c.ne.result c.name.ensures c.table_name.ensures.bytes c.ne.ensures ∙ ap not c.if-ne.false)
    (c.in-Ok-validate.ensures.exact ∙ ap (fault_of layouts c.args.kind) c.image.ensures)
    c.in-Ok-validate.valid (c.in-Ok-validate.ensures.lends ∙ ap (λ bytes. record { kind = c.args.kind; bytes = bytes }) c.image.ensures)

pub returns-in-Err-clause-image : goal.returns-in-Err-clause-image
returns-in-Err-clause-image c =
    not_sound c.args.kind c.args.tables.now _ c.default_file.ensures c.in-Some.bytes.now c.in-Some.ensures c.in-Ok.file c.in-Ok.ensures.exact _
    (c.in-Err.ensures.exact ∙ ap (fault_of layouts c.args.kind) c.image.ensures)
