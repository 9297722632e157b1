use Rattle.std.proofs.Common.{◌≡◌, sym, ◌∙◌, ap, subst, Some, None, option_map, arith}
use Rattle.lc_model.specs.declared.kind.Kind.{Kind}
use Rattle.lc_model.specs.Tables.Image as model
use Rattle.lc_model.specs.Tables.Image.{IsSound, fault_of, preamble_code}
use Rattle.lc_model.specs.Tables.InForce.{layouts}
use Rattle.table_file.specs.Layout.{layout_of}
use Rattle.table_validator.specs.Fault.{code_number}
use Rattle.table_validator.proofs.FirstFault.{entry_found, one_more, entries_count, all_sound, IsOf, layout_found}
use Rattle.table_validator.proofs.image.validate.Goals as goal

pub returns-in-Some-entry_fault-clause-exact : goal.returns-in-Some-entry_fault-clause-exact
returns-in-Some-entry_fault-clause-exact c =
    let l = layout_of c.in-Some.layout in
    let image = c.args.image.now in
    let found : model.layout_of layouts c.args.kind image ≡ Some l = sym c.of_image.ensures ∙ ap (option_map layout_of) c.in-Some.is in
    let passed : preamble_code l image ≡ None = sym c.preamble_fault.ensures ∙ ap (option_map code_number) c.in_default-preamble_fault.is in
    sym (entries_count c.args.kind image l found passed
    ∙ entry_found l image c.loop-number.number (code_number c.in-Some-entry_fault.code) c.loop-number-test.true c.loop-number.invariant
    (sym c.entry_fault.ensures ∙ ap (option_map code_number) c.in-Some-entry_fault.is))

pub loop-number-preserved : goal.loop-number-preserved
loop-number-preserved c =
    one_more (layout_of c.in-Some.layout) c.args.image.now c.loop-number.number c.loop-number.invariant
    (sym c.entry_fault.ensures ∙ ap (option_map code_number) c.in_default-entry_fault.is)

pub returns-clause-exact : goal.returns-clause-exact
returns-clause-exact c =
    let l = layout_of c.in-Some.layout in
    let image = c.args.image.now in
    let found : model.layout_of layouts c.args.kind image ≡ Some l = sym c.of_image.ensures ∙ ap (option_map layout_of) c.in-Some.is in
    let passed : preamble_code l image ≡ None = sym c.preamble_fault.ensures ∙ ap (option_map code_number) c.in_default-preamble_fault.is in
    sym (all_sound c.args.kind image l found passed c.loop-number.number (omega arith) c.loop-number.invariant)

pub invariant_of-result : goal.invariant_of-result
invariant_of-result c =
    let l = layout_of c.in-Some.layout in
    let image = c.args.image.now in
    let found : model.layout_of layouts c.args.kind image ≡ Some l = sym c.of_image.ensures ∙ ap (option_map layout_of) c.in-Some.is in
    let passed : preamble_code l image ≡ None = sym c.preamble_fault.ensures ∙ ap (option_map code_number) c.in_default-preamble_fault.is in
    let is : IsOf c.args.kind image l = layout_found c.args.kind image l found in
    let sound : IsSound layouts c.args.kind image =
    all_sound c.args.kind image l found passed c.loop-number.number (omega arith) c.loop-number.invariant in (
      subst (λ (kind : Kind). IsSound layouts kind image) (sym is.of_kind) sound,
      subst (λ (kind : Kind). model.layout_of layouts kind image ≡ Some l) (sym is.of_kind) found,
    )
