use Rattle.std.proofs.Common.{◌≡◌, sym, ◌∙◌, ap, None, option_map, [], ◌∷◌}
use Rattle.std.specs.Int.{is_in_range}
use Rattle.lc_model.specs.Tables.Image.{first_code, is_text_field}
use Rattle.table_validator.specs.Fault.{code_number}
use Rattle.table_validator.proofs.Chosen.{in_front, none_in_front, by_words, by_end}
use Rattle.table_validator.proofs.actionpoint.actionpoint_fault.Goals as goal

pub returns-in-Some : goal.returns-in-Some
returns-in-Some c =
    let e = c.args.entry.now in
    let passed : first_code (in_front e) ≡ None =
    none_in_front e _ _ _ (c.is_state.ensures ∙ ap (is_in_range 1 3) c.state_code.ensures) c.if-not-is_state.false
    c.has_wrong_event.ensures c.if-has_wrong_event.false (c.is_text_field.ensures ∙ ap is_text_field c.text_field.ensures) c.if-not-is_text_field.false in
    sym (by_words c.args.watchpoints e passed (code_number c.in-Some.code) (sym c.words_fault.ensures ∙ ap (option_map code_number) c.in-Some.is))

pub returns-then-has_zero : goal.returns-then-has_zero
returns-then-has_zero c =
    let e = c.args.entry.now in
    let passed : first_code (in_front e) ≡ None =
    none_in_front e _ _ _ (c.is_state.ensures ∙ ap (is_in_range 1 3) c.state_code.ensures) c.if-not-is_state.false
    c.has_wrong_event.ensures c.if-has_wrong_event.false (c.is_text_field.ensures ∙ ap is_text_field c.text_field.ensures) c.if-not-is_text_field.false in
    sym (by_end c.args.watchpoints e passed (sym c.words_fault.ensures ∙ ap (option_map code_number) c.in_default.is)
    ∙ ap (λ b. first_code ((b, 81) ∷ [])) (sym c.has_zero.ensures ∙ c.if-has_zero.true))

pub returns : goal.returns
returns c =
    let e = c.args.entry.now in
    let passed : first_code (in_front e) ≡ None =
    none_in_front e _ _ _ (c.is_state.ensures ∙ ap (is_in_range 1 3) c.state_code.ensures) c.if-not-is_state.false
    c.has_wrong_event.ensures c.if-has_wrong_event.false (c.is_text_field.ensures ∙ ap is_text_field c.text_field.ensures) c.if-not-is_text_field.false in
    sym (by_end c.args.watchpoints e passed (sym c.words_fault.ensures ∙ ap (option_map code_number) c.in_default.is)
    ∙ ap (λ b. first_code ((b, 81) ∷ [])) (sym c.has_zero.ensures ∙ c.if-has_zero.false))
