-- Messages have no numbers with a point.
use Rattle.std.proofs.Common.{◌≡◌, false, ℕ, List, [], ◌∷◌, Bor, refl, Option, Some, None}
use Rattle.serde_json.specs.Written.{has_float, items_have_float}
use Rattle.diagnostics.specs.declared.message.Edit.{Edit}
use Rattle.diagnostics.specs.declared.message.Mark.{Mark}
use Rattle.diagnostics.specs.declared.message.Message.{Message}
use Rattle.diagnostics.specs.Object.{code_of, edit_object, mark_objects, message_object, name_object, number_or_null, place_object}

marks_have_none : (text : List ℕ) (marks : List Mark) → items_have_float (mark_objects text marks) ≡ false
marks_have_none text [] = refl
marks_have_none text (mark ∷ marks) = marks_have_none text marks

place_has_none : (text : List ℕ) (first : Option Mark) → has_float (place_object text first) ≡ false
place_has_none text None = refl
place_has_none text (Some mark) = refl

code_has_none : (warning : Option (Bor (List ℕ))) (code : ℕ) → has_float (number_or_null (code_of warning code)) ≡ false
code_has_none None code = refl
code_has_none (Some name) code = refl

name_has_none : (warning : Option (Bor (List ℕ))) → has_float (name_object warning) ≡ false
name_has_none None = refl
name_has_none (Some name) = refl

edit_has_none : (edit : Option Edit) → has_float (edit_object edit) ≡ false
edit_has_none None = refl
edit_has_none (Some edit) = refl

pub message_has_none : (file text : List ℕ) (message : Message) → has_float (message_object file text message) ≡ false
message_has_none file text message =
    rw (
      place_has_none text message.first,
      code_has_none message.warning message.code,
      edit_has_none message.edit,
      marks_have_none text message.others.items,
      name_has_none message.warning,
    ) refl
