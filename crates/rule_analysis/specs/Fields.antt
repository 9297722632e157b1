-- The fields that terms read, told apart by their four parts. This project's own.
use Rattle.std.specs.Prelude.{IsTrue, IsFalse, ℕ, ◌+◌, ◌<◌, List, [], ◌∷◌, length, Bool, ◌&&◌, ◌==◌, if◌then◌else◌}
use Rattle.std.specs.List.{AllByRecursion, list_any}
use Rattle.lc_model.specs.declared.field.Term.{Term}
use Rattle.lc_model.specs.Codes.{type_code}
use Rattle.rule_analysis.specs.declared.fields.Field.{Field}
use Rattle.rule_analysis.specs.Judgement.{Place}

-- the term reads the field
abbrev pub is_field_of : Term → Field → Bool
is_field_of t f = (type_code t.kind == type_code f.kind) && (t.mid == f.mid) && (t.offset == f.offset) && (t.mask == f.mask)

-- the field that it reads
abbrev pub field_read : Term → Field
field_read t = record { kind = t.kind; mid = t.mid; offset = t.offset; mask = t.mask }

-- some term of the first list reads the same field as one of the second
abbrev pub read_one_field : List Term → List Term → Bool
read_one_field first second = list_any (λ t. list_any (λ u. is_field_of u (field_read t)) second) first

-- which of the fields a term reads; their count where none
unfoldable pub field_number : List Field → Term → ℕ
field_number [] t = 0
field_number (f ∷ fs) t = if is_field_of t f then 0 else field_number fs t + 1

-- it is one of them
abbrev pub HasField : List Field → Term → Type 0
HasField fields t = field_number fields t < length fields

-- the field's place
abbrev pub place_in : Field → Place
place_in f = record { kind = f.kind; mid = f.mid; offset = f.offset; mask = f.mask }

-- ---- the fields of terms

-- the two are one field
abbrev pub is_one : Field → Field → Bool
is_one f g = (type_code f.kind == type_code g.kind) && (f.mid == g.mid) && (f.offset == g.offset) && (f.mask == g.mask)

-- each two of them are different
unfoldable pub AreDifferent : List Field → Type 0
AreDifferent [] = Unit {0}
AreDifferent (f ∷ fields) = AllByRecursion (λ g. IsFalse (is_one g f)) fields × AreDifferent fields

-- each of them is read by a term, and stands there once
pub record AreFieldsOf (terms : List Term) (fields : List Field) : Type 0 where
  pub read : AllByRecursion (λ f. IsTrue (list_any (λ t. is_field_of t f) terms)) fields
  pub once : AreDifferent fields
