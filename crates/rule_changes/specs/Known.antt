-- Known-comparisons: each is true where other comparisons are known. Questions about two conditions are lifted by them. This
-- project's own.
use Rattle.std.specs.Prelude.{ℕ, ◌+◌, ◌*◌, pos, Bool, ◌&&◌, ◌||◌, ◌==◌, nat_le, nat_lt, Contains, IsTrue, if◌then◌else◌, List, [], ◌∷◌, ◌++◌}
use Rattle.lc_model.specs.declared.field.Term.{Term}
use Rattle.lc_model.specs.declared.field.FieldType.TheVariants.{U8}
use Rattle.lc_model.specs.declared.field.CmpOp.TheVariants.{Equal}
use Rattle.lc_model.specs.Field.{width}
use Rattle.lc_model.specs.Codes.{type_code}
use Rattle.lc_model.specs.Condition.{Condition, Watch, Not, Join, And, Or, Xor}
use Rattle.lc_model.specs.Tables.Equation.{mentions}
use Rattle.lc_model.specs.Laws.Lifted.{lifted}

-- The message id of these comparisons. It is no telemetry, so no comparison of a valid text reads packets that have it.
abbrev pub known_mid : ℕ
known_mid = 0

-- Both comparisons are known after the same histories: they read one field, and have one stale age.
abbrev pub is_known_alike : Term → Term → Bool
is_known_alike t u = (type_code t.kind == type_code u.kind) && (t.mid == u.mid) && (t.offset == u.offset) && (t.mask == u.mask) && (t.stale == u.stale)

-- The number of the first of the terms that is known after the same histories as this one; their count if none is.
unfoldable pub known_number : List Term → Term → ℕ
known_number [] t = 0
known_number (first ∷ terms) t = if is_known_alike t first then 0 else known_number terms t + 1

-- The known-comparison of the terms with this number: it is true if bit 0 of its own field is set.
abbrev pub known_term : ℕ → Term
known_term number = record { kind = U8; mid = known_mid; offset = number; mask = 1; stale = 0; op = Equal; value = pos 1 }

-- The condition that this term is known.
abbrev pub known_by : List Term → Term → Condition
known_by terms t = Watch (known_term (known_number terms t))

-- The question whether the first condition can be true (or false, for `wanted` false) where the second one is not.
abbrev pub only_first : List Term → Bool → Condition → Condition → Condition
only_first terms wanted first second = Join And (lifted (known_by terms) wanted first) (Not (lifted (known_by terms) wanted second))

-- The second term is known wherever the first one is: it reads the same packets, its field ends no later, and it is stale no sooner.
abbrev pub is_known_with : Term → Term → Bool
is_known_with t u = (u.mid == t.mid) && nat_le (u.offset + width u.kind) (t.offset + width t.kind)
    && ((u.stale == 0) || (nat_lt 0 t.stale && nat_le t.stale u.stale))

-- The question, with ties in front: conditions that hold of the terms in every history, since one is known wherever another one is.
pub data IsTied (terms : List Term) (question : Condition) : Condition → Type 0 where
  free : IsTied terms question question
  tie : {made : Condition} (t u : Term) → Contains terms t → Contains terms u → IsTrue (is_known_with t u) → IsTied terms question made →
      IsTied terms question (Join And (Join Or (Not (known_by terms t)) (known_by terms u)) made)

-- The comparisons of both conditions.
abbrev pub terms_of_both : Condition → Condition → List Term
terms_of_both first second = mentions first ++ mentions second

-- The number of comparisons of a lifted condition: two for each comparison, and a `xor` doubles its operands.
abbrev pub lifted_size : Condition → ℕ
lifted_size (Watch t) = 2
lifted_size (Not c) = lifted_size c
lifted_size (Join And a b) = lifted_size a + lifted_size b
lifted_size (Join Or a b) = lifted_size a + lifted_size b
lifted_size (Join Xor a b) = 2 * (lifted_size a + lifted_size b)

-- The most comparisons that a question may have.
abbrev pub most_comparisons : ℕ
most_comparisons = 4096

-- No packet of telemetry has the message id of the term.
abbrev pub is_of_no_packet : Term → Bool
is_of_no_packet t = t.mid == known_mid
