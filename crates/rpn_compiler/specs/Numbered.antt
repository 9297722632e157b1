-- The words of a condition whose mentions are numbered from left to right, with the heavier operand first. This project's
-- own.
use Rattle.std.specs.Prelude.{ℕ, ◌+◌, max, nat_lt, if◌then◌else◌, List, [], ◌∷◌, ◌++◌, map, Vec}
use Rattle.std.specs.declared.alloc.Global.{Global}
use Rattle.lc_model.specs.Condition.{Condition, Watch, Not, Join}
use Rattle.lc_model.specs.Tables.Equation.{operator_word, not_word}

-- The words of a condition, and their stack depth.
pub record Emitted : Type 0 where
  pub words : List ℕ
  pub need : ℕ

-- The words of two operands in this order, then the operator's.
abbrev pub in_turn : (operator : ℕ) → Emitted → Emitted → Emitted
in_turn operator a b = record { words = a.words ++ b.words ++ operator ∷ []; need = max a.need (b.need + 1) }

-- The words of two operands and the operator's, with the operand of greater need first; equal needs keep the text's order.
abbrev pub joined : (operator : ℕ) → Emitted → Emitted → Emitted
joined operator a b = if nat_lt a.need b.need then in_turn operator b a else in_turn operator a b

-- The words of a condition whose mentions have the first of these numbers, and the numbers that are left.
unfoldable pub by_numbers : Condition → List ℕ → Emitted × List ℕ
by_numbers (Watch t) [] = (record { words = []; need = 1 }, [])
by_numbers (Watch t) (n ∷ ns) = (record { words = n ∷ []; need = 1 }, ns)
by_numbers (Not c) ns =
    (record { words = (by_numbers c ns).0.words ++ not_word ∷ []; need = (by_numbers c ns).0.need }, (by_numbers c ns).1)
by_numbers (Join o a b) ns =
    (joined (operator_word o) (by_numbers a ns).0 (by_numbers b (by_numbers a ns).1).0, (by_numbers b (by_numbers a ns).1).1)

-- The words of two operands, in the text's order, and their operator.
abbrev pub operands_by_numbers : (operator : ℕ) → Condition → Condition → List ℕ → Emitted × List ℕ
operands_by_numbers operator a b ns =
    (joined operator (by_numbers a ns).0 (by_numbers b (by_numbers a ns).1).0, (by_numbers b (by_numbers a ns).1).1)

-- The words of each list.
abbrev pub words_of : List (Vec ℕ Global) → List (List ℕ)
words_of = map (λ (words : Vec ℕ Global). words.items)
