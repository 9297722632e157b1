-- The text of a decompiled condition, in the rule language with `w0`, `w1` and so on for comparisons. This project's
-- own.
use Rattle.std.specs.Prelude.{ℕ, Bool, if◌then◌else◌, nat_lt, nat_le, List, ◌++◌, codes}
use Rattle.std.specs.Fmt.{decimal}
use Rattle.lc_model.specs.Condition.{Operator, And, Or, Xor}
use Rattle.table_listing.specs.Formula.{Formula, Watch, Not, Join}

-- the word of an operator
abbrev pub operator_name : Operator → List ℕ
operator_name And = codes "and"
operator_name Or = codes "or"
operator_name Xor = codes "xor"

-- how tightly an operator binds: `or` the least, then `xor`, then `and`
abbrev pub tightness_of : Operator → ℕ
tightness_of Or = 0
tightness_of Xor = 1
tightness_of And = 2

-- how tightly the outermost part of a formula binds; `not` and watchpoints the most
abbrev pub tightness : Formula → ℕ
tightness (Watch n) = 3
tightness (Not f) = 3
tightness (Join o a b) = tightness_of o

-- Whether a formula needs parentheses: as the operand of `not` and as an operator's first operand if it binds less
-- tightly, as the second operand if it doesn't bind more tightly.
abbrev pub needed_in_not : Formula → Bool
needed_in_not f = nat_lt (tightness f) 3

abbrev pub needed_first : Operator → Formula → Bool
needed_first o a = nat_lt (tightness a) (tightness_of o)

abbrev pub needed_second : Operator → Formula → Bool
needed_second o b = nat_le (tightness b) (tightness_of o)

-- the text, with parentheses if they are needed
abbrev pub parenthesized : Bool → List ℕ → List ℕ
parenthesized needed text = if needed then codes "(" ++ (text ++ codes ")") else text

-- the text of a formula
abbrev pub condition_text : Formula → List ℕ
condition_text (Watch n) = codes "w" ++ decimal n
condition_text (Not f) = codes "not " ++ parenthesized (needed_in_not f) (condition_text f)
condition_text (Join o a b) =
    parenthesized (needed_first o a) (condition_text a) ++ (codes " " ++ (operator_name o ++ (codes " " ++ parenthesized (needed_second o b) (condition_text b))))
