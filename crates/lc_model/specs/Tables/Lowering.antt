-- The words of rules before they are written into tables. This project's own.
use Rattle.std.specs.Prelude.{ℕ, ◌^◌, ◌≤◌, List}
use Rattle.lc_model.specs.declared.field.Term.{Term}
use Rattle.lc_model.specs.Condition.{Condition}
use Rattle.lc_model.specs.Rule.{NamedRule}
use Rattle.lc_model.specs.Tables.Equation.{words, need}
use Rattle.lc_model.specs.Tables.Compiling.{Limits}

-- The words of a rule's condition over these watchpoints, after `arranged`.
abbrev pub words_in : (Condition → Condition) → List Term → NamedRule → List ℕ
words_in arranged terms rule = words terms (arranged rule.action.condition)

-- 2 to the power of the stack depth is at most the limit of words: a depth of at most 4 for 20 words, 5 for 32.
abbrev pub NeedsFew : Limits → (Condition → Condition) → NamedRule → Type 0
NeedsFew limits arranged rule = 2 ^ need (arranged rule.action.condition) ≤ limits.words
