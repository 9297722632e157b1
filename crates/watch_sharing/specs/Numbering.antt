-- The numbers of watchpoints, in order of first mention. This project's own.
use Rattle.std.specs.Prelude.{ℕ, List, [], ◌∷◌, map, flat_map, Vec}
use Rattle.std.specs.List.{position_or_len}
use Rattle.std.specs.declared.alloc.Global.{Global}
use Rattle.indexmap.specs.IndexSet.{insert_key}
use Rattle.lc_model.specs.declared.field.Term.{Term}
use Rattle.lc_model.specs.Rule.{NamedRule}
use Rattle.lc_model.specs.Tables.Equation.{same_term, mentions}

-- The watchpoints with this one, which is added at the end unless it is there.
abbrev pub added : List Term → Term → List Term
added = insert_key same_term

-- The watchpoints with each of these added in turn.
unfoldable pub added_all : List Term → List Term → List Term
added_all terms [] = terms
added_all terms (t ∷ ts) = added_all (added terms t) ts

-- The number of a watchpoint; a new one gets the next number.
abbrev pub number_among : List Term → Term → ℕ
number_among terms t = position_or_len (same_term t) terms

-- The numbers of these watchpoints, each of which is added in turn.
unfoldable pub numbers_among : List Term → List Term → List ℕ
numbers_among terms [] = []
numbers_among terms (t ∷ ts) = number_among terms t ∷ numbers_among (added terms t) ts

-- All mentions of these rules, from left to right.
abbrev pub all_mentions : List NamedRule → List Term
all_mentions rules = flat_map (λ (r : NamedRule). mentions r.action.condition) rules

-- For each rule, in order, the numbers of its mentions.
unfoldable pub numbers_by_rule : List Term → List NamedRule → List (List ℕ)
numbers_by_rule terms [] = []
numbers_by_rule terms (r ∷ rs) = numbers_among terms (mentions r.action.condition) ∷ numbers_by_rule (added_all terms (mentions r.action.condition)) rs

-- The numbers of each rule, from the program's vectors.
abbrev pub numbers_of : List (Vec ℕ Global) → List (List ℕ)
numbers_of = map (λ (numbers : Vec ℕ Global). numbers.items)
