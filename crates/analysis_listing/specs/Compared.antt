-- The fields that a condition compares. This project's own.
use Rattle.std.specs.Prelude.{ℕ, Bool, ◌||◌, List, bytes_eq}
use Rattle.lc_model.specs.Text.Syntax.{Expression, Compare, Not, Join}

-- a condition compares the field of this name
abbrev pub compares : List ℕ → Expression → Bool
compares name (Compare field op value) = bytes_eq field.text name
compares name (Not e) = compares name e
compares name (Join o a b) = compares name a || compares name b
