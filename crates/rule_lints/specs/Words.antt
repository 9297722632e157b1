-- The names of a comment, as they are taken from its bytes. This project's own.
use Rattle.std.specs.Prelude.{ℕ, List, [], ◌∷◌, map, Option, Some, None}
use denote.Ref.{Bor}
use Rattle.rule_lints.specs.Quiet.{names_in}

-- the bytes of each
abbrev pub texts_of : List (Bor (List ℕ)) → List (List ℕ)
texts_of names = map (λ (name : Bor (List ℕ)). name.now) names

-- a name, and those of what follows it
abbrev pub names_by : Option (Bor (List ℕ) × Bor (List ℕ)) → List (List ℕ)
names_by None = []
names_by (Some (name, rest)) = name.now ∷ names_in rest.now
