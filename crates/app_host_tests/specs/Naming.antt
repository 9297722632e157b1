-- What applications of the tests publish.
use Rattle.std.specs.Prelude.{ℕ, List, [], ◌∷◌}

-- a whole packet of message id 0x18D0, with code 0 and no payload
abbrev pub heard : List ℕ
heard = 24 ∷ 208 ∷ 192 ∷ 0 ∷ 0 ∷ 1 ∷ 0 ∷ 0 ∷ []
