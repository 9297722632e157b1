-- Texts that lie one after the other. This project's own.
use Rattle.std.specs.Prelude.{ℕ, List, [], ◌∷◌, take, drop}

-- the texts with these lengths
unfoldable pub texts_in : List ℕ → List ℕ → List (List ℕ)
texts_in bytes [] = []
texts_in bytes (length ∷ lengths) = take length bytes ∷ texts_in (drop length bytes) lengths
