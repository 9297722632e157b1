-- The tokens and comments of a rule text, in their order. This project's own.
use Rattle.std.specs.Prelude.{IsTrue, ℕ, List, [], ◌∷◌, ◌++◌}
use Rattle.lc_model.specs.Text.Token.{IsComment, IsLongest, is_blank, is_token}

-- a token or a comment, by its bytes
pub data Part : Type 0 where
  Token Comment : (text : List ℕ) → Part

-- the text is these parts, with blanks before, between and after them
pub data HasParts : List ℕ → List Part → Type 0 where
  none : HasParts [] []
  blank : {c : ℕ} {text : List ℕ} {parts : List Part} → IsTrue (is_blank c) → HasParts text parts → HasParts (c ∷ text) parts
  comment : {text : List ℕ} {parts : List Part} (bytes : List ℕ) →
      IsComment bytes text → HasParts text parts → HasParts (bytes ++ text) (Comment bytes ∷ parts)
  token : {text : List ℕ} {parts : List Part} (word : List ℕ) →
      IsTrue (is_token word) → IsLongest word text → HasParts text parts → HasParts (word ++ text) (Token word ∷ parts)

-- both texts have the same tokens and comments, in the same order: only blanks differ
abbrev pub HaveSameParts : List ℕ → List ℕ → Type 0
HaveSameParts text other = (parts : List Part) × HasParts text parts × HasParts other parts
