-- The reserved words that denote no value, by the part of a text in which they stand. This project's own.
use Rattle.std.specs.Prelude.{ℕ, List, [], ◌∷◌, codes}

-- The words that begin an item.
abbrev pub item_words : List (List ℕ)
item_words = codes "packet" ∷ codes "field" ∷ codes "rule" ∷ []

-- The words of packets and fields.
abbrev pub field_words : List (List ℕ)
field_words = codes "mid" ∷ codes "length" ∷ codes "at" ∷ codes "mask" ∷ codes "stale" ∷ []

-- The words of rules.
abbrev pub rule_words : List (List ℕ)
rule_words = codes "fails" ∷ codes "sequence" ∷ codes "event" ∷ codes "report" ∷ codes "when" ∷ []

-- The operators of conditions.
abbrev pub operator_words : List (List ℕ)
operator_words = codes "or" ∷ codes "xor" ∷ codes "and" ∷ codes "not" ∷ []
