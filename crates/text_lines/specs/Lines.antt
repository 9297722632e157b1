-- Lines and words as they are taken from a text. This project's own.
use Rattle.std.specs.Prelude.{ℕ, ◌+◌, Bool, not, ◌||◌, ◌==◌, List, [], ◌∷◌, map, filter, length, Option, Some, None}
use denote.Ref.{Bor}
use Rattle.lc_model.specs.Host.ScheduleText.{lines_of, words_of}

-- a line feed ends a line
abbrev pub is_feed : ℕ → Bool
is_feed byte = byte == 10

-- space, tab and carriage return separate words
abbrev pub is_blank : ℕ → Bool
is_blank byte = byte == 32 || byte == 9 || byte == 13

-- the parts that have bytes
abbrev pub full : List (List ℕ) → List (List ℕ)
full parts = filter (λ part. not (length part == 0)) parts

-- the bytes of each
abbrev pub texts_of : List (Bor (List ℕ)) → List (List ℕ)
texts_of words = map (λ (word : Bor (List ℕ)). word.now) words

-- a word, and those of what follows it
abbrev pub words_by : Option (Bor (List ℕ) × Bor (List ℕ)) → List (List ℕ)
words_by None = []
words_by (Some (word, rest)) = word.now ∷ words_of rest.now

-- the lines of what is left, where something is
abbrev pub lines_in : Option (Bor (List ℕ)) → List (List ℕ)
lines_in None = []
lines_in (Some text) = lines_of text.now

-- how many lines there may be
abbrev pub most_lines : Option (Bor (List ℕ)) → ℕ
most_lines None = 0
most_lines (Some text) = length text.now + 1
