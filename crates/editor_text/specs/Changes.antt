-- Changes of a text. This project's own; what they mean together is the Language Server Protocol's (3.17, "TextEdit[]").
use Rattle.std.specs.Prelude.{◌≡◌, ℕ, min, max, Bool, true, ◌&&◌, nat_le, List, [], ◌∷◌, ◌++◌, length, map, take, drop}
use Rattle.editor_text.specs.declared.change.Replacement.{Replacement}

-- the bytes from one place up to another become these
pub record Change : Type 0 where
  pub from : ℕ
  pub to : ℕ
  pub bytes : List ℕ

abbrev pub change_of : Replacement → Change
change_of change = record { from = change.from; to = change.to; bytes = change.text.items }

abbrev pub changes_of : List Replacement → List Change
changes_of changes = map change_of changes

-- the text after one change
abbrev pub replaced : List ℕ → ℕ → ℕ → List ℕ → List ℕ
replaced text from to bytes = take from text ++ (bytes ++ drop to text)

-- the same, where a place after the end is the end, and `to` is `from` if it is before it
abbrev pub replaced_within : List ℕ → ℕ → ℕ → List ℕ → List ℕ
replaced_within text from to bytes =
    let first : ℕ = min from (length text) in replaced text first (max (min to (length text)) first) bytes

-- the text after all changes, of which the last is made first
abbrev pub applied : List Change → List ℕ → List ℕ
applied [] text = text
applied (change ∷ rest) text = replaced (applied rest text) change.from change.to change.bytes

-- whether the changes are in order, don't overlap, and lie between a place and the text's end
abbrev pub are_apart : ℕ → ℕ → List Change → Bool
are_apart least size [] = true
are_apart least size (change ∷ rest) =
    (nat_le least change.from && (nat_le change.from change.to && nat_le change.to size)) && are_apart change.to size rest

-- the changes are in order, don't overlap, and lie within the text
abbrev pub AreApart : List ℕ → List Change → Type 0
AreApart text changes = are_apart 0 (length text) changes ≡ true
