-- The JSON object of a message (RFC 8259). Its members are this project's own.
use Rattle.std.specs.Prelude.{◌≡◌, ℕ, ◌+◌, min, Bool, if◌then◌else◌, List, [], ◌∷◌, ◌++◌, length, map, Option, Some, None, codes, string_bytes}
use denote.Ref.{Bor}
use Rattle.serde_json.specs.Data.{Data, Items, object, member, no_members, string, array, no_items, number, unsigned, null}
use Rattle.serde_json.specs.View.{items_of}
use Rattle.serde_json.specs.Written.{compact_text}
use Rattle.diagnostics.specs.Line.{line_number}
use Rattle.diagnostics.specs.Character.{characters, column}
use Rattle.diagnostics.specs.Window as window
use Rattle.diagnostics.specs.declared.message.Edit.{Edit}
use Rattle.diagnostics.specs.declared.message.Mark.{Mark}
use Rattle.diagnostics.specs.declared.message.Message.{Message}
use Rattle.diagnostics.specs.declared.object.Notice.{Notice}
use Rattle.diagnostics.specs.declared.spot.Spot.{Spot}

-- ---- places

-- this many bytes at a place, as far as they stand on its line
abbrev pub token_in_line : List ℕ → (at size : ℕ) → List ℕ
token_in_line text at size = window.token_in_line text at size

-- the column after them
abbrev pub end_column : List ℕ → (at size : ℕ) → ℕ
end_column text at size = column text at + length (characters (token_in_line text at size))

-- where a mark stands: a place beyond the text's end is its end
abbrev pub place_of : List ℕ → Mark → ℕ
place_of text mark = min mark.at (length text)

-- the line and the columns of a mark, and what is said of it
pub record IsSpot (text : List ℕ) (mark : Mark) (spot : Spot) : Type 0 where
  pub line : spot.line ≡ line_number text (place_of text mark)
  pub column : spot.column ≡ column text (place_of text mark)
  pub end_column : spot.end_column ≡ end_column text (place_of text mark) mark.size
  pub label : spot.label.now ≡ string_bytes mark.label

-- ---- objects, whose members stand in the order of their names

abbrev number_of : ℕ → Data
number_of n = number (unsigned n)

-- a number, or null
abbrev pub number_or_null : Option ℕ → Data
number_or_null None = null
number_or_null (Some n) = number_of n

-- a notice, with its place or null, its edit or null, its other places and its warning's name or null
abbrev members : (at code edit : Data) → (file level message : List ℕ) → Items → Data → Data
members at code edit file level message others warning =
    object (member (codes "at") at
    (member (codes "code") code
    (member (codes "edit") edit
    (member (codes "file") (string file)
    (member (codes "level") (string level)
    (member (codes "message") (string message)
    (member (codes "others") (array others)
    (member (codes "warning") warning no_members))))))))

abbrev pub told_object : Notice → Data → Data → Items → Data → Data
told_object told at edit others warning =
    members at (number_or_null told.code) edit told.file.now told.level.now told.message.now others warning

-- the name of a warning, or null where there is none
abbrev pub name_object : Option (Bor (List ℕ)) → Data
name_object None = null
name_object (Some name) = string name.now

-- a place
abbrev pub mark_object : List ℕ → Mark → Data
mark_object text mark =
    object (member (codes "column") (number_of (column text (place_of text mark)))
    (member (codes "end_column") (number_of (end_column text (place_of text mark) mark.size))
    (member (codes "label") (string (string_bytes mark.label))
    (member (codes "line") (number_of (line_number text (place_of text mark))) no_members))))

-- a place, or null where there is none
abbrev pub place_object : List ℕ → Option Mark → Data
place_object text None = null
place_object text (Some mark) = mark_object text mark

-- all other places
abbrev pub mark_objects : List ℕ → List Mark → Items
mark_objects text marks = items_of (map (mark_object text) marks)

-- an edit, or null where there is none
abbrev pub edit_object : Option Edit → Data
edit_object None = null
edit_object (Some edit) =
    object (member (codes "from") (number_of edit.from)
    (member (codes "text") (string (string_bytes edit.text))
    (member (codes "to") (number_of edit.to) no_members)))

-- an error, or a warning, which has a name
abbrev pub kind_of : Option (Bor (List ℕ)) → List ℕ
kind_of None = codes "error"
kind_of (Some name) = codes "warning"

-- the number of the refusal; a warning has none
abbrev pub code_of : Option (Bor (List ℕ)) → ℕ → Option ℕ
code_of None code = Some code
code_of (Some name) code = None

-- a message of a text in a file of this name
abbrev pub message_object : (file text : List ℕ) → Message → Data
message_object file text message =
    members (place_object text message.first) (number_or_null (code_of message.warning message.code)) (edit_object message.edit) file (kind_of message.warning)
    (string_bytes message.head) (mark_objects text message.others.items) (name_object message.warning)

-- ---- lines

-- the object's text, with a line feed
abbrev pub message_text : (file text : List ℕ) → Message → List ℕ
message_text file text message = compact_text (message_object file text message) ++ 10 ∷ []

-- a warning or a note
abbrev pub level_of : Bool → List ℕ
level_of is_warning = if is_warning then codes "warning" else codes "note"

-- a notice about a file as a whole
abbrev pub note_text : List ℕ → Bool → List ℕ → List ℕ
note_text file is_warning note = compact_text (members null null null file (level_of is_warning) note no_items null) ++ 10 ∷ []
