-- What a message says: its number or its name, its first place, and its edit. This project's own.
use Rattle.std.specs.Prelude.{◌≡◌, ◌≤◌, ◌&&◌, if◌then◌else◌, nat_le, ℕ, Bool, true, List, length, ⊤, Option, Some, None, option_map}
use denote.Ref.{Bor}
use Rattle.diagnostics.specs.declared.message.Edit.{Edit}
use Rattle.diagnostics.specs.declared.message.Mark.{Mark}
use Rattle.diagnostics.specs.declared.message.Message.{Message}

-- the place of the first mark
abbrev pub first_place : Message → Option ℕ
first_place message = option_map (λ (mark : Mark). mark.at) message.first

-- the message has this number and this place
abbrev pub IsAt : (code at : ℕ) → Message → Type 0
IsAt code at message = (message.code ≡ code) × (first_place message ≡ Some at)

-- the message is the warning of this name, at this place
abbrev pub IsWarning : (name : List ℕ) (at : ℕ) → Message → Type 0
IsWarning name at message =
    (option_map (λ (text : Bor (List ℕ)). text.now) message.warning ≡ Some name) × (first_place message ≡ Some at)

-- the message with another edit
abbrev pub edited : Option Edit → Message → Message
edited edit message =
    record { code = message.code; warning = message.warning; head = message.head; first = message.first; others = message.others; edit = edit }

-- an edit changes bytes of the text, if there is one
abbrev pub IsInside : List ℕ → Option Edit → Type 0
IsInside text None = ⊤
IsInside text (Some edit) = (edit.from ≤ edit.to) × (edit.to ≤ length text)

-- the same of a text of this size, as a test
abbrev pub is_inside : ℕ → Option Edit → Bool
is_inside size None = true
is_inside size (Some edit) = nat_le edit.from edit.to && nat_le edit.to size

-- the message without an edit that isn't inside the text
abbrev pub within : List ℕ → Message → Message
within text message = if is_inside (length text) message.edit then message else edited None message
