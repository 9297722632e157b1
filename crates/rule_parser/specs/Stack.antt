-- The symbols that must still be read, as a stack, and the first token that does not fit. This project's own.
use Rattle.std.specs.Prelude.{codes, ℕ, zero, suc, Bool, true, false, ◌||◌, if◌then◌else◌, List, [], ◌∷◌, ◌++◌, map, Option, Some, None}
use Rattle.std.specs.Option.{option_map_or}
use Rattle.lc_model.specs.Text.Token.{Token}
use Rattle.lc_model.specs.Text.Class.{Class, Item, Name, Number, State, Level, Text, FieldKind, Operand, Compare, Word, word, sign, fits}
use Rattle.lc_model.specs.Text.Reading.{ParseFault, Expected, TooNested, nests, ends_item, most_nested}

-- A symbol: a token of a class; an optional word with the tokens after it; or the rest of a condition, before or after an
-- operand, with the token `close` that ends it.
pub data Symbol : Type 0 where
  one : (class : Class) → Symbol
  option : (letters : List ℕ) (following : List Class) → Symbol
  operand after : (close : Class) → Symbol

-- A symbol for each class.
abbrev pub ones : List Class → List Symbol
ones = map one

-- A packet after the word `packet`.
abbrev pub packet_left : List Symbol
packet_left = ones (Name ∷ sign "=" ∷ word "mid" ∷ Number ∷ word "length" ∷ Number ∷ sign ";" ∷ [])

-- A field after the word `field`.
abbrev pub field_left : List Symbol
field_left =
    ones (Name ∷ sign "=" ∷ Name ∷ FieldKind ∷ word "at" ∷ Number ∷ [])
    ++ option (codes "mask") (Number ∷ []) ∷ option (codes "stale") (Number ∷ []) ∷ one (sign ";") ∷ []

-- A rule after the word `rule`.
abbrev pub rule_left : List Symbol
rule_left =
    ones (Name ∷ State ∷ word "fails" ∷ Number ∷ word "sequence" ∷ Number ∷ word "event" ∷ Level ∷ Number ∷ Text ∷ [])
    ++ option (codes "report") (Number ∷ Number ∷ Number ∷ []) ∷ one (word "when") ∷ operand (sign ";") ∷ []

-- Whether the token is `and`, `xor` or `or`.
abbrev pub joins : Token → Bool
joins t = fits (word "and") t.text || (fits (word "xor") t.text || fits (word "or") t.text)

-- The symbols to be read after a token that fits; `None` if it does not. With no symbols left an item may begin.
abbrev pub step : List Symbol → Token → Option (List Symbol)
step [] t =
    if fits (word "packet") t.text then Some packet_left else
    if fits (word "field") t.text then Some field_left else
    if fits (word "rule") t.text then Some rule_left else None
step (one class ∷ s) t = if fits class t.text then Some s else None
step (option letters following ∷ s) t = if fits (Word letters) t.text then Some (ones following ++ s) else step s t
step (operand close ∷ s) t =
    if fits Name t.text then Some (one Compare ∷ one Number ∷ after close ∷ s) else
    if fits (word "not") t.text then Some (operand close ∷ s) else
    if fits (sign "(") t.text then Some (operand (sign ")") ∷ after close ∷ s) else None
step (after close ∷ s) t = if joins t then Some (operand close ∷ s) else if fits close t.text then Some s else None

-- The class that is expected next, without optional symbols.
abbrev pub wanted : List Symbol → Class
wanted [] = Item
wanted (one class ∷ s) = class
wanted (option letters following ∷ s) = wanted s
wanted (operand close ∷ s) = Operand
wanted (after close ∷ s) = close

-- Only optional symbols are left.
abbrev pub is_finished : List Symbol → Bool
is_finished [] = true
is_finished (option letters following ∷ s) = is_finished s
is_finished s = false

-- ---- nesting

-- Outside a condition; or inside one, with the number of tokens that may still nest.
pub data Room : Type 0 where
  outside : Room
  inside : (left : ℕ) → Room

-- One nesting token more; `None` if that is too many.
abbrev pub less : ℕ → Option Room
less zero = None
less (suc left) = Some (inside left)

-- The room after a token.
abbrev pub narrowed : Room → Token → Option Room
narrowed outside t = Some (if fits (word "when") t.text then inside most_nested else outside)
narrowed (inside left) t = if ends_item t then Some outside else if nests t then less left else Some (inside left)

-- ---- the first fault

-- The first fault: a token that does not fit (11), a nesting token too many (12), or the end of the text if a symbol is still to
-- be read (11).
unfoldable pub fault_at : (end : ℕ) → Room → List Symbol → List Token → Option ParseFault
fault_at end room s [] = if is_finished s then None else Some (Expected end (wanted s))
fault_at end room s (t ∷ ts) =
    option_map_or
    (λ left. option_map_or (λ narrower. fault_at end narrower left ts) (narrowed room t) (Some (TooNested t.at)))
    (step s t)
    (Some (Expected t.at (wanted s)))
