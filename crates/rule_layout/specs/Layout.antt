-- The one layout of a rule text: which gap stands before each of its pieces. This project's own.
use Rattle.std.specs.Prelude.{ℕ, ◌+◌, ◌-◌, ◌*◌, ◌^◌, min, max, Bool, true, false, not, ◌||◌, ◌&&◌, if◌then◌else◌, ◌==◌, nat_lt, List, [], ◌∷◌, ◌++◌, length, Option, Some, None, codes, bytes_eq}
use Rattle.std.specs.List.{list_any}
use Rattle.lc_model.specs.Text.Token.{line_feed}
use Rattle.rule_layout.specs.declared.gap.Gap.{Gap}
use Rattle.rule_layout.specs.declared.group.Group.{Group}
use Rattle.rule_layout.specs.declared.group.NextPart.{NextPart}
use Rattle.rule_layout.specs.declared.group.NextPart.TheVariants.{Item, Name, Inside}
use Rattle.rule_layout.specs.declared.layout.Layout.{Layout}
use Rattle.rule_layout.specs.Gaps.{blanks, gap_bytes, lines, may_touch, new_line, sound_gap}
use Rattle.rule_layout.specs.Shapes.{Shape, is_comment}

-- the most columns of a line that can be broken, the blanks before a line that goes on, and the deepest parentheses that add some
abbrev pub most_columns : ℕ
most_columns = 100

abbrev pub indent : ℕ
indent = 4

abbrev pub most_depth : ℕ
most_depth = 8

-- a sum as the program counts it
abbrev pub plus : ℕ → ℕ → ℕ
plus a b = min (a + b) (2 ^ 64 - 1)

-- ---- columns

-- whether a line may be broken before this piece
abbrev pub may_break : List ℕ → Bool
may_break text = list_any (bytes_eq text) (codes "mask" ∷ codes "stale" ∷ codes "event" ∷ codes "report" ∷ codes "when" ∷ codes "or"
    ∷ codes "xor" ∷ codes "and" ∷ [])

-- the columns of pieces on one line, after a piece before them that ends in column sum: up to the end of the item or a comment, and,
-- of a part, up to the next place where the line may be broken
abbrev pub columns_from : Bool → List ℕ → ℕ → List Shape → ℕ
columns_from is_part before sum [] = sum
columns_from is_part before sum (piece ∷ rest) =
    if bytes_eq before (codes ";") || (is_comment piece.text || (is_part && may_break piece.text)) then sum else
    columns_from is_part piece.text (plus (plus sum (if may_touch before piece.text then 0 else 1)) (length piece.text)) rest

abbrev pub item_columns : List ℕ → List Shape → ℕ
item_columns text rest = columns_from false text (length text) rest

abbrev pub part_columns : List ℕ → List Shape → ℕ
part_columns text rest = columns_from true text (length text) rest

-- ---- groups

-- a group of declarations of one kind, with one piece more; none if the piece is no part of it
abbrev pub group_step : List ℕ → Group → NextPart → Shape → Option (Group × NextPart)
group_step kind group Item piece =
    if is_comment piece.text then (if piece.lines == 0 then Some (group, Item) else None) else
    if bytes_eq piece.text kind && nat_lt piece.lines 2 then Some (record { items = plus group.items 1; columns = group.columns }, Name) else
    None
group_step kind group Name piece =
    if is_comment piece.text then Some (group, Name) else
    Some (
      record { items = group.items; columns = max group.columns (length piece.text) },
      (if bytes_eq piece.text (codes ";") then Item else Inside),
    )
group_step kind group Inside piece =
    if is_comment piece.text then Some (group, Inside) else
    Some (group, (if bytes_eq piece.text (codes ";") then Item else Inside))

-- the group with all pieces that are part of it
abbrev pub group_from : List ℕ → Group → NextPart → List Shape → Group
group_from kind group place [] = group
group_from kind group place (piece ∷ rest) =
    elim (group_step kind group place piece) [ None ↦ group | Some next ↦ group_from kind next.0 next.1 rest ]

-- the group that begins with this word
abbrev pub group_of : List ℕ → List Shape → Group
group_of kind rest = group_from kind (record { items = 1; columns = 0 }) Name rest

-- ---- gaps

abbrev pub indent_of : Layout → ℕ
indent_of layout = indent + indent * min layout.depth most_depth

-- a comment at the end of a line stays there, and one with a line to itself keeps it
abbrev pub before_comment : Layout → Shape → Gap
before_comment layout piece =
    if piece.lines == 0 then blanks 1 else if layout.is_inside then new_line (indent_of layout) else lines piece.lines

-- the `=` of a group stand in one column
abbrev pub before_equals : Layout → List ℕ → Gap
before_equals layout name = blanks (plus (layout.group.columns - length name) 1)

-- whether a line is broken before this token, however much room there is
abbrev pub must_break : Layout → List ℕ → Bool
must_break layout text =
    (bytes_eq text (codes "when") && layout.is_broken)
    || (bytes_eq text (codes "or") && (layout.is_long && layout.depth == 0))

-- whether a line may be broken before this token, and has no room for what goes with it
abbrev pub lacks_room : Layout → List ℕ → List Shape → Bool
lacks_room layout text rest = may_break text && nat_lt most_columns (plus layout.column (plus (part_columns text rest) 1))

-- a token inside an item
abbrev pub before_token : Layout → List ℕ → List ℕ → List Shape → Gap
before_token layout before text rest =
    if is_comment before || (must_break layout text || lacks_room layout text rest) then new_line (indent_of layout) else
    if may_touch before text then blanks 0 else blanks 1

-- the gap before a piece; an item begins a line, and one empty line before it stays
abbrev pub gap_before : Layout → List ℕ → Shape → List Shape → Gap
gap_before layout before piece rest =
    if is_comment piece.text then before_comment layout piece else
    if not layout.is_inside then lines (max piece.lines 1) else
    if bytes_eq piece.text (codes "=") then before_equals layout before else
    before_token layout before piece.text rest

-- the gap between a piece and the one before it, if there is one
abbrev pub gap_of : Layout → Option (List ℕ) → Shape → List Shape → Gap
gap_of layout None piece rest = sound_gap None (blanks 0) piece.text
gap_of layout (Some before) piece rest = sound_gap (Some before) (gap_before layout before piece rest) piece.text

-- ---- states

abbrev pub at_start : Layout
at_start = record {
  is_inside = false;
  column = 0;
  depth = 0;
  is_broken = false;
  is_long = false;
  group = record { items = 0; columns = 0 };
}

abbrev pub column_after : ℕ → Gap → List ℕ → ℕ
column_after column gap text = plus (if nat_lt 0 gap.lines then 0 else column) (plus gap.blanks (length text))

-- an item begins with this piece, which ends in this column
abbrev pub with_item : Layout → ℕ → List ℕ → List Shape → Layout
with_item layout column text rest = record {
  is_inside = true;
  column = column;
  depth = 0;
  is_broken = nat_lt most_columns (item_columns text rest);
  is_long = false;
  group = if nat_lt 1 layout.group.items then record { items = layout.group.items - 1; columns = layout.group.columns } else group_of text rest;
}

-- an item goes on with this token
abbrev pub with_token : Layout → ℕ → List ℕ → List Shape → Layout
with_token layout column text rest = record {
  is_inside = not (bytes_eq text (codes ";"));
  column = column;
  depth = if bytes_eq text (codes "(") then plus layout.depth 1 else if bytes_eq text (codes ")") then layout.depth - 1 else layout.depth;
  is_broken = layout.is_broken;
  is_long = if bytes_eq text (codes "when") then nat_lt most_columns (plus (item_columns text rest) indent) else layout.is_long;
  group = layout.group;
}

-- a comment has been written
abbrev pub with_comment : Layout → ℕ → Layout
with_comment layout column = record {
  is_inside = layout.is_inside;
  column = column;
  depth = layout.depth;
  is_broken = layout.is_broken;
  is_long = layout.is_long;
  group = layout.group;
}

-- the state after a piece that stands behind this gap
abbrev pub after : Layout → Gap → List ℕ → List Shape → Layout
after layout gap text rest =
    if is_comment text then with_comment layout (column_after layout.column gap text) else
    if not layout.is_inside then with_item layout (column_after layout.column gap text) text rest else
    with_token layout (column_after layout.column gap text) text rest

-- ---- texts

-- the end of the last line
abbrev pub ending : Option (List ℕ) → List ℕ
ending None = []
ending (Some text) = line_feed ∷ []

-- the text of these pieces, behind those that led to this state
abbrev pub laid_out_from : Layout → Option (List ℕ) → List Shape → List ℕ
laid_out_from layout before [] = ending before
laid_out_from layout before (piece ∷ rest) =
    (gap_bytes (gap_of layout before piece rest) ++ piece.text)
    ++ laid_out_from (after layout (gap_of layout before piece rest) piece.text rest) (Some piece.text) rest

abbrev pub laid_out : List Shape → List ℕ
laid_out shapes = laid_out_from at_start None shapes
