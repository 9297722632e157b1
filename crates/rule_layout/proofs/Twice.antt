-- Formatting twice is formatting once.
use Rattle.std.proofs.Common.{◌≡◌, ◌≢◌, refl, sym, ◌∙◌, ap, subst, ℕ, ◌+◌, ◌-◌, ◌*◌, ◌≤◌, min, max, ◌⊎◌, inl, inr, Bool, true, false, not, cond, ◌&&◌, ◌||◌, ◌==◌, List, [], ◌∷◌, ◌++◌, length, Option, Some, None, codes, arith}
use Rattle.std.specs.Prelude.{bytes_eq, nat_lt, if◌then◌else◌}
use Rattle.lc_model.specs.Text.Token.{IsComment, is_token, line_feed, number_sign}
use Rattle.lc_model.proofs.Facts.{tested_equal, tested_unequal}
use Rattle.rule_layout.specs.declared.gap.Gap.{Gap}
use Rattle.rule_layout.specs.declared.group.Group.{Group}
use Rattle.rule_layout.specs.declared.group.NextPart.{NextPart}
use Rattle.rule_layout.specs.declared.group.NextPart.TheVariants.{Item, Name, Inside}
use Rattle.rule_layout.specs.declared.layout.Layout.{Layout}
use Rattle.rule_layout.specs.Shapes.{HasShapes, Shape, blank, comment, is_comment, line, none, token}
use Rattle.rule_layout.specs.Gaps.{gap_bytes, may_touch, sound_gap}
use Rattle.rule_layout.specs.Layout.{after, at_start, before_comment, before_equals, before_token, column_after, columns_from, gap_before, gap_of, group_from, group_of, group_step, indent_of, item_columns, laid_out, laid_out_from, may_break, must_break, plus, with_comment, with_item, with_token}
use Rattle.rule_layout.specs.Formatting.{IsFormatted}
use Rattle.rule_layout.proofs.Fronts.{blank_no_token}
use Rattle.rule_layout.proofs.Texts.{again_from, has_again, token_no_comment}
use Rattle.rule_layout.proofs.Unique.{one_list}

-- ---- what the pieces of a text have in common

abbrev ends_comment : Option (List ℕ) → Bool
ends_comment None = false
ends_comment (Some text) = is_comment text

-- at most two line feeds count, and some stand behind a comment
record IsTidy (before : Option (List ℕ)) (shape : Shape) : Type 0 where
  pub few : shape.lines ≤ 2
  pub some : ends_comment before ≡ true → shape.lines ≢ 0

abbrev AreTidy : Option (List ℕ) → List Shape → Type 0
AreTidy before [] = Unit {0}
AreTidy before (shape ∷ shapes) = IsTidy before shape × AreTidy (Some shape.text) shapes

abbrev EndsLine : List ℕ → Type 0
EndsLine [] = Unit {0}
EndsLine (c ∷ cs) = c ≡ line_feed

-- a line feed has come, or comes next
abbrev HasLine : ℕ → List ℕ → Type 0
HasLine lines text = (lines ≢ 0) ⊎ EndsLine text

line_behind : (bytes text : List ℕ) → IsComment bytes text → EndsLine text
line_behind [] text i = absurd i
line_behind (c ∷ cs) [] i = tt
line_behind (c ∷ cs) (d ∷ ds) i = i.2

no_line_in_comment : (lines : ℕ) (bytes text : List ℕ) → IsComment bytes text → HasLine lines (bytes ++ text) → lines ≢ 0
no_line_in_comment lines [] text i has = absurd i
no_line_in_comment lines (c ∷ cs) text i (inl some) = some
no_line_in_comment lines (c ∷ cs) text i (inr e) = let sign : c ≡ number_sign = i.0 in absurd (cc (sign, e))

no_line_in_token : (lines : ℕ) (word text : List ℕ) → is_token word ≡ true → HasLine lines (word ++ text) → lines ≢ 0
no_line_in_token lines [] text good has = absurd (cc good)
no_line_in_token lines (c ∷ cs) text good (inl some) = some
no_line_in_token lines (c ∷ cs) text good (inr e) = absurd (cc (good, blank_no_token c cs (rw e refl)))

behind_blank : (lines c : ℕ) (text : List ℕ) → c ≢ line_feed → HasLine lines (c ∷ text) → HasLine lines text
behind_blank lines c text other (inl some) = inl some
behind_blank lines c text other (inr feed) = absurd (other feed)

tidy_from : {lines : ℕ} {text : List ℕ} {shapes : List Shape} → HasShapes lines text shapes → lines ≤ 2 → (before : Option (List ℕ)) →
    (ends_comment before ≡ true → HasLine lines text) → AreTidy before shapes
tidy_from none few before has = tt
tidy_from {lines = lines} (blank {c = c} {text = text} is other has) few before begun =
    tidy_from has few before (λ e. behind_blank lines c text other (begun e))
tidy_from {lines = lines} (line has) few before begun =
    tidy_from has (let small : lines ≤ 2 = few in omega (arith, small)) before (λ e. inl (λ z. omega (arith, z)))
tidy_from {lines = lines} (comment {text = text} bytes is has) few before begun = (
  record { few = few; some = λ e. no_line_in_comment lines bytes text is (begun e) },
  tidy_from has (omega arith) (Some bytes) (λ e. inr (line_behind bytes text is)),
)
tidy_from {lines = lines} (token {text = text} word good longest has) few before begun = (
  record { few = few; some = λ e. no_line_in_token lines word text good (begun e) },
  tidy_from has (omega arith) (Some word) (λ e. absurd (cc (e, token_no_comment word good))),
)

-- ---- columns

columns_again : (is_part : Bool) (text : List ℕ) (sum : ℕ) (layout : Layout) (before : Option (List ℕ)) (shapes : List Shape) →
    columns_from is_part text sum (again_from layout before shapes) ≡ columns_from is_part text sum shapes
columns_again is_part text sum layout before [] = refl
columns_again is_part text sum layout before (piece ∷ rest) =
    ap (λ r. cond (bytes_eq text (codes ";") || (is_comment piece.text || (is_part && may_break piece.text))) sum r)
    (columns_again is_part piece.text (plus (plus sum (if may_touch text piece.text then 0 else 1)) (length piece.text))
    (after layout (gap_of layout before piece rest) piece.text rest) (Some piece.text) rest)

-- ---- line feeds

-- the line feeds before a piece in the layout
abbrev lines_again : Layout → Option (List ℕ) → Shape → List Shape → ℕ
lines_again layout before piece rest = min (gap_of layout before piece rest).lines 2

zero_test : (n : ℕ) → n ≢ 0 → (n == 0) ≡ false
zero_test n some = go (n == 0) refl
  where
    go : (b : Bool) → (n == 0) ≡ b → (n == 0) ≡ false
    go true e = absurd (some (tested_equal n 0 e))
    go false e = e

-- a gap with line feeds is sound
sound_lines : (before : List ℕ) (gap : Gap) (text : List ℕ) → gap.lines ≢ 0 → sound_gap (Some before) gap text ≡ gap
sound_lines before gap text some = go (is_comment before) refl
  where
    none : (gap.lines == 0) ≡ false
    none = zero_test gap.lines some

    go : (b : Bool) → is_comment before ≡ b → sound_gap (Some before) gap text ≡ gap
    go true e = rw (e, none) refl
    go false e = rw (e, none) refl

-- a blank behind a piece that is no comment
sound_blank : (before text : List ℕ) → is_comment before ≡ false → (sound_gap (Some before) (record { lines = 0; blanks = 1 }) text) ≡ record { lines = 0; blanks = 1 }
sound_blank before text e = rw e refl

no_comment_before : (before : List ℕ) (shape : Shape) → IsTidy (Some before) shape → shape.lines ≡ 0 → is_comment before ≡ false
no_comment_before before shape tidy no_lines = go (is_comment before) refl
  where
    go : (b : Bool) → is_comment before ≡ b → is_comment before ≡ false
    go true e = absurd (tidy.some e no_lines)
    go false e = e

-- a comment that stands on the line before it, and one that does not
comment_beside : (layout : Layout) (before : List ℕ) (piece : Shape) (rest : List Shape) → is_comment piece.text ≡ true → IsTidy (Some before) piece →
    piece.lines ≡ 0 → gap_of layout (Some before) piece rest ≡ record { lines = 0; blanks = 1 }
comment_beside layout before piece rest is tidy no_lines =
    ap (λ (gap : Gap). sound_gap (Some before) gap piece.text) wish ∙ sound_blank before piece.text (no_comment_before before piece tidy no_lines)
  where
    wish : gap_before layout before piece rest ≡ record { lines = 0; blanks = 1 }
    wish = rw (is, no_lines) refl

comment_below : (layout : Layout) (before : List ℕ) (piece : Shape) (rest : List Shape) → is_comment piece.text ≡ true → piece.lines ≢ 0 →
    gap_of layout (Some before) piece rest ≡
    (if layout.is_inside then record { lines = 1; blanks = 4 + 4 * min layout.depth 8 } else record { lines = piece.lines; blanks = 0 })
comment_below layout before piece rest is some = go layout.is_inside refl
  where
    test : (piece.lines == 0) ≡ false
    test = zero_test piece.lines some

    go : (b : Bool) → layout.is_inside ≡ b → gap_of layout (Some before) piece rest ≡
        (if layout.is_inside then record { lines = 1; blanks = 4 + 4 * min layout.depth 8 } else record { lines = piece.lines; blanks = 0 })
    go true e = rw (is, test, e) (sound_lines before (record { lines = 1; blanks = 4 + 4 * min layout.depth 8 }) piece.text (λ z. cc z))
    go false e = rw (is, test, e) (sound_lines before (record { lines = piece.lines; blanks = 0 }) piece.text some)

-- an item begins a line
item_gap : (layout : Layout) (before : List ℕ) (piece : Shape) (rest : List Shape) → is_comment piece.text ≡ false → layout.is_inside ≡ false →
    gap_of layout (Some before) piece rest ≡ record { lines = max piece.lines 1; blanks = 0 }
item_gap layout before piece rest is out =
    rw (is, out) (sound_lines before (record { lines = max piece.lines 1; blanks = 0 }) piece.text (λ z. omega (arith, z)))

comment_test : (layout : Layout) (before : List ℕ) (piece : Shape) (rest : List Shape) → is_comment piece.text ≡ true → IsTidy (Some before) piece →
    (lines_again layout (Some before) piece rest == 0) ≡ (piece.lines == 0)
comment_test layout before piece rest is tidy = go (piece.lines == 0) refl
  where
    go : (b : Bool) → (piece.lines == 0) ≡ b → (lines_again layout (Some before) piece rest == 0) ≡ (piece.lines == 0)
    go true e =
        let no_lines : piece.lines ≡ 0 = tested_equal piece.lines 0 e in
        ap (λ (gap : Gap). min gap.lines 2 == 0) (comment_beside layout before piece rest is tidy no_lines) ∙ sym e
    go false e =
        ap (λ (gap : Gap). min gap.lines 2 == 0) (comment_below layout before piece rest is (tested_unequal piece.lines 0 e)) ∙ inner layout.is_inside refl ∙ sym e
      where
        below : Gap
        below = if layout.is_inside then record { lines = 1; blanks = 4 + 4 * min layout.depth 8 } else record { lines = piece.lines; blanks = 0 }

        inner : (b : Bool) → layout.is_inside ≡ b → (min below.lines 2 == 0) ≡ false
        inner true f = rw f refl
        inner false f = rw f (zero_test (min piece.lines 2) (λ z. tested_unequal piece.lines 0 e (omega (arith, z))))

item_lines : (layout : Layout) (before : List ℕ) (piece : Shape) (rest : List Shape) → is_comment piece.text ≡ false → layout.is_inside ≡ false →
    IsTidy (Some before) piece → lines_again layout (Some before) piece rest ≡ max piece.lines 1
item_lines layout before piece rest is out tidy =
    let few : piece.lines ≤ 2 = tidy.few in
    let whole : min (max piece.lines 1) 2 ≡ max piece.lines 1 = omega (arith, few) in
    ap (λ (gap : Gap). min gap.lines 2) (item_gap layout before piece rest is out) ∙ whole

-- ---- groups

-- a place in a declaration, as the layout knows it
abbrev IsAt : NextPart → Layout → Type 0
IsAt Item layout = layout.is_inside ≡ false
IsAt Name layout = layout.is_inside ≡ true
IsAt Inside layout = layout.is_inside ≡ true

step_comment : (kind : List ℕ) (group : Group) (text : List ℕ) (m n : ℕ) → is_comment text ≡ true → (m == 0) ≡ (n == 0) →
    group_step kind group Item (record { text = text; lines = m }) ≡ group_step kind group Item (record { text = text; lines = n })
step_comment kind group text m n is same = rw (is, same) refl

step_item : (kind : List ℕ) (group : Group) (text : List ℕ) (m n : ℕ) → is_comment text ≡ false → nat_lt m 2 ≡ nat_lt n 2 →
    group_step kind group Item (record { text = text; lines = m }) ≡ group_step kind group Item (record { text = text; lines = n })
step_item kind group text m n is same = rw is (rw same refl)

step_again : (kind : List ℕ) (group : Group) (place : NextPart) (layout : Layout) (before : List ℕ) (piece : Shape) (rest : List Shape) →
    IsAt place layout → IsTidy (Some before) piece →
    group_step kind group place (record { text = piece.text; lines = lines_again layout (Some before) piece rest }) ≡ group_step kind group place piece
step_again kind group Name layout before piece rest there tidy = refl
step_again kind group Inside layout before piece rest there tidy = refl
step_again kind group Item layout before piece rest there tidy = go (is_comment piece.text) refl
  where
    go : (b : Bool) → is_comment piece.text ≡ b →
        group_step kind group Item (record { text = piece.text; lines = lines_again layout (Some before) piece rest }) ≡ group_step kind group Item piece
    go true e =
        step_comment kind group piece.text (lines_again layout (Some before) piece rest) piece.lines e (comment_test layout before piece rest e tidy)
    go false e =
        let few : piece.lines ≤ 2 = tidy.few in
        let same : nat_lt (max piece.lines 1) 2 ≡ nat_lt piece.lines 2 = grind (arith, few) in
        step_item kind group piece.text (lines_again layout (Some before) piece rest) piece.lines e
        (ap (λ n. nat_lt n 2) (item_lines layout before piece rest e there tidy) ∙ same)

-- ---- states

comment_stays : (layout : Layout) (gap : Gap) (text : List ℕ) (rest : List Shape) → is_comment text ≡ true →
    (after layout gap text rest).is_inside ≡ layout.is_inside
comment_stays layout gap text rest is = rw is refl

item_begins : (layout : Layout) (gap : Gap) (text : List ℕ) (rest : List Shape) → is_comment text ≡ false → layout.is_inside ≡ false →
    (after layout gap text rest).is_inside ≡ true
item_begins layout gap text rest is out = rw (is, out) refl

token_ends : (layout : Layout) (gap : Gap) (text : List ℕ) (rest : List Shape) → is_comment text ≡ false → layout.is_inside ≡ true →
    (after layout gap text rest).is_inside ≡ not (bytes_eq text (codes ";"))
token_ends layout gap text rest is inside = rw (is, inside) refl

-- the place behind a token inside an item
token_place : (layout : Layout) (gap : Gap) (text : List ℕ) (rest : List Shape) → is_comment text ≡ false → layout.is_inside ≡ true →
    IsAt (if bytes_eq text (codes ";") then Item else Inside) (after layout gap text rest)
token_place layout gap text rest is inside = go (bytes_eq text (codes ";")) refl
  where
    go : (b : Bool) → bytes_eq text (codes ";") ≡ b → IsAt (if bytes_eq text (codes ";") then Item else Inside) (after layout gap text rest)
    go true e =
        subst (λ (c : Bool). IsAt (cond c Item Inside) (after layout gap text rest)) (sym e) (token_ends layout gap text rest is inside ∙ ap not e)
    go false e =
        subst (λ (c : Bool). IsAt (cond c Item Inside) (after layout gap text rest)) (sym e) (token_ends layout gap text rest is inside ∙ ap not e)

-- the place behind a piece is as the layout knows it
place_behind : (kind : List ℕ) (group : Group) (place : NextPart) (layout : Layout) (gap : Gap) (piece : Shape) (rest : List Shape) (next : Group × NextPart) →
    IsAt place layout → group_step kind group place piece ≡ Some next → IsAt next.1 (after layout gap piece.text rest)
place_behind kind group Item layout gap piece rest next there e = go (is_comment piece.text) refl
  where
    beside : (b : Bool) → is_comment piece.text ≡ true → (piece.lines == 0) ≡ b → IsAt next.1 (after layout gap piece.text rest)
    beside true f g =
        let h : Some (group, Item) ≡ Some next = rw (f, g) at e in
        let same : (group, Item) ≡ next = cc h in
        subst (λ (x : Group × NextPart). IsAt x.1 (after layout gap piece.text rest)) same (comment_stays layout gap piece.text rest f ∙ there)
    beside false f g =
        let h : None ≡ Some next = rw (f, g) at e in
        absurd (cc h)

    begun : (b : Bool) → is_comment piece.text ≡ false → (bytes_eq piece.text kind && nat_lt piece.lines 2) ≡ b → IsAt next.1 (after layout gap piece.text rest)
    begun true f g =
        let h : Some (record { items = plus group.items 1; columns = group.columns }, Name) ≡ Some next = rw (f, g) at e in
        let same : (record { items = plus group.items 1; columns = group.columns }, Name) ≡ next = cc h in
        subst (λ (x : Group × NextPart). IsAt x.1 (after layout gap piece.text rest)) same (item_begins layout gap piece.text rest f there)
    begun false f g =
        let h : None ≡ Some next = rw (f, g) at e in
        absurd (cc h)

    go : (b : Bool) → is_comment piece.text ≡ b → IsAt next.1 (after layout gap piece.text rest)
    go true f = beside (piece.lines == 0) f refl
    go false f = begun (bytes_eq piece.text kind && nat_lt piece.lines 2) f refl
place_behind kind group Name layout gap piece rest next there e = go (is_comment piece.text) refl
  where
    go : (b : Bool) → is_comment piece.text ≡ b → IsAt next.1 (after layout gap piece.text rest)
    go true f =
        let h : Some (group, Name) ≡ Some next = rw f at e in
        let same : (group, Name) ≡ next = cc h in
        subst (λ (x : Group × NextPart). IsAt x.1 (after layout gap piece.text rest)) same (comment_stays layout gap piece.text rest f ∙ there)
    go false f =
        let found : Group × NextPart = (record { items = group.items; columns = max group.columns (length piece.text) }, (if bytes_eq piece.text (codes ";") then Item else Inside)) in
        let h : Some found ≡ Some next = rw f at e in
        let same : found ≡ next = cc h in
        subst (λ (x : Group × NextPart). IsAt x.1 (after layout gap piece.text rest)) same (token_place layout gap piece.text rest f there)
place_behind kind group Inside layout gap piece rest next there e = go (is_comment piece.text) refl
  where
    go : (b : Bool) → is_comment piece.text ≡ b → IsAt next.1 (after layout gap piece.text rest)
    go true f =
        let h : Some (group, Inside) ≡ Some next = rw f at e in
        let same : (group, Inside) ≡ next = cc h in
        subst (λ (x : Group × NextPart). IsAt x.1 (after layout gap piece.text rest)) same (comment_stays layout gap piece.text rest f ∙ there)
    go false f =
        let found : Group × NextPart = (group, (if bytes_eq piece.text (codes ";") then Item else Inside)) in
        let h : Some found ≡ Some next = rw f at e in
        let same : found ≡ next = cc h in
        subst (λ (x : Group × NextPart). IsAt x.1 (after layout gap piece.text rest)) same (token_place layout gap piece.text rest f there)

-- what a step leaves
goes_on : (kind : List ℕ) (group : Group) (rest : List Shape) → Option (Group × NextPart) → Group
goes_on kind group rest None = group
goes_on kind group rest (Some next) = group_from kind next.0 next.1 rest

taken_apart : (kind : List ℕ) (group : Group) (rest : List Shape) (r : Option (Group × NextPart)) →
    elim r [ None ↦ group | Some next ↦ group_from kind next.0 next.1 rest ] ≡ goes_on kind group rest r
unfolding goes_on
taken_apart kind group rest None = refl
taken_apart kind group rest (Some next) = refl

one_step : (kind : List ℕ) (group : Group) (place : NextPart) (piece : Shape) (rest : List Shape) →
    group_from kind group place (piece ∷ rest) ≡ goes_on kind group rest (group_step kind group place piece)
one_step kind group place piece rest = taken_apart kind group rest (group_step kind group place piece)

alike : (kind : List ℕ) (group : Group) (others rest : List Shape) (r : Option (Group × NextPart)) →
    ((next : Group × NextPart) → r ≡ Some next → group_from kind next.0 next.1 others ≡ group_from kind next.0 next.1 rest) →
    goes_on kind group others r ≡ goes_on kind group rest r
unfolding goes_on
alike kind group others rest None same = refl
alike kind group others rest (Some next) same = same next refl

group_again : (kind : List ℕ) (group : Group) (place : NextPart) (layout : Layout) (before : List ℕ) (shapes : List Shape) →
    IsAt place layout → AreTidy (Some before) shapes →
    group_from kind group place (again_from layout (Some before) shapes) ≡ group_from kind group place shapes
group_again kind group place layout before [] there tidy = refl
group_again kind group place layout before (piece ∷ rest) there tidy =
    one_step kind group place (record { text = piece.text; lines = lines_again layout (Some before) piece rest })
    (again_from (after layout (gap_of layout (Some before) piece rest) piece.text rest) (Some piece.text) rest)
    ∙ ap (goes_on kind group (again_from (after layout (gap_of layout (Some before) piece rest) piece.text rest) (Some piece.text) rest))
    (step_again kind group place layout before piece rest there tidy.0)
    ∙ alike kind group (again_from (after layout (gap_of layout (Some before) piece rest) piece.text rest) (Some piece.text) rest) rest
    (group_step kind group place piece)
    (λ next e. group_again kind next.0 next.1 (after layout (gap_of layout (Some before) piece rest) piece.text rest) piece.text rest
    (place_behind kind group place layout (gap_of layout (Some before) piece rest) piece rest next there e) tidy.1)
    ∙ sym (one_step kind group place piece rest)

-- ---- gaps

comment_wish : (layout : Layout) (before : List ℕ) (piece : Shape) (rest : List Shape) → is_comment piece.text ≡ true →
    gap_before layout before piece rest ≡ before_comment layout piece
comment_wish layout before piece rest is = rw is refl

item_wish : (layout : Layout) (before : List ℕ) (piece : Shape) (rest : List Shape) → is_comment piece.text ≡ false → layout.is_inside ≡ false →
    gap_before layout before piece rest ≡ record { lines = max piece.lines 1; blanks = 0 }
item_wish layout before piece rest is out = rw (is, out) refl

-- a token inside an item, whatever line feeds stand before it
inside_wish : (layout : Layout) (before : List ℕ) (piece : Shape) (rest : List Shape) → is_comment piece.text ≡ false → layout.is_inside ≡ true →
    gap_before layout before piece rest ≡
    (if bytes_eq piece.text (codes "=") then before_equals layout before else before_token layout before piece.text rest)
inside_wish layout before piece rest is inside = rw (is, inside) refl

token_again : (layout onward : Layout) (before text : List ℕ) (rest : List Shape) →
    before_token layout before text (again_from onward (Some text) rest) ≡ before_token layout before text rest
token_again layout onward before text rest =
    ap (λ (n : ℕ). if is_comment before || (must_break layout text || (may_break text && nat_lt 100 (plus layout.column (plus n 1)))) then
    record { lines = 1; blanks = indent_of layout } else if may_touch before text then record { lines = 0; blanks = 0 } else record { lines = 0; blanks = 1 })
    (columns_again true text (length text) onward (Some text) rest)

same_comment : (layout : Layout) (text : List ℕ) (m n : ℕ) → (m == 0) ≡ (n == 0) → (n ≢ 0 → layout.is_inside ≡ false → m ≡ n) →
    before_comment layout (record { text = text; lines = m }) ≡ before_comment layout (record { text = text; lines = n })
same_comment layout text m n same equal = go (n == 0) refl
  where
    go : (b : Bool) → (n == 0) ≡ b → before_comment layout (record { text = text; lines = m }) ≡ before_comment layout (record { text = text; lines = n })
    go true e = rw (same, e) refl
    go false e = rw (same, e) (inner layout.is_inside refl)
      where
        below : ℕ → Gap
        below k = if layout.is_inside then record { lines = 1; blanks = indent_of layout } else record { lines = k; blanks = 0 }

        inner : (b : Bool) → layout.is_inside ≡ b → below m ≡ below n
        inner true f = rw f refl
        inner false f = ap below (equal (tested_unequal n 0 e) f)

lines_below : (layout : Layout) (before : List ℕ) (piece : Shape) (rest : List Shape) → is_comment piece.text ≡ true → IsTidy (Some before) piece →
    piece.lines ≢ 0 → layout.is_inside ≡ false → lines_again layout (Some before) piece rest ≡ piece.lines
lines_below layout before piece rest is tidy some out =
    let few : piece.lines ≤ 2 = tidy.few in
    let whole : min piece.lines 2 ≡ piece.lines = omega (arith, few) in
    ap (λ (gap : Gap). min gap.lines 2) (comment_below layout before piece rest is some ∙ outside) ∙ whole
  where
    below : Bool → Gap
    below inside = if inside then record { lines = 1; blanks = 4 + 4 * min layout.depth 8 } else record { lines = piece.lines; blanks = 0 }

    outside : below layout.is_inside ≡ record { lines = piece.lines; blanks = 0 }
    outside = ap below out

wish_again : (layout onward : Layout) (before : List ℕ) (piece : Shape) (rest : List Shape) → IsTidy (Some before) piece →
    gap_before layout before (record { text = piece.text; lines = lines_again layout (Some before) piece rest }) (again_from onward (Some piece.text) rest) ≡
    gap_before layout before piece rest
wish_again layout onward before piece rest tidy = go (is_comment piece.text) refl
  where
    m : ℕ
    m = lines_again layout (Some before) piece rest

    others : List Shape
    others = again_from onward (Some piece.text) rest

    token : (b : Bool) → layout.is_inside ≡ b → is_comment piece.text ≡ false →
        gap_before layout before (record { text = piece.text; lines = m }) others ≡ gap_before layout before piece rest
    token false out is =
        let whole : max (max piece.lines 1) 1 ≡ max piece.lines 1 = omega arith in
        item_wish layout before (record { text = piece.text; lines = m }) others is out
        ∙ ap (λ (k : ℕ). record { lines = max k 1; blanks = 0 }) (item_lines layout before piece rest is out tidy)
        ∙ ap (λ (k : ℕ). record { lines = k; blanks = 0 }) whole
        ∙ sym (item_wish layout before piece rest is out)
    token true inside is =
        inside_wish layout before (record { text = piece.text; lines = m }) others is inside
        ∙ ap (λ (gap : Gap). if bytes_eq piece.text (codes "=") then before_equals layout before else gap) (token_again layout onward before piece.text rest)
        ∙ sym (inside_wish layout before piece rest is inside)

    go : (b : Bool) → is_comment piece.text ≡ b →
        gap_before layout before (record { text = piece.text; lines = m }) others ≡ gap_before layout before piece rest
    go true is =
        comment_wish layout before (record { text = piece.text; lines = m }) others is
        ∙ same_comment layout piece.text m piece.lines (comment_test layout before piece rest is tidy) (lines_below layout before piece rest is tidy)
        ∙ sym (comment_wish layout before piece rest is)
    go false is = token layout.is_inside refl is

gap_again : (layout onward : Layout) (before : Option (List ℕ)) (piece : Shape) (rest : List Shape) → IsTidy before piece →
    gap_of layout before (record { text = piece.text; lines = lines_again layout before piece rest }) (again_from onward (Some piece.text) rest) ≡
    gap_of layout before piece rest
gap_again layout onward None piece rest tidy = refl
gap_again layout onward (Some before) piece rest tidy =
    ap (λ (gap : Gap). sound_gap (Some before) gap piece.text) (wish_again layout onward before piece rest tidy)

-- ---- the state behind a piece

comment_after : (layout : Layout) (gap : Gap) (text : List ℕ) (rest : List Shape) → is_comment text ≡ true →
    after layout gap text rest ≡ with_comment layout (column_after layout.column gap text)
comment_after layout gap text rest is = rw is refl

item_after : (layout : Layout) (gap : Gap) (text : List ℕ) (rest : List Shape) → is_comment text ≡ false → layout.is_inside ≡ false →
    after layout gap text rest ≡ with_item layout (column_after layout.column gap text) text rest
item_after layout gap text rest is out = rw (is, out) refl

token_after : (layout : Layout) (gap : Gap) (text : List ℕ) (rest : List Shape) → is_comment text ≡ false → layout.is_inside ≡ true →
    after layout gap text rest ≡ with_token layout (column_after layout.column gap text) text rest
token_after layout gap text rest is inside = rw (is, inside) refl

same_item : (layout : Layout) (column : ℕ) (text : List ℕ) (others rest : List Shape) → item_columns text others ≡ item_columns text rest →
    group_of text others ≡ group_of text rest → with_item layout column text others ≡ with_item layout column text rest
same_item layout column text others rest columns groups = λ i. record {
  is_inside = true;
  column = column;
  depth = 0;
  is_broken = nat_lt 100 (columns i);
  is_long = false;
  group = if nat_lt 1 layout.group.items then record { items = layout.group.items - 1; columns = layout.group.columns } else groups i;
}

same_token : (layout : Layout) (column : ℕ) (text : List ℕ) (others rest : List Shape) → item_columns text others ≡ item_columns text rest →
    with_token layout column text others ≡ with_token layout column text rest
same_token layout column text others rest columns = λ i. record {
  is_inside = not (bytes_eq text (codes ";"));
  column = column;
  depth = if bytes_eq text (codes "(") then plus layout.depth 1 else if bytes_eq text (codes ")") then layout.depth - 1 else layout.depth;
  is_broken = layout.is_broken;
  is_long = if bytes_eq text (codes "when") then nat_lt 100 (plus (columns i) 4) else layout.is_long;
  group = layout.group;
}

after_again : (layout : Layout) (gap : Gap) (text : List ℕ) (rest : List Shape) → AreTidy (Some text) rest →
    after layout gap text (again_from (after layout gap text rest) (Some text) rest) ≡ after layout gap text rest
after_again layout gap text rest tidy = go (is_comment text) refl
  where
    others : List Shape
    others = again_from (after layout gap text rest) (Some text) rest

    columns : item_columns text others ≡ item_columns text rest
    columns = columns_again false text (length text) (after layout gap text rest) (Some text) rest

    token : (b : Bool) → layout.is_inside ≡ b → is_comment text ≡ false → after layout gap text others ≡ after layout gap text rest
    token false out is =
        item_after layout gap text others is out
        ∙ same_item layout (column_after layout.column gap text) text others rest columns
        (group_again text (record { items = 1; columns = 0 }) Name (after layout gap text rest) text rest (item_begins layout gap text rest is out) tidy)
        ∙ sym (item_after layout gap text rest is out)
    token true inside is =
        token_after layout gap text others is inside
        ∙ same_token layout (column_after layout.column gap text) text others rest columns
        ∙ sym (token_after layout gap text rest is inside)

    go : (b : Bool) → is_comment text ≡ b → after layout gap text others ≡ after layout gap text rest
    go true is = comment_after layout gap text others is ∙ sym (comment_after layout gap text rest is)
    go false is = token layout.is_inside refl is

-- ---- the law

laid_again : (layout : Layout) (before : Option (List ℕ)) (shapes : List Shape) → AreTidy before shapes →
    laid_out_from layout before (again_from layout before shapes) ≡ laid_out_from layout before shapes
laid_again layout before [] tidy = refl
laid_again layout before (piece ∷ rest) tidy =
    ap (λ (g : Gap). (gap_bytes g ++ text) ++ laid_out_from (after layout g text others) (Some text) others) (gap_again layout onward before piece rest tidy.0)
    ∙ ap (λ (state : Layout). (gap_bytes gap ++ text) ++ laid_out_from state (Some text) others) (after_again layout gap text rest tidy.1)
    ∙ ap (λ (tail : List ℕ). (gap_bytes gap ++ text) ++ tail)
    (laid_again (after layout (gap_of layout before piece rest) piece.text rest) (Some piece.text) rest tidy.1)
  where
    text : List ℕ
    text = piece.text

    gap : Gap
    gap = gap_of layout before piece rest

    onward : Layout
    onward = after layout gap text rest

    others : List Shape
    others = again_from onward (Some text) rest

pub formats_once : (text other again : List ℕ) → IsFormatted text other → IsFormatted other again → again ≡ other
formats_once text other again (shapes, has, e) (found, others, f) = f ∙ ap laid_out same ∙ laid_again at_start None shapes tidy ∙ sym e
  where
    same : found ≡ again_from at_start None shapes
    same = one_list others (subst (λ t. HasShapes 0 t (again_from at_start None shapes)) (sym e) (has_again shapes has))

    tidy : AreTidy None shapes
    tidy = tidy_from has (omega arith) None (λ no_comment. absurd (cc no_comment))
