-- A text in the layout has the pieces that it was made of.
use Rattle.std.proofs.Common.{◌≡◌, ◌≢◌, refl, sym, ◌∙◌, ap, subst, ℕ, zero, suc, min, Bool, true, false, cond, ◌==◌, List, [], ◌∷◌, ◌++◌, map, Option, Some, None, codes, append_assoc, replicate, arith}
use Rattle.std.specs.Prelude.{bytes_eq}
use Rattle.std.proofs.lemmas.Slice.Eq.{bytes_eq-Decides}
use Rattle.lc_model.specs.Text.Token.{IsComment, IsLongest, is_token, line_feed, number_sign}
use Rattle.lc_model.proofs.Facts.{tested_equal}
use Rattle.rule_layout.specs.declared.gap.Gap.{Gap}
use Rattle.rule_layout.specs.declared.layout.Layout.{Layout}
use Rattle.rule_layout.specs.Parts as part
use Rattle.rule_layout.specs.Parts.{HasParts, HaveSameParts, Part, Comment, Token}
use Rattle.rule_layout.specs.Shapes.{HasShapes, Shape, blank, comment, is_comment, line, none, one_line_more, token}
use Rattle.rule_layout.specs.Gaps.{gap_bytes, may_touch, sound_gap}
use Rattle.rule_layout.specs.Layout.{after, at_start, gap_of, laid_out, laid_out_from}
use Rattle.rule_layout.specs.Formatting.{IsFormatted}
use Rattle.rule_layout.proofs.Fronts.{sign_no_token}
use Rattle.rule_layout.proofs.Longest.{feed, space, semicolon, close, before_end, behind_open}

-- ---- pieces

-- what the bytes of a piece are by themselves
data IsPiece : List ℕ → Type 0 where
  of_token : (word : List ℕ) → is_token word ≡ true → is_comment word ≡ false → IsPiece word
  of_comment : (bytes : List ℕ) → IsComment bytes [] → IsPiece bytes

abbrev ArePieces : List Shape → Type 0
ArePieces [] = Unit {0}
ArePieces (shape ∷ shapes) = IsPiece shape.text × ArePieces shapes

pub token_no_comment : (word : List ℕ) → is_token word ≡ true → is_comment word ≡ false
token_no_comment [] good = refl
token_no_comment (c ∷ cs) good = go (c == number_sign) refl
  where
    go : (b : Bool) → (c == number_sign) ≡ b → (c == number_sign) ≡ false
    go true e = absurd (cc (good, sign_no_token c cs (tested_equal c number_sign e)))
    go false e = e

pub comment_is : (bytes rest : List ℕ) → IsComment bytes rest → is_comment bytes ≡ true
comment_is [] rest i = absurd i
comment_is (c ∷ cs) rest i = let sign : c ≡ number_sign = i.0 in rw sign refl

comment_alone : (bytes text : List ℕ) → IsComment bytes text → IsComment bytes []
comment_alone [] text i = absurd i
comment_alone (c ∷ cs) text i = (i.0, i.1, tt)

comment_before_feed : (bytes more : List ℕ) → IsComment bytes [] → IsComment bytes (line_feed ∷ more)
comment_before_feed [] more i = absurd i
comment_before_feed (c ∷ cs) more i = (i.0, i.1, refl)

are_pieces : {lines : ℕ} {text : List ℕ} {shapes : List Shape} → HasShapes lines text shapes → ArePieces shapes
are_pieces none = tt
are_pieces (blank is other has) = are_pieces has
are_pieces (line has) = are_pieces has
are_pieces (comment {text = text} bytes is has) = (of_comment bytes (comment_alone bytes text is), are_pieces has)
are_pieces (token word good longest has) = (of_token word good (token_no_comment word good), are_pieces has)

-- ---- what may stand behind a piece

data MayFollow : List ℕ → List ℕ → Type 0 where
  token_may : {other : List ℕ} (word : List ℕ) → is_token word ≡ true → IsLongest word other → MayFollow word other
  comment_may : {other : List ℕ} (bytes : List ℕ) → IsComment bytes other → MayFollow bytes other

abbrev MayFollowIfThere : Option (List ℕ) → List ℕ → Type 0
MayFollowIfThere None other = Unit {0}
MayFollowIfThere (Some before) other = MayFollow before other

abbrev IsPieceIfThere : Option (List ℕ) → Type 0
IsPieceIfThere None = Unit {0}
IsPieceIfThere (Some before) = IsPiece before

with_piece : {lines : ℕ} {other : List ℕ} {shapes : List Shape} (text : List ℕ) → MayFollow text other → HasShapes 0 other shapes →
    HasShapes lines (text ++ other) (record { text = text; lines = lines } ∷ shapes)
with_piece text (token_may word good longest) has = token word good longest has
with_piece text (comment_may bytes is) has = comment bytes is has

before_feed : (text more : List ℕ) → IsPiece text → MayFollow text (line_feed ∷ more)
before_feed text more (of_token word good other) = token_may word good (before_end word 10 more good feed)
before_feed text more (of_comment bytes is) = comment_may bytes (comment_before_feed bytes more is)

-- ---- gaps

spaced : {lines : ℕ} {text : List ℕ} {shapes : List Shape} (n : ℕ) → HasShapes lines text shapes → HasShapes lines (replicate n 32 ++ text) shapes
spaced zero has = has
spaced (suc n) has = blank refl (λ e. cc e) (spaced n has)

-- so many line feeds more, of which two count
abbrev more_lines : ℕ → ℕ → ℕ
more_lines zero lines = lines
more_lines (suc n) lines = more_lines n (one_line_more lines)

lined : (n : ℕ) {lines : ℕ} {text : List ℕ} {shapes : List Shape} → HasShapes (more_lines n lines) text shapes →
    HasShapes lines (replicate n line_feed ++ text) shapes
lined zero has = has
lined (suc n) has = line (lined n has)

more_than_two : (n lines : ℕ) → lines ≡ 2 → more_lines n lines ≡ 2
more_than_two zero lines e = e
more_than_two (suc n) lines e = more_than_two n (one_line_more lines) (rw e refl)

pub counted : (n : ℕ) → more_lines n 0 ≡ min n 2
counted zero = refl
counted (suc zero) = refl
counted (suc (suc n)) = more_than_two n 2 refl ∙ omega arith

same_bytes : (xs ys : List ℕ) → bytes_eq xs ys ≡ true → xs ≡ ys
same_bytes xs ys e = (bytes_eq-Decides xs ys).0 e

touching : (word text other : List ℕ) → is_token word ≡ true → may_touch word text ≡ true → IsLongest word (text ++ other)
touching word text other good e = go (bytes_eq word (codes "(")) (bytes_eq text (codes ";")) (bytes_eq text (codes ")")) refl refl refl
  where
    go : (p q r : Bool) → bytes_eq word (codes "(") ≡ p → bytes_eq text (codes ";") ≡ q → bytes_eq text (codes ")") ≡ r → IsLongest word (text ++ other)
    go true q r a b c = let same : word ≡ codes "(" = same_bytes word (codes "(") a in rw same (behind_open (text ++ other))
    go false true r a b c = let same : text ≡ codes ";" = same_bytes text (codes ";") b in rw same (before_end word 59 other good semicolon)
    go false false true a b c = let same : text ≡ codes ")" = same_bytes text (codes ")") c in rw same (before_end word 41 other good close)
    go false false false a b c = absurd (cc (rw (a, b, c) at e))

-- whether a gap leaves both pieces beside it as they are
abbrev IsSound : List ℕ → Gap → List ℕ → Type 0
IsSound before gap text =
    (is_comment before ≡ true → gap.lines ≢ 0) × (is_comment before ≡ false → gap.lines ≡ 0 → gap.blanks ≡ 0 → may_touch before text ≡ true)

pub is_sound : (before : List ℕ) (gap : Gap) (text : List ℕ) → IsSound before (sound_gap (Some before) gap text) text
is_sound before gap text = go (is_comment before) (gap.lines == 0) (gap.blanks == 0) (may_touch before text) refl refl refl refl
  where
    go : (p q r s : Bool) → is_comment before ≡ p → (gap.lines == 0) ≡ q → (gap.blanks == 0) ≡ r → may_touch before text ≡ s →
        IsSound before (sound_gap (Some before) gap text) text
    go true true r s a b d e = rw (a, b) ((λ _ z. cc z), (λ f. absurd (cc f)))
    go true false r s a b d e = rw (a, b) ((λ _ z. cc (rw z at b)), (λ f. absurd (cc f)))
    go false true true true a b d e = rw (a, b, d, e) ((λ f. absurd (cc f)), (λ _ _ _. refl))
    go false true true false a b d e = rw (a, b, d, e) ((λ f. absurd (cc f)), (λ _ _ z. absurd (cc z)))
    go false true false s a b d e = rw (a, b, d) ((λ f. absurd (cc f)), (λ _ _ z. absurd (cc (rw z at d))))
    go false false r s a b d e = rw (a, b) ((λ f. absurd (cc f)), (λ _ z _. absurd (cc (rw z at b))))

behind_gap : (before : List ℕ) (lines blanks : ℕ) (text other : List ℕ) → IsPiece before →
    IsSound before (record { lines = lines; blanks = blanks }) text →
    MayFollow before (replicate lines line_feed ++ (replicate blanks 32 ++ (text ++ other)))
behind_gap before (suc lines) blanks text other piece sound = before_feed before _ piece
behind_gap before zero blanks text other (of_comment bytes is) sound = absurd (sound.0 (comment_is bytes [] is) refl)
behind_gap before zero (suc blanks) text other (of_token word good plain) sound = token_may word good (before_end word 32 _ good space)
behind_gap before zero zero text other (of_token word good plain) sound =
    token_may word good (touching word text other good (sound.1 plain refl refl))

-- ---- texts

-- the pieces of a text in the layout
abbrev pub again_from : Layout → Option (List ℕ) → List Shape → List Shape
again_from layout before [] = []
again_from layout before (piece ∷ rest) =
    record { text = piece.text; lines = min (gap_of layout before piece rest).lines 2 }
    ∷ again_from (after layout (gap_of layout before piece rest) piece.text rest) (Some piece.text) rest

-- a text from a piece on, with what stands before it
record IsText (layout : Layout) (before : Option (List ℕ)) (shapes : List Shape) : Type 0 where
  pub has : HasShapes 0 (laid_out_from layout before shapes) (again_from layout before shapes)
  pub follows : MayFollowIfThere before (laid_out_from layout before shapes)

-- the text from a piece on, with that of the pieces behind it
one_more : (layout : Layout) (before : Option (List ℕ)) (piece : Shape) (rest : List Shape) → IsPieceIfThere before →
    IsText (after layout (gap_of layout before piece rest) piece.text rest) (Some piece.text) rest → IsText layout before (piece ∷ rest)
one_more layout before piece rest there behind = record { has = has; follows = follows before there refl }
  where
    text : List ℕ
    text = piece.text

    gap : Gap
    gap = gap_of layout before piece rest

    rest_text : List ℕ
    rest_text = laid_out_from (after layout gap text rest) (Some text) rest

    all : List Shape
    all = record { text = text; lines = min gap.lines 2 } ∷ again_from (after layout gap text rest) (Some text) rest

    parted : (gap_bytes gap ++ text) ++ rest_text ≡ replicate gap.lines line_feed ++ (replicate gap.blanks 32 ++ (text ++ rest_text))
    parted = simp append_assoc refl

    here : HasShapes (min gap.lines 2) (text ++ rest_text) all
    here = with_piece text behind.follows behind.has

    has : HasShapes 0 ((gap_bytes gap ++ text) ++ rest_text) all
    has =
        subst (λ t. HasShapes 0 t all) (sym parted)
        (lined gap.lines (subst (λ n. HasShapes n (replicate gap.blanks 32 ++ (text ++ rest_text)) all) (sym (counted gap.lines)) (spaced gap.blanks here)))

    follows : (b : Option (List ℕ)) → IsPieceIfThere b → b ≡ before → MayFollowIfThere b ((gap_bytes gap ++ text) ++ rest_text)
    follows None there e = tt
    follows (Some word) there e =
        let sound : IsSound word gap text =
        subst (λ (b : Option (List ℕ)). IsSound word (gap_of layout b piece rest) text) e (is_sound word _ text) in
        subst (MayFollow word) (sym parted) (behind_gap word gap.lines gap.blanks text rest_text there sound)

is_text : (layout : Layout) (before : Option (List ℕ)) (shapes : List Shape) → IsPieceIfThere before → ArePieces shapes → IsText layout before shapes
is_text layout None [] there pieces = record { has = none; follows = tt }
is_text layout (Some text) [] there pieces = record { has = line none; follows = before_feed text [] there }
is_text layout before (piece ∷ rest) there pieces =
    one_more layout before piece rest there
    (is_text (after layout (gap_of layout before piece rest) piece.text rest) (Some piece.text) rest pieces.0 pieces.1)

pub has_again : (shapes : List Shape) {lines : ℕ} {text : List ℕ} → HasShapes lines text shapes → HasShapes 0 (laid_out shapes) (again_from at_start None shapes)
has_again shapes has = (is_text at_start None shapes tt (are_pieces has)).has

-- ---- tokens and comments

abbrev part_with : List ℕ → Part
part_with text = cond (is_comment text) (Comment text) (Token text)

abbrev parts_of : List Shape → List Part
parts_of = map (λ (shape : Shape). part_with shape.text)

has_parts : {lines : ℕ} {text : List ℕ} {shapes : List Shape} → HasShapes lines text shapes → HasParts text (parts_of shapes)
has_parts none = part.none
has_parts (blank is other has) = part.blank is (has_parts has)
has_parts (line has) = part.blank refl (has_parts has)
has_parts (comment {text = text} bytes is has) = rw (comment_is bytes text is) (part.comment bytes is (has_parts has))
has_parts (token word good longest has) = rw (token_no_comment word good) (part.token word good longest (has_parts has))

same_parts : (layout : Layout) (before : Option (List ℕ)) (shapes : List Shape) → parts_of (again_from layout before shapes) ≡ parts_of shapes
same_parts layout before [] = refl
same_parts layout before (piece ∷ rest) = ap (λ (ps : List Part). part_with piece.text ∷ ps) (same_parts (after layout (gap_of layout before piece rest) piece.text rest) (Some piece.text) rest)

pub keeps_parts : (text other : List ℕ) → IsFormatted text other → HaveSameParts text other
keeps_parts text other (shapes, has, e) = (parts_of shapes, has_parts has, others)
  where
    others : HasParts other (parts_of shapes)
    others =
        subst (λ t. HasParts t (parts_of shapes)) (sym e)
        (subst (HasParts (laid_out shapes)) (same_parts at_start None shapes) (has_parts (has_again shapes has)))
