-- Counting the tokens that nest, from left to right: what is left of the room says how deep the tokens nest.
use Rattle.std.proofs.Common.{◌≡◌, refl, sym, ◌∙◌, ap, subst, ◌⊎◌, inl, inr, ℕ, zero, suc, ◌+◌, ◌≤◌, Bool, true, false, cond, ◌||◌, List, [], ◌∷◌, ◌++◌, Option, Some, None, count_by, sum_by, codes, arith, lit≤, append_assoc, append-nil}
use Rattle.std.specs.List.{list_any}
use Rattle.std.proofs.lemmas.List.Sums.{sum_by-append, sum_by-cons}
use Rattle.std.proofs.lemmas.List.Folds.{list_any-append}
use Rattle.lc_model.specs.Text.Token.{Token}
use Rattle.lc_model.specs.Text.Class.{word, fits, Fits}
use Rattle.lc_model.specs.Text.Reading.{IsShallow, nests, ends_item}
use Rattle.lc_model.proofs.Facts.{or_first, or_second, or_neither}
use Rattle.lc_model.proofs.Texts.OneFile.{word_text}
use Rattle.rule_parser.specs.Stack.{Room, outside, inside, less, narrowed}

-- ---- the last token of a list

-- the token is the last, or is not
abbrev Last : List Token → Token → List Token → Token → List Token → Type 0
Last front t f w within =
    ((within ≡ []) × (front ≡ f) × (t ≡ w)) ⊎ ((before : List Token) × (within ≡ before ++ t ∷ []) × (front ≡ f ++ w ∷ before))

last : (front : List Token) (t : Token) (f : List Token) (w : Token) (within : List Token) → front ++ t ∷ [] ≡ f ++ w ∷ within → Last front t f w within
last [] t [] w within e = inl (sym (cc e), refl, cc e)
last [] t (x ∷ []) w within e = absurd (cc e)
last [] t (x ∷ y ∷ f) w within e = absurd (cc e)
last (y ∷ front) t [] w within e =
    let same : y ≡ w = cc e in
    inr (front, sym (cc e), ap (λ (x : Token). x ∷ front) same)
last (y ∷ front) t (x ∷ f) w within e = go (last front t f w within (cc e))
  where
    same : y ≡ x
    same = cc e

    go : Last front t f w within → Last (y ∷ front) t (x ∷ f) w within
    go (inl i) = inl (i.0, cc (same, i.1), i.2)
    go (inr i) = inr (i.0, i.1, cc (same, i.2))

-- ---- what is left of the room

-- the tokens behind a `when`, without `;`
pub record Inside (front f : List Token) (w : Token) (within : List Token) : Type 0 where
  pub parts : front ≡ f ++ w ∷ within
  pub is_when : Fits (word "when") w
  pub unended : list_any ends_item within ≡ false

-- outside of conditions no `when` stands behind the last `;`; inside, no more nest than what is left allows, and in one way just
-- as many
abbrev Place : List Token → Room → Type 0
Place front outside = (f within : List Token) (w : Token) → Inside front f w within → ⊥
Place front (inside left) =
    ((f within : List Token) (w : Token) → Inside front f w within → count_by nests within + left ≤ 64)
    × ((f within : List Token) × (w : Token) × Inside front f w within × (count_by nests within + left ≡ 64))

pub record Counted (front : List Token) (room : Room) : Type 0 where
  pub shallow : IsShallow front
  pub place : Place front room

abbrev unit : Bool → ℕ
unit b = cond b 1 0

abbrev weight : Token → ℕ
weight t = unit (nests t)

count_last : (ts : List Token) (t : Token) (b : Bool) → nests t ≡ b → count_by nests (ts ++ t ∷ []) ≡ count_by nests ts + unit b
count_last ts t b e =
    let both : sum_by weight (ts ++ t ∷ []) ≡ sum_by weight ts + sum_by weight (t ∷ []) = sum_by-append weight ts (t ∷ []) in
    let one : sum_by weight (t ∷ []) ≡ unit (nests t) + 0 = sum_by-cons weight t [] in
    let is : unit (nests t) ≡ unit b = ap unit e in
    let all : sum_by weight (ts ++ t ∷ []) ≡ sum_by weight ts + unit b = omega (arith, both, one, is) in
    all

-- without the last token, and whether that ends an item
unended_last : (ts : List Token) (t : Token) → list_any ends_item (ts ++ t ∷ []) ≡ false → (list_any ends_item ts ≡ false) × (ends_item t ≡ false)
unended_last ts t e =
    let parts : (list_any ends_item ts || list_any ends_item (t ∷ [])) ≡ false = sym (list_any-append ends_item ts (t ∷ [])) ∙ e in
    (or_first (list_any ends_item ts) _ parts, or_first (ends_item t) _ (or_second (list_any ends_item ts) _ parts))

unended_with : (ts : List Token) (t : Token) → list_any ends_item ts ≡ false → ends_item t ≡ false → list_any ends_item (ts ++ t ∷ []) ≡ false
unended_with ts t e is =
    list_any-append ends_item ts (t ∷ []) ∙ or_neither (list_any ends_item ts) _ e (or_neither (ends_item t) false is refl)

-- what stands inside before the last token
before_last : (front f before within : List Token) (t w : Token) → within ≡ before ++ t ∷ [] → front ≡ f ++ w ∷ before → Inside (front ++ t ∷ []) f w within →
    Inside front f w before × (ends_item t ≡ false)
before_last front f before within t w e parts is =
    let ends = unended_last before t (subst (λ ts. list_any ends_item ts ≡ false) e is.unended) in
    (record { parts = parts; is_when = is.is_when; unended = ends.0 }, ends.1)

-- one token more inside
with_last : (front f within : List Token) (t w : Token) → Inside front f w within → ends_item t ≡ false → Inside (front ++ t ∷ []) f w (within ++ t ∷ [])
with_last front f within t w is no_end = record {
  parts = ap (λ ts. ts ++ t ∷ []) is.parts ∙ append_assoc f (w ∷ within) (t ∷ []);
  is_when = is.is_when;
  unended = unended_with within t is.unended no_end;
}

-- a fact of all that stands inside, from the two cases of the last token
each_inside : (front : List Token) (t : Token) (P : List Token → Type 0) →
    (Fits (word "when") t → P []) →
    ((f before : List Token) (w : Token) → Inside front f w before → ends_item t ≡ false → P (before ++ t ∷ [])) →
    (f within : List Token) (w : Token) → Inside (front ++ t ∷ []) f w within → P within
each_inside front t P at_when goes_on f within w is = go (last front t f w within is.parts)
  where
    go : Last front t f w within → P within
    go (inl i) = subst P (sym i.0) (at_when (subst (Fits (word "when")) (sym i.2) is.is_when))
    go (inr i) =
        let parts = before_last front f i.0 within t w i.1 i.2 is in
        subst P (sym i.1) (goes_on f i.0 w parts.0 parts.1)

when_ends_not : (t : Token) → Fits (word "when") t → ends_item t ≡ false
when_ends_not t fit = rw (sym (word_text (codes "when") t fit)) refl

-- ---- one token more

place_outside : (front : List Token) (t : Token) → Place front outside → (b : Bool) → fits (word "when") t.text ≡ b →
    Place (front ++ t ∷ []) (cond b (inside 64) outside)
place_outside front t none true is = (
  each_inside front t (λ ts. count_by nests ts + 64 ≤ 64) (λ w. lit≤ tt) (λ f before w is no_end. absurd (none f before w is)),
  (front, [], t, record { parts = refl; is_when = is; unended = refl }, refl),
)
place_outside front t none false is =
    each_inside front t (λ ts. ⊥) (λ w. absurd (cc (w, is))) (λ f before w is no_end. none f before w is)

place_ended : (front : List Token) (t : Token) → ends_item t ≡ true → Place (front ++ t ∷ []) outside
place_ended front t is = each_inside front t (λ ts. ⊥) (λ w. absurd (cc (is, when_ends_not t w))) (λ f before w inner no_end. absurd (cc (is, no_end)))

place_inside : (front : List Token) (t : Token) (left rest : ℕ) → Place front (inside left) → ends_item t ≡ false →
    (b : Bool) → nests t ≡ b → left ≡ unit b + rest → Place (front ++ t ∷ []) (inside rest)
place_inside front t left rest place no_end b is less = (
  each_inside front t (λ ts. count_by nests ts + rest ≤ 64)
      (λ w. let exact = place.1.4 in omega (arith, exact, less))
      (λ f before w inner e. let most = place.0 f before w inner in let more = count_last before t b is in omega (arith, most, more, less)),
  (
    place.1.0,
    place.1.1 ++ t ∷ [],
    place.1.2,
    with_last front place.1.0 place.1.1 t place.1.2 place.1.3 no_end,
    (let exact = place.1.4 in let more = count_last place.1.1 t b is in omega (arith, exact, more, less)),
  ),
)

-- as long as there is room, tokens are shallow
most_inside : (front f within : List Token) (w : Token) (room : Room) → Place front room → Inside front f w within → count_by nests within ≤ 64
most_inside front f within w outside place is = absurd (place f within w is)
most_inside front f within w (inside left) place is = let most = place.0 f within w is in omega (arith, most)

shallow_last : (front : List Token) (t : Token) (room : Room) → IsShallow front → Place (front ++ t ∷ []) room → IsShallow (front ++ t ∷ [])
shallow_last front t room shallow place f within [] w e is_when unended =
    most_inside (front ++ t ∷ []) f within w room place
    (record { parts = e ∙ append-nil (f ++ w ∷ within); is_when = is_when; unended = unended })
shallow_last front t room shallow place f within (b ∷ back) w e is_when unended = go (last front t (f ++ w ∷ within) b back e)
  where
    go : Last front t (f ++ w ∷ within) b back → count_by nests within ≤ 64
    go (inl i) = shallow f within [] w (i.1 ∙ sym (append-nil (f ++ w ∷ within))) is_when unended
    go (inr i) = shallow f within (b ∷ i.0) w i.2 is_when unended

counted_by : (front : List Token) (t : Token) (room : Room) → IsShallow front → Place (front ++ t ∷ []) room → Counted (front ++ t ∷ []) room
counted_by front t room shallow place = record { shallow = shallow_last front t room shallow place; place = place }

pub counted_none : Counted [] outside
counted_none = record {
  shallow = λ front within back w e is_when unended. absurd (nothing front w within back e);
  place = λ f within w is. nothing f w within [] (is.parts ∙ sym (append-nil (f ++ w ∷ within)));
}
  where
    nothing : (f : List Token) (w : Token) (within back : List Token) → [] ≡ f ++ w ∷ within ++ back → ⊥
    nothing [] w within back e = cc e
    nothing (x ∷ f) w within back e = cc e

-- what is left of the room behind one token more
abbrev pub Counts : List Token → Token → Option Room → Type 0
Counts front t None = ¬ IsShallow (front ++ t ∷ [])
Counts front t (Some room) = Counted (front ++ t ∷ []) room

too_deep : (front : List Token) (t : Token) → Place front (inside 0) → ends_item t ≡ false → nests t ≡ true → ¬ IsShallow (front ++ t ∷ [])
too_deep front t place no_end is shallow =
    let within = with_last front place.1.0 place.1.1 t place.1.2 place.1.3 no_end in
    let exact = place.1.4 in
    let most = shallow place.1.0 (place.1.1 ++ t ∷ []) [] place.1.2 (within.parts ∙ sym (append-nil (place.1.0 ++ place.1.2 ∷ (place.1.1 ++ t ∷ []))))
    within.is_when within.unended in
    let more = count_last place.1.1 t true is in
    omega (arith, exact, most, more)

pub counts : (front : List Token) (room : Room) (t : Token) → Counted front room → Counts front t (narrowed room t)
counts front outside t c = counted_by front t _ c.shallow (place_outside front t c.place (fits (word "when") t.text) refl)
counts front (inside left) t c = go (ends_item t) (nests t) left refl refl c
  where
    go : (e n : Bool) (left : ℕ) → ends_item t ≡ e → nests t ≡ n → Counted front (inside left) →
        Counts front t (cond e (Some outside) (cond n (less left) (Some (inside left))))
    go true n left is nest c = counted_by front t outside c.shallow (place_ended front t is)
    go false true zero is nest c = too_deep front t c.place is nest
    go false true (suc left) is nest c =
        counted_by front t (inside left) c.shallow (place_inside front t (suc left) left c.place is true nest (omega arith))
    go false false left is nest c = counted_by front t (inside left) c.shallow (place_inside front t left left c.place is false nest (omega arith))
