-- Fields by number: more fields leave the numbers, and a number tells the field's parts.
use Rattle.std.proofs.Common.{◌≡◌, ℕ, zero, suc, ◌+◌, ◌≤◌, ◌<◌, Bool, true, false, ◌&&◌, ◌==◌, List, [], ◌∷◌, ◌++◌, length, get_or, refl, ap, sym, ◌∙◌, arith, add-one, if◌then◌else◌}
use Rattle.std.specs.Prelude.{IsTrue, IsFalse, nat_lt, slice_index_or, pos}
use Rattle.lc_model.specs.declared.field.CmpOp.TheVariants.{Less}
use Rattle.std.specs.List.{AllByRecursion}
use Rattle.std.proofs.lemmas.Bool.Decides.{nat_tests}
use Rattle.lc_model.specs.declared.field.Term.{Term}
use Rattle.rule_analysis.specs.declared.fields.Field.{Field}
use Rattle.lc_model.specs.Codes.{type_code}
use Rattle.lc_model.proofs.FieldTypes.{one_type}
use Rattle.rule_analysis.specs.Judgement.{Place, place_of}
use Rattle.rule_analysis.specs.Fields.{HasField, field_number, is_field_of, place_in}

-- ---- more fields

pub has_more : (fields more : List Field) (t : Term) → HasField fields t → HasField (fields ++ more) t
unfolding field_number
has_more [] more t has = absurd (omega (arith, has))
has_more (f ∷ fields) more t has = by_test (is_field_of t f) (has_more fields more t) has
  where
    by_test : (test : Bool) → (HasField fields t → HasField (fields ++ more) t) →
        (if test then 0 else field_number fields t + 1) < suc (length fields) →
        (if test then 0 else field_number (fields ++ more) t + 1) < suc (length (fields ++ more))
    by_test true later h = omega arith
    by_test false later h = omega (arith, later (omega (arith, h)))

pub has_new : (fields : List Field) (f : Field) (t : Term) → IsTrue (is_field_of t f) → HasField (fields ++ f ∷ []) t
unfolding field_number
has_new [] f t is = by_test (is_field_of t f) is
  where
    by_test : (test : Bool) → IsTrue test → (if test then 0 else 0 + 1) < 1
    by_test true h = omega arith
    by_test false h = cc
has_new (g ∷ fields) f t is = by_test (is_field_of t g) (has_new fields f t is)
  where
    by_test : (test : Bool) → HasField (fields ++ f ∷ []) t →
        (if test then 0 else field_number (fields ++ f ∷ []) t + 1) < suc (length (fields ++ f ∷ []))
    by_test true later = omega arith
    by_test false later = omega (arith, later)

pub number_is_small : (fields : List Field) (t : Term) → field_number fields t ≤ length fields
unfolding field_number
number_is_small [] t = omega arith
number_is_small (f ∷ fields) t = by_test (is_field_of t f) (number_is_small fields t)
  where
    by_test : (test : Bool) → field_number fields t ≤ length fields → (if test then 0 else field_number fields t + 1) ≤ suc (length fields)
    by_test true later = omega arith
    by_test false later = omega (arith, later)

pub all_have_more : (fields more : List Field) (terms : List Term) → AllByRecursion (λ t. HasField fields t) terms → AllByRecursion (λ t. HasField (fields ++ more) t) terms
all_have_more fields more [] all = tt
all_have_more fields more (t ∷ terms) all = (has_more fields more t all.0, all_have_more fields more terms all.1)

-- ---- by number

-- the term reads the field of its number
pub reads_its_own : (fields : List Field) (t : Term) (n : ℕ) (f : Field) → field_number fields t ≡ n → n < length fields → f ≡ get_or fields n f → IsTrue (is_field_of t f)
unfolding field_number
reads_its_own [] t n f e below is = absurd (omega (arith, below))
reads_its_own (g ∷ fields) t n f e below is = by_test (reads_its_own fields t (field_number fields t) f refl) (is_field_of t g) refl e
  where
    by_test : (field_number fields t < length fields → f ≡ get_or fields (field_number fields t) f → IsTrue (is_field_of t f)) →
        (test : Bool) → is_field_of t g ≡ test → (if test then 0 else field_number fields t + 1) ≡ n → IsTrue (is_field_of t f)
    by_test later true own here = ap (is_field_of t) (is ∙ ap (λ k. get_or (g ∷ fields) k f) (sym here)) ∙ own
    by_test later false other there =
        let next : suc (field_number fields t) ≡ n = sym (add-one (field_number fields t)) ∙ there in
        later (omega (arith, below, there)) (is ∙ ap (λ k. get_or (g ∷ fields) k f) (sym next))

and_right : (a b : Bool) → IsTrue (a && b) → IsTrue b
and_right true b h = h
and_right false b h = cc

pub same_mask : (t : Term) (f : Field) → IsTrue (is_field_of t f) → t.mask ≡ f.mask
same_mask t f is = equal (and_right _ (t.mask == f.mask) is)
  where
    equal : IsTrue (t.mask == f.mask) → t.mask ≡ f.mask
    equal e = grind (arith, nat_tests)

-- a number that isn't their count is one of theirs
pub has_by_number : (seen fields : List Field) (t : Term) (number count : ℕ) → seen ≡ fields → number ≡ field_number seen t → count ≡ length fields →
    (number ≡ count → ⊥) → HasField fields t
has_by_number seen fields t number count same is counts other =
    let here = ap (λ fs. field_number fs t) same in
    omega (arith, here, is, counts, other, number_is_small fields t)

same_default : {A : Type 0} (xs : List A) (k : ℕ) (d e : A) → k < length xs → get_or xs k d ≡ get_or xs k e
same_default [] k d e below = absurd (omega arith)
same_default (x ∷ xs) zero d e below = refl
same_default (x ∷ xs) (suc k) d e below = same_default xs k d e (omega arith)

pub mask_by_number : (fields : List Field) (t : Term) (n : ℕ) (d : Field) → field_number fields t ≡ n → n < length fields → t.mask ≡ (get_or fields n d).mask
mask_by_number fields t n d e below =
    same_mask t (get_or fields n d) (reads_its_own fields t n (get_or fields n d) e below (same_default fields n d (get_or fields n d) below))

-- ---- places

-- the place of the field of this number; any other where there is none
abbrev pub place_numbered : List Field → Place → ℕ → Place
place_numbered [] other n = other
place_numbered (f ∷ fields) other zero = place_in f
place_numbered (f ∷ fields) other (suc n) = place_numbered fields other n

and_left : (a b : Bool) → IsTrue (a && b) → IsTrue a
and_left true b h = refl
and_left false b h = cc

pub same_place : (t : Term) (f : Field) → IsTrue (is_field_of t f) → place_in f ≡ place_of t
same_place t f is = λ i. record { kind = sym kinds i; mid = sym mids i; offset = sym offsets i; mask = sym (same_mask t f is) i }
  where
    equal : (m n : ℕ) → IsTrue (m == n) → m ≡ n
    equal m n e = grind (arith, nat_tests)

    three : IsTrue ((type_code t.kind == type_code f.kind) && (t.mid == f.mid) && (t.offset == f.offset))
    three = and_left _ (t.mask == f.mask) is

    two : IsTrue ((type_code t.kind == type_code f.kind) && (t.mid == f.mid))
    two = and_left _ (t.offset == f.offset) three

    kinds : t.kind ≡ f.kind
    kinds = one_type t.kind f.kind (equal _ _ (and_left _ (t.mid == f.mid) two))

    mids : t.mid ≡ f.mid
    mids = equal _ _ (and_right _ (t.mid == f.mid) two)

    offsets : t.offset ≡ f.offset
    offsets = equal _ _ (and_right _ (t.offset == f.offset) three)

-- the number of a term's field tells its place
pub named : (fields : List Field) (other : Place) (t : Term) → HasField fields t → place_numbered fields other (field_number fields t) ≡ place_of t
unfolding field_number
named [] other t has = absurd (omega (arith, has))
named (f ∷ fields) other t has = by_test (named fields other t) (is_field_of t f) refl has
  where
    by_test : (HasField fields t → place_numbered fields other (field_number fields t) ≡ place_of t) → (test : Bool) → is_field_of t f ≡ test →
        (if test then 0 else field_number fields t + 1) < suc (length fields) →
        place_numbered (f ∷ fields) other (if test then 0 else field_number fields t + 1) ≡ place_of t
    by_test later true own h = same_place t f own
    by_test later false e h =
        ap (place_numbered (f ∷ fields) other) (add-one (field_number fields t)) ∙ later (omega (arith, h))

-- ---- numbers of places

-- a comparison at a place
abbrev pub at_place : Place → Term
at_place p = record { kind = p.kind; mid = p.mid; offset = p.offset; mask = p.mask; stale = 0; op = Less; value = pos 0 }

-- a term's number is its place's
pub number_of_place : (fields : List Field) (t : Term) → field_number fields (at_place (place_of t)) ≡ field_number fields t
unfolding field_number
number_of_place [] t = refl
number_of_place (f ∷ fields) t = ap (λ n. if is_field_of t f then 0 else n + 1) (number_of_place fields t)

-- a term that doesn't read a field has another number
pub other_number : (fields : List Field) (t : Term) (n : ℕ) (f : Field) → true ≡ nat_lt n (length fields) → f ≡ slice_index_or fields n f → IsFalse (is_field_of t f) →
    IsFalse (field_number fields t == n)
other_number fields t n f inside here apart = by_test (field_number fields t == n) refl
  where
    below : true ≡ nat_lt n (length fields) → n < length fields
    below e = grind (arith, nat_tests)

    same : (field_number fields t == n) ≡ true → field_number fields t ≡ n
    same e = grind (arith, nat_tests)

    never : (test : Bool) → IsTrue test → IsFalse test → ⊥
    never true is apart = cc
    never false is apart = cc

    by_test : (test : Bool) → (field_number fields t == n) ≡ test → IsFalse test
    by_test true e = absurd (never (is_field_of t f) (reads_its_own fields t n f (same e) (below inside) here) apart)
    by_test false e = cc
