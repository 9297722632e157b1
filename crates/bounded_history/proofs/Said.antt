-- What is told once more, and what isn't.
use Rattle.std.proofs.Common.{◌≡◌, ℕ, List, [], ◌∷◌, ◌++◌, Bool, true, false, refl, ap, sym, ◌∙◌, if◌then◌else◌, ◌&&◌, Some, length, ◌-◌, suc, arith}
use Rattle.std.specs.Prelude.{nat_eq, slice_get}
use Rattle.std.specs.Ordering.{int_eq}
use Rattle.std.proofs.lemmas.Bool.Decides.{Decides-int_eq}
use Rattle.std.proofs.lemmas.Bool.{and_parts, cond-true, cond-false, eqb-true, false≢true}
use Rattle.bounded_history.specs.declared.entry.Content.{Content}
use Rattle.bounded_history.specs.declared.entry.Entry.{Entry}
use Rattle.bounded_history.proofs.Reduced.{out}
use Rattle.bounded_history.specs.Changes.{is_said_again, is_said_last, is_one_column, changes_behind, changes, in_front, reduced, joined}

-- the last one stands as it is
last_behind : (width : ℕ) (one : Entry) (entries : List Entry) (entry : Entry) → is_said_last (in_front width one entries) entry ≡ is_said_last (one ∷ entries) entry
last_behind width one [] entry = refl
last_behind width one (other ∷ []) entry = refl
last_behind width one (other ∷ more ∷ entries) entry = by_both (is_one_column width one.from other.from && is_one_column width other.from more.from) where
  by_both : (b : Bool) → is_said_last (if b then joined one other ∷ more ∷ entries else one ∷ other ∷ more ∷ entries) entry ≡ is_said_last (more ∷ entries) entry
  by_both true = refl
  by_both false = refl

-- another in front of some is not the last
front_not_last : (width : ℕ) (first one : Entry) (entries : List Entry) (entry : Entry) →
    is_said_last (first ∷ in_front width one entries) entry ≡ is_said_last (in_front width one entries) entry
front_not_last width first one [] entry = refl
front_not_last width first one (other ∷ []) entry = refl
front_not_last width first one (other ∷ more ∷ entries) entry = by_both (is_one_column width one.from other.from && is_one_column width other.from more.from) where
  by_both : (b : Bool) → is_said_last (first ∷ (if b then joined one other ∷ more ∷ entries else one ∷ other ∷ more ∷ entries)) entry
      ≡ is_said_last (if b then joined one other ∷ more ∷ entries else one ∷ other ∷ more ∷ entries) entry
  by_both true = refl
  by_both false = refl

pub last_reduced : (width : ℕ) (entries : List Entry) (entry : Entry) → is_said_last (reduced width entries) entry ≡ is_said_last entries entry
last_reduced width [] entry = refl
last_reduced width (one ∷ []) entry = refl
last_reduced width (one ∷ other ∷ entries) entry =
    last_behind width one (reduced width (other ∷ entries)) entry ∙ front_not_last width one other (reduced width entries) entry
    ∙ last_reduced width (other ∷ entries) entry

-- what one more told makes of the changes
abbrev MoreBehind : Entry → List Entry → Entry → Type 0
MoreBehind last told entry = changes_behind last (told ++ entry ∷ []) ≡ (if is_said_last (last ∷ changes_behind last told) entry then changes_behind last told else changes_behind last told ++ entry ∷ [])

more_behind : (last : Entry) (told : List Entry) (entry : Entry) → MoreBehind last told entry
more_behind last [] entry = refl
more_behind last (one ∷ told) entry = by_both (more_behind last told entry) (more_behind one told entry) (is_said_again last.told one.told) where
  by_both : MoreBehind last told entry → MoreBehind one told entry → (b : Bool) → (if b then changes_behind last (told ++ entry ∷ []) else one ∷ changes_behind one (told ++ entry ∷ []))
      ≡ (if is_said_last (last ∷ (if b then changes_behind last told else one ∷ changes_behind one told)) entry
      then (if b then changes_behind last told else one ∷ changes_behind one told)
      else (if b then changes_behind last told else one ∷ changes_behind one told) ++ entry ∷ [])
  by_both said new true = said
  by_both said new false =
      ap (λ entries. one ∷ entries) new
      ∙ out (λ entries. one ∷ entries) (is_said_last (one ∷ changes_behind one told) entry) (changes_behind one told) (changes_behind one told ++ entry ∷ [])

pub said_last : (told : List Entry) (entry : Entry) → is_said_last (changes told) entry ≡ true → changes (told ++ entry ∷ []) ≡ changes told
said_last [] entry said = absurd (false≢true said)
said_last (one ∷ told) entry said =
    ap (λ entries. one ∷ entries) (more_behind one told entry ∙ cond-true (is_said_last (one ∷ changes_behind one told) entry) _ _ said)

pub not_said_last : (told : List Entry) (entry : Entry) → is_said_last (changes told) entry ≡ false → changes (told ++ entry ∷ []) ≡ changes told ++ entry ∷ []
not_said_last [] entry said = refl
not_said_last (one ∷ told) entry said =
    ap (λ entries. one ∷ entries) (more_behind one told entry ∙ cond-false (is_said_last (one ∷ changes_behind one told) entry) _ _ said)

-- the last one, as it is looked up
pub last_is : (entries : List Entry) (last entry : Entry) → Some last ≡ slice_get entries (length entries - 1) → is_said_last entries entry ≡ is_said_again last.told entry.told
last_is [] last entry is = absurd (grind arith)
last_is (one ∷ []) last entry is = grind arith
last_is (one ∷ other ∷ entries) last entry is = last_is (other ∷ entries) last entry (is ∙ ap (slice_get (one ∷ other ∷ entries)) (suc_first (length entries))) where
  suc_first : (n : ℕ) → suc (suc n) - 1 ≡ suc (suc n - 1)
  suc_first n = omega arith

-- ---- what is told again

same_told : (one other : Content) → is_said_again one other ≡ true → one ≡ other
same_told one other said =
    let results : (nat_eq one.results other.results ≡ true) × ((nat_eq one.states other.states && (int_eq one.low other.low && int_eq one.high other.high)) ≡ true) =
    and_parts _ _ said in
    let states : (nat_eq one.states other.states ≡ true) × ((int_eq one.low other.low && int_eq one.high other.high) ≡ true) = and_parts _ _ results.1 in
    let values : (int_eq one.low other.low ≡ true) × (int_eq one.high other.high ≡ true) = and_parts _ _ states.1 in
    λ i. record {
      results = eqb-true _ _ results.0 i;
      states = eqb-true _ _ states.0 i;
      low = (Decides-int_eq one.low other.low).0 values.0 i;
      high = (Decides-int_eq one.high other.high).0 values.1 i;
    }

front_same : (one next : Entry) (told : List Entry) (entry : Entry) → one.told ≡ next.told → is_said_last (one ∷ told) entry ≡ is_said_last (next ∷ told) entry
front_same one next [] entry same = ap (λ told. is_said_again told entry.told) same
front_same one next (other ∷ told) entry same = refl

-- the last change says what was told last
last_changed : (one : Entry) (told : List Entry) (entry : Entry) → is_said_last (one ∷ changes_behind one told) entry ≡ is_said_last (one ∷ told) entry
last_changed one [] entry = refl
last_changed one (next ∷ told) entry = by_test (last_changed one told entry) (last_changed next told entry) (is_said_again one.told next.told) refl where
  by_test : is_said_last (one ∷ changes_behind one told) entry ≡ is_said_last (one ∷ told) entry →
      is_said_last (next ∷ changes_behind next told) entry ≡ is_said_last (next ∷ told) entry → (b : Bool) → b ≡ is_said_again one.told next.told →
      is_said_last (one ∷ (if b then changes_behind one told else next ∷ changes_behind next told)) entry ≡ is_said_last (next ∷ told) entry
  by_test said new true again = said ∙ front_same one next told entry (same_told one.told next.told (sym again))
  by_test said new false again = new

pub last_of_changes : (told : List Entry) (entry : Entry) → is_said_last (changes told) entry ≡ is_said_last told entry
last_of_changes [] entry = refl
last_of_changes (one ∷ told) entry = last_changed one told entry
