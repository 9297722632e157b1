-- Lists of what is held under names.
use Rattle.std.proofs.Common.{◌≡◌, refl, sym, subst, ℕ, zero, suc, ◌≤◌, ◌<◌, Bool, true, false, ◌||◌, List, [], ◌∷◌, map, length, arith, if◌then◌else◌, Option, Some, is_none, IsFalse, true≢false}
use Rattle.std.specs.List.{list_any}
use Rattle.std.proofs.lemmas.Slice.Eq.{bytes_eq-Decides}
use Rattle.lc_model.specs.Name.{Name, is_named, AreDistinct, value_under, put}
use Rattle.lc_model.proofs.Facts.{or_neither}
use Rattle.lc_model.proofs.Services.SenderNames.{other_way}

neither : (a b : Bool) → (a || b) ≡ false → (a ≡ false) × (b ≡ false)
neither true b e = absurd (true≢false e)
neither false b e = (refl, e)

module _ {X : Type 0} where
  abbrev pub names : List (Name × X) → List Name
  names files = map (λ (file : Name × X). file.0) files

  -- a name that is none of these, and not the one that is put, is none afterwards
  put_names : (other name : Name) (x : X) (files : List (Name × X)) → IsFalse (is_named other name) → IsFalse (list_any (is_named other) (names files)) →
      IsFalse (list_any (is_named other) (names (put name x files)))
  put_names other name x [] two none = or_neither (is_named other name) false two refl
  put_names other name x (file ∷ files) two none =
      by_test (neither (is_named other file.0) (list_any (is_named other) (names files)) none) (put_names other name x files two) (is_named name file.0)
    where
      by_test : IsFalse (is_named other file.0) × IsFalse (list_any (is_named other) (names files)) →
          (IsFalse (list_any (is_named other) (names files)) → IsFalse (list_any (is_named other) (names (put name x files)))) → (test : Bool) →
          IsFalse (list_any (is_named other) (names (if test then (name, x) ∷ files else file ∷ put name x files)))
      by_test parts behind true = or_neither (is_named other name) (list_any (is_named other) (names files)) two parts.1
      by_test parts behind false = or_neither (is_named other file.0) (list_any (is_named other) (names (put name x files))) parts.0 (behind parts.1)

  pub put_distinct : (name : Name) (x : X) (files : List (Name × X)) → AreDistinct (names files) → AreDistinct (names (put name x files))
  put_distinct name x [] all = (refl, tt)
  put_distinct name x (file ∷ files) all = by_test (put_distinct name x files all.1) (is_named name file.0) refl
    where
      by_test : AreDistinct (names (put name x files)) → (test : Bool) → is_named name file.0 ≡ test → AreDistinct (names (if test then (name, x) ∷ files else file ∷ put name x files))
      by_test behind true same = (subst (λ first. IsFalse (list_any (is_named first) (names files))) (sym ((bytes_eq-Decides name file.0).0 same)) all.0, all.1)
      by_test behind false two = (put_names file.0 name x files (other_way name file.0 two) all.0, behind)

  pub put_length : (name : Name) (x : X) (files : List (Name × X)) (count : ℕ) → length files ≤ count → (is_none (value_under name files) ≡ true → length files < count) → length (put name x files) ≤ count
  put_length name x [] count few room = omega (arith, room refl)
  put_length name x (file ∷ files) count few room = by_test (λ count. put_length name x files count) (is_named name file.0) count few room
    where
      by_test : ((count : ℕ) → length files ≤ count → (is_none (value_under name files) ≡ true → length files < count) → length (put name x files) ≤ count) → (test : Bool) → (count : ℕ) → suc (length files) ≤ count →
          (is_none (let o : Option X = if test then Some file.1 else value_under name files in o) ≡ true → suc (length files) < count) →
          length (if test then (name, x) ∷ files else file ∷ put name x files) ≤ count
      by_test behind true count few room = few
      by_test behind false zero few room = absurd (let none : ⊥ = omega arith in none)
      by_test behind false (suc count) few room = let others = behind count (omega arith) (λ none. let more = room none in omega (arith, more)) in omega (arith, others)
