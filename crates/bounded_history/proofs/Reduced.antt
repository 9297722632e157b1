-- Entries that come one behind the other, and columns that grow twice as wide.
use Rattle.std.proofs.Common.{◌≡◌, ℕ, List, [], ◌∷◌, ◌++◌, Bool, true, false, ◌&&◌, refl, ap, sym, ◌∙◌, arith, if◌then◌else◌}
use Rattle.std.proofs.lemmas.Bool.Decides.{nat_tests}
use Rattle.std.proofs.lemmas.Bool.{eqb-true}
use Rattle.std.specs.Prelude.{nat_eq, cond, ◌-◌, ◌/◌}
use Rattle.bounded_history.specs.declared.entry.Entry.{Entry}
use Rattle.bounded_history.specs.Changes.{is_one_column, in_front, reduced, joined}
use Rattle.bounded_history.proofs.Joining.{joined_thrice}

-- an entry behind others that are reduced
abbrev pub behind : ℕ → List Entry → Entry → List Entry
behind width [] last = last ∷ []
behind width (one ∷ []) last = one ∷ last ∷ []
behind width (one ∷ other ∷ []) last =
    if is_one_column width one.from last.from && is_one_column width other.from last.from then joined one other ∷ last ∷ []
    else one ∷ other ∷ last ∷ []
behind width (one ∷ other ∷ more ∷ others) last = one ∷ behind width (other ∷ more ∷ others) last

-- a function of a choice
pub out : {A B : Type 0} (f : A → B) (b : Bool) (x y : A) → f (if b then x else y) ≡ (if b then f x else f y)
out f true x y = refl
out f false x y = refl

-- what stands in front of a choice that begins alike
into : (width : ℕ) (entry one other more last : Entry) (b : Bool) →
    in_front width entry (one ∷ (if b then joined other more ∷ last ∷ [] else other ∷ more ∷ last ∷ []))
    ≡ (if is_one_column width entry.from one.from && is_one_column width one.from other.from then
    joined entry one ∷ (if b then joined other more ∷ last ∷ [] else other ∷ more ∷ last ∷ [])
    else entry ∷ one ∷ (if b then joined other more ∷ last ∷ [] else other ∷ more ∷ last ∷ []))
into width entry one other more last true = refl
into width entry one other more last false = refl

-- four choices by the columns of four records
choices : {X : Type 0} (c d e f : ℕ) (v w x y z : X) → v ≡ w →
    (if nat_eq d f && nat_eq e f then (if nat_eq c d && nat_eq d f then v else x) else (if nat_eq c d && nat_eq d e then y else z))
    ≡ (if nat_eq c d && nat_eq d e then (if nat_eq c f && nat_eq e f then w else y) else (if nat_eq d f && nat_eq e f then x else z))
choices c d e f v w x y z same = grind (arith, nat_tests, same)

-- it doesn't matter which of the two comes first
commute : (width : ℕ) (entry : Entry) (entries : List Entry) (last : Entry) → in_front width entry (behind width entries last) ≡ behind width (in_front width entry entries) last
commute width entry [] last = refl
commute width entry (one ∷ []) last = grind (arith, joined_thrice)
commute width entry (one ∷ other ∷ []) last =
    let column : Entry → ℕ = λ it. (it.from - 1) / width in
    let three : List Entry = joined one other ∷ last ∷ [] in
    let before : Bool = is_one_column width one.from last.from && is_one_column width other.from last.from in
    let behind_it : Bool = is_one_column width entry.from one.from && is_one_column width one.from other.from in
    out (in_front width entry) before three (one ∷ other ∷ last ∷ [])
    ∙ choices (column entry) (column one) (column other) (column last)
    (joined entry (joined one other) ∷ last ∷ []) (joined (joined entry one) other ∷ last ∷ [])
    (entry ∷ three) (joined entry one ∷ other ∷ last ∷ []) (entry ∷ one ∷ other ∷ last ∷ [])
    (ap (λ (first : Entry). first ∷ last ∷ []) (sym (joined_thrice entry one other)))
    ∙ sym (out (λ entries. behind width entries last) behind_it (joined entry one ∷ other ∷ []) (entry ∷ one ∷ other ∷ [])
    ∙ ap (cond behind_it (behind width (joined entry one ∷ other ∷ []) last)) (out (λ entries. entry ∷ entries) before three (one ∷ other ∷ last ∷ [])))
commute width entry (one ∷ other ∷ more ∷ []) last =
    let together : Bool = is_one_column width entry.from one.from && is_one_column width one.from other.from in
    into width entry one other more last (is_one_column width other.from last.from && is_one_column width more.from last.from)
    ∙ sym (out (λ entries. behind width entries last) together (joined entry one ∷ other ∷ more ∷ []) (entry ∷ one ∷ other ∷ more ∷ []))
commute width entry (one ∷ other ∷ more ∷ some ∷ others) last =
    let together : Bool = is_one_column width entry.from one.from && is_one_column width one.from other.from in
    sym (out (λ entries. behind width entries last) together (joined entry one ∷ other ∷ more ∷ some ∷ others) (entry ∷ one ∷ other ∷ more ∷ some ∷ others))

-- one more told is one more behind
pub behind_all : (width : ℕ) (entries : List Entry) (last : Entry) → reduced width (entries ++ last ∷ []) ≡ behind width (reduced width entries) last
behind_all width [] last = refl
behind_all width (entry ∷ entries) last =
    ap (in_front width entry) (behind_all width entries last) ∙ commute width entry (reduced width entries) last

-- ---- columns that are twice as wide

-- choices by the columns of four records, where those of the first three are one
fewer : {X : Type 0} (c d e f : ℕ) (v w x y z : X) → v ≡ w → c ≡ d → d ≡ e →
    (if nat_eq d e && nat_eq e f then (if nat_eq c d && nat_eq d f then v else x) else (if nat_eq c d && nat_eq d e then y else z))
    ≡ (if nat_eq c e && nat_eq e f then w else y)
fewer c d e f v w x y z same near next = grind (arith, nat_tests, same, near, next)

-- an entry in front of another is in front of what follows as both are, where what follows lies in their column
fused : (width : ℕ) (entry one next : Entry) (entries : List Entry) → (entry.from - 1) / width ≡ (one.from - 1) / width →
    (one.from - 1) / width ≡ (next.from - 1) / width →
    in_front width entry (in_front width one (next ∷ entries)) ≡ in_front width (joined entry one) (next ∷ entries)
fused width entry one next [] near far = grind (arith, nat_tests, near, far)
fused width entry one next (other ∷ entries) near far =
    let column : Entry → ℕ = λ it. (it.from - 1) / width in
    out (in_front width entry) (is_one_column width one.from next.from && is_one_column width next.from other.from)
    (joined one next ∷ other ∷ entries) (one ∷ next ∷ other ∷ entries)
    ∙ fewer (column entry) (column one) (column next) (column other)
    (joined entry (joined one next) ∷ other ∷ entries) (joined (joined entry one) next ∷ other ∷ entries)
    (entry ∷ joined one next ∷ other ∷ entries) (joined entry one ∷ next ∷ other ∷ entries) (entry ∷ one ∷ next ∷ other ∷ entries)
    (ap (λ (first : Entry). first ∷ other ∷ entries) (sym (joined_thrice entry one next))) near far

fused_behind : (width : ℕ) (entry one next : Entry) (entries : List Entry) → (entry.from - 1) / width ≡ (one.from - 1) / width →
    (one.from - 1) / width ≡ (next.from - 1) / width →
    in_front width entry (in_front width one (in_front width next entries)) ≡ in_front width (joined entry one) (in_front width next entries)
fused_behind width entry one next [] near far = fused width entry one next [] near far
fused_behind width entry one next (other ∷ []) near far = fused width entry one next (other ∷ []) near far
fused_behind width entry one next (other ∷ more ∷ entries) near far =
    by_both (is_one_column width next.from other.from && is_one_column width other.from more.from) where
      by_both : (b : Bool) → in_front width entry (in_front width one (if b then joined next other ∷ more ∷ entries else next ∷ other ∷ more ∷ entries))
          ≡ in_front width (joined entry one) (if b then joined next other ∷ more ∷ entries else next ∷ other ∷ more ∷ entries)
      by_both true = fused width entry one (joined next other) (more ∷ entries) near far
      by_both false = fused width entry one next (other ∷ more ∷ entries) near far

-- records of one column are in one column of the wider ones
abbrev pub IsWider : ℕ → ℕ → Type 0
IsWider width wide = (a b : ℕ) → (a - 1) / width ≡ (b - 1) / width → (a - 1) / wide ≡ (b - 1) / wide

again : (width wide : ℕ) → IsWider width wide → (entry : Entry) (entries : List Entry) →
    reduced wide (in_front width entry entries) ≡ in_front wide entry (reduced wide entries)
again width wide wider entry [] = refl
again width wide wider entry (one ∷ []) = refl
again width wide wider entry (one ∷ other ∷ entries) =
    by_test (is_one_column width entry.from one.from) (is_one_column width one.from other.from) refl refl where
      by_test : (near far : Bool) → near ≡ is_one_column width entry.from one.from → far ≡ is_one_column width one.from other.from →
          reduced wide (if near && far then joined entry one ∷ other ∷ entries else entry ∷ one ∷ other ∷ entries)
          ≡ in_front wide entry (in_front wide one (in_front wide other (reduced wide entries)))
      by_test true true near far = sym (fused_behind wide entry one other (reduced wide entries)
          (wider _ _ (eqb-true _ _ (sym near))) (wider _ _ (eqb-true _ _ (sym far))))
      by_test true false near far = refl
      by_test false far near far_is = refl

-- reduced by columns, and then by wider ones, is reduced by the wider ones at once
pub twice : (width wide : ℕ) → IsWider width wide → (entries : List Entry) → reduced wide (reduced width entries) ≡ reduced wide entries
twice width wide wider [] = refl
twice width wide wider (entry ∷ entries) =
    again width wide wider entry (reduced width entries) ∙ ap (in_front wide entry) (twice width wide wider entries)

-- ---- an entry behind two that are last

pub behind_two : (width : ℕ) (front : List Entry) (one other last : Entry) →
    behind width ((front ++ one ∷ []) ++ other ∷ []) last
    ≡ (if is_one_column width one.from last.from && is_one_column width other.from last.from then (front ++ joined one other ∷ []) ++ last ∷ []
    else ((front ++ one ∷ []) ++ other ∷ []) ++ last ∷ [])
behind_two width [] one other last = refl
behind_two width (some ∷ []) one other last =
    out (λ entries. some ∷ entries) (is_one_column width one.from last.from && is_one_column width other.from last.from)
    (joined one other ∷ last ∷ []) (one ∷ other ∷ last ∷ [])
behind_two width (some ∷ more ∷ []) one other last =
    out (λ entries. some ∷ more ∷ entries) (is_one_column width one.from last.from && is_one_column width other.from last.from)
    (joined one other ∷ last ∷ []) (one ∷ other ∷ last ∷ [])
behind_two width (some ∷ more ∷ others ∷ front) one other last =
    ap (λ entries. some ∷ entries) (behind_two width (more ∷ others ∷ front) one other last)
    ∙ out (λ entries. some ∷ entries) (is_one_column width one.from last.from && is_one_column width other.from last.from)
    ((more ∷ others ∷ front ++ joined one other ∷ []) ++ last ∷ []) (((more ∷ others ∷ front ++ one ∷ []) ++ other ∷ []) ++ last ∷ [])
