-- Message ids that stand once in a list: with one more, and with one less.
use Rattle.std.proofs.Common.{◌≡◌, ◌∙◌, ap, sym, refl, subst, ℕ, zero, suc, ◌+◌, ◌≤◌, ◌==◌, Bool, true, false, not, ◌&&◌, ◌||◌, List, [], ◌∷◌, ◌++◌, filter, arith}
use Rattle.std.specs.Prelude.{Some, None, is_some, cond, if◌then◌else◌}
use Rattle.std.specs.List.{list_any, position_from, remove}
use Rattle.lc_model.proofs.Facts.{test_unequal, equal_itself}
use Rattle.packet_bus.specs.Line.{AreOnce, hears_mid, line_if, mids_in}
use Rattle.packet_bus.proofs.Heard.{one_more, one_less}

either_false : (a b : Bool) → (a || b) ≡ false → (a ≡ false) × (b ≡ false)
either_false true b e = cc
either_false false b e = (refl, e)

-- one more that isn't there
pub once_more : (mid : ℕ) (mids : List ℕ) → AreOnce mids → list_any (λ o. mid == o) mids ≡ false → AreOnce (mids ++ mid ∷ [])
once_more mid [] once anew = (refl, tt)
once_more mid (x ∷ mids) once anew =
    let parts = either_false (mid == x) (list_any (λ o. mid == o) mids) anew in
    let apart : (x == mid) ≡ false = test_unequal x mid (λ same. let e : (mid == x) ≡ true = ap (λ n. mid == n) same ∙ equal_itself mid in cc) in
    (one_more x mid mids ∙ ap (λ b. b || x == mid) once.0 ∙ apart, once_more mid mids once.1 parts.1)

-- one that isn't there is taken away
pub none_less : (mid : ℕ) (mids : List ℕ) → list_any (λ o. mid == o) mids ≡ false → filter (λ o. not (mid == o)) mids ≡ mids
none_less mid [] none = refl
none_less mid (x ∷ mids) none =
    let parts = either_false (mid == x) (list_any (λ o. mid == o) mids) none in
    let others = none_less mid mids parts.1 in rw parts.0 (ap (λ (rest : List ℕ). x ∷ rest) others)

-- one less
pub once_less : (mid : ℕ) (mids : List ℕ) → AreOnce mids → AreOnce (filter (λ o. not (mid == o)) mids)
once_less mid [] once = tt
once_less mid (x ∷ mids) once = by_test (mid == x) (once_less mid mids once.1)
  where
    by_test : (b : Bool) → AreOnce (filter (λ o. not (mid == o)) mids) → AreOnce (if not b then x ∷ filter (λ o. not (mid == o)) mids else filter (λ o. not (mid == o)) mids)
    by_test true rest = rest
    by_test false rest = (one_less x mid mids ∙ ap (λ b. not (mid == x) && b) once.0 ∙ and_none (not (mid == x)), rest)
      where
        and_none : (a : Bool) → (a && false) ≡ false
        and_none true = refl
        and_none false = refl

-- where it stands
not_found : (mid n : ℕ) (mids : List ℕ) → position_from (λ o. mid == o) n mids ≡ None → list_any (λ o. mid == o) mids ≡ false
not_found mid n [] e = refl
not_found mid n (x ∷ mids) e = by_test (mid == x) (not_found mid (n + 1) mids) e
  where
    by_test : (b : Bool) → (position_from (λ o. mid == o) (n + 1) mids ≡ None → list_any (λ o. mid == o) mids ≡ false) →
        cond b (Some n) (position_from (λ o. mid == o) (n + 1) mids) ≡ None → (b || list_any (λ o. mid == o) mids) ≡ false
    by_test true later e = cc
    by_test false later e = later e

found_behind : (mid n at : ℕ) (mids : List ℕ) → position_from (λ o. mid == o) n mids ≡ Some at → n ≤ at
found_behind mid n at [] e = cc
found_behind mid n at (x ∷ mids) e = by_test (mid == x) (found_behind mid (n + 1) at mids) e
  where
    by_test : (b : Bool) → (position_from (λ o. mid == o) (n + 1) mids ≡ Some at → n + 1 ≤ at) →
        cond b (Some n) (position_from (λ o. mid == o) (n + 1) mids) ≡ Some at → n ≤ at
    by_test true later e = let same : n ≡ at = cc in omega (arith, same)
    by_test false later e = omega (arith, later e)

removed_from : (mid n at : ℕ) (mids : List ℕ) → AreOnce mids → position_from (λ o. mid == o) n mids ≡ Some (n + at) → remove mids at ≡ filter (λ o. not (mid == o)) mids
removed_from mid n at [] once e = cc
removed_from mid n at (x ∷ mids) once e = by_test (mid == x) refl (λ k. removed_from mid (n + 1) k mids once.1) at e
  where
    by_test : (b : Bool) → (mid == x) ≡ b →
        ((k : ℕ) → position_from (λ o. mid == o) (n + 1) mids ≡ Some (n + 1 + k) → remove mids k ≡ filter (λ o. not (mid == o)) mids) → (at : ℕ) → cond b (Some n) (position_from (λ o. mid == o) (n + 1) mids) ≡ Some (n + at) →
        remove (x ∷ mids) at ≡ (if not b then x ∷ filter (λ o. not (mid == o)) mids else filter (λ o. not (mid == o)) mids)
    by_test true is later zero e =
        let same : mid ≡ x = grind (arith, is) in sym (none_less mid mids (subst (λ m. list_any (λ o. m == o) mids ≡ false) (sym same) once.0))
    by_test true is later (suc at) e = let same : n ≡ n + suc at = cc in absurd (omega (arith, same))
    by_test false is later zero e = absurd (omega (arith, found_behind mid (n + 1) (n + zero) mids e))
    by_test false is later (suc at) e =
        let next : n + suc at ≡ n + 1 + at = omega arith in
        ap (λ (rest : List ℕ). x ∷ rest) (later at (e ∙ ap Some next))

pub removed : (mid at : ℕ) (mids : List ℕ) → AreOnce mids → position_from (λ o. mid == o) 0 mids ≡ Some at → remove mids at ≡ filter (λ o. not (mid == o)) mids
removed mid at mids once e = let same : at ≡ 0 + at = omega arith in removed_from mid 0 at mids once (e ∙ ap Some same)

pub kept : (mid : ℕ) (mids : List ℕ) → position_from (λ o. mid == o) 0 mids ≡ None → mids ≡ filter (λ o. not (mid == o)) mids
kept mid mids e = sym (none_less mid mids (not_found mid 0 mids e))

-- a place that isn't subscribed
pub mids_lack : (is_open : Bool) (mid : ℕ) (mids slots : List ℕ) → is_some (line_if is_open mids slots) ≡ true → hears_mid mid (line_if is_open mids slots) ≡ false →
    list_any (λ o. mid == o) mids ≡ false
mids_lack true mid mids slots some lacks = lacks
mids_lack false mid mids slots some lacks = cc

-- a pipe that there is
pub is_open_then : (is_open : Bool) (mids slots : List ℕ) → is_some (line_if is_open mids slots) ≡ true → is_open ≡ true
is_open_then true mids slots some = refl
is_open_then false mids slots some = cc

pub mids_are : (is_open : Bool) (mids slots : List ℕ) → is_some (line_if is_open mids slots) ≡ true → mids_in (line_if is_open mids slots) ≡ mids
mids_are true mids slots some = refl
mids_are false mids slots some = cc
