-- The number of a term among terms that are known after the same histories.
use Rattle.std.proofs.Common.{◌≡◌, ℕ, suc, ◌+◌, ◌<◌, ◌≤◌, true, false, List, ◌∷◌, length, drop, drop-cons, add-one, get_or, if◌then◌else◌, ap, sym, ◌∙◌, arith}
use Rattle.std.proofs.lemmas.List.{drop_all}
use Rattle.lc_model.specs.declared.field.Term.{Term}
use Rattle.rule_changes.specs.Known.{is_known_alike, known_number}

split : (terms : List Term) (i : ℕ) (u d : Term) → i < length terms → u ≡ get_or terms i d → drop i terms ≡ u ∷ drop (i + 1) terms
split terms i u d below is = rw (add-one, drop-cons terms i d) (ap (λ first. first ∷ drop (suc i) terms) (sym is))

pub number_here : (terms : List Term) (t : Term) (i : ℕ) (u d : Term) → i < length terms → u ≡ get_or terms i d → is_known_alike t u ≡ true →
    known_number terms t ≡ known_number (drop i terms) t + i → i ≡ known_number terms t
unfolding known_number
number_here terms t i u d below is alike so_far =
    let first = ap (λ fs. known_number fs t) (split terms i u d below is) ∙ ap (λ test. if test then 0 else known_number (drop (i + 1) terms) t + 1) alike in
    omega (arith, first)

pub number_on : (terms : List Term) (t : Term) (i : ℕ) (u d : Term) → i < length terms → u ≡ get_or terms i d → is_known_alike t u ≡ false →
    known_number terms t ≡ known_number (drop i terms) t + i → known_number terms t ≡ known_number (drop (i + 1) terms) t + (i + 1)
unfolding known_number
number_on terms t i u d below is other so_far =
    let first = ap (λ fs. known_number fs t) (split terms i u d below is) ∙ ap (λ test. if test then 0 else known_number (drop (i + 1) terms) t + 1) other in
    omega (arith, first)

pub number_none : (terms : List Term) (t : Term) (i : ℕ) → length terms ≤ i → i ≤ length terms →
    known_number terms t ≡ known_number (drop i terms) t + i → length terms ≡ known_number terms t
unfolding known_number
number_none terms t i past inside so_far =
    let none : known_number (drop i terms) t ≡ 0 = ap (λ fs. known_number fs t) (drop_all i terms past) in
    omega (arith, none)
