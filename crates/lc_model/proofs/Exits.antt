-- What several crates prove of their functions alike: the error that a `?` hands on, and the rules up to a place.
use Rattle.std.proofs.Common.{◌≡◌, sym, ap, ◌∙◌, subst, ℕ, ◌+◌, ◌<◌, List, [], ◌∷◌, ◌++◌, length, take, get_or, Result, Ok, Err}
use Rattle.std.specs.Prelude.{IfErr}
use Rattle.std.specs.Result.{IsErrAnd}
use Rattle.std.proofs.lemmas.List.{map-append, take_more}
use Rattle.lc_model.specs.declared.rule.Rule.{Rule}
use Rattle.lc_model.specs.Rule.{rule_of, rules_of}

-- what is true of an error is true of the answer that hands it on
pub passed_on : {T E : Type 0} (P : E → Type 0) (r : Result T E) (error : E) → IsErrAnd r (λ e. e ≡ error) → P error → IfErr r P
passed_on P (Ok x) error is holds = absurd is
passed_on P (Err e) error is holds = subst P (sym is) holds

-- the rules up to a place, and the one that stands there
pub rules_more : (rules : List Rule) (i : ℕ) (r : Rule) → i < length rules → r ≡ get_or rules i r →
    rules_of (take (i + 1) rules) ≡ rules_of (take i rules) ++ rule_of r ∷ []
rules_more rules i r within is =
    ap rules_of (take_more rules i r within ∙ ap (λ x. take i rules ++ x ∷ []) (sym is)) ∙ map-append rule_of (take i rules) (r ∷ [])
