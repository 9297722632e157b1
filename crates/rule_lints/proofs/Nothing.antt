-- Where there is no rule, no judgement or no comparison, nothing is told.
use Rattle.std.proofs.Common.{◌≡◌, ◌++◌, ◌∙◌, ℕ, zero, suc, arith, true, false, nat_lt, List, [], ◌∷◌, length, slice_get, Option, Some, None, ap, refl, sym}
use Rattle.lc_model.specs.Text.Syntax.{Item, RuleItem}
use Rattle.rule_analysis.specs.declared.finding.ComparisonJudgement.{ComparisonJudgement}
use Rattle.rule_analysis.specs.declared.finding.RuleJudgement.{RuleJudgement}
use Rattle.rule_analysis.specs.declared.finding.SpareComparison.{SpareComparison}
use Rattle.rule_lints.specs.declared.warning.Warning.{Warning}
use Rattle.rule_lints.specs.Judged.{of_comparison, of_found, of_spare}

pub some_less : (n : ℕ) → nat_lt zero (suc n) ≡ true
some_less n = grind arith

pub none_less : (n : ℕ) → nat_lt n zero ≡ false
none_less n = grind arith

pub both_less : (m n : ℕ) → nat_lt (suc m) (suc n) ≡ nat_lt m n
both_less m n = grind arith

-- nothing stands past the end of a list
pub past_end : {A : Type 0} (xs : List A) (n : ℕ) → false ≡ nat_lt n (length xs) → slice_get xs n ≡ None
past_end [] n is = refl
past_end (x ∷ xs) zero is = absurd (cc (is ∙ some_less (length xs)))
past_end (x ∷ xs) (suc n) is = past_end xs n (is ∙ both_less n (length xs))

behind : (found none : List Warning) → none ≡ [] → found ≡ found ++ none
behind [] none is = sym is
behind (w ∷ found) none is = ap (λ rest. w ∷ rest) (behind found none is)

pub no_place : (found : List Warning) (number : ℕ) (place : Option ℕ) (j : Option ComparisonJudgement) → place ≡ None
    → found ≡ found ++ of_comparison number place j
no_place found number None j is = behind found (of_comparison number None j) refl
no_place found number (Some place) j is = absurd (cc is)

pub no_comparison : (found : List Warning) (number : ℕ) (place : Option ℕ) (j : Option ComparisonJudgement) → j ≡ None
    → found ≡ found ++ of_comparison number place j
no_comparison found number None None is = behind found (of_comparison number None None) refl
no_comparison found number (Some place) None is = behind found (of_comparison number (Some place) None) refl
no_comparison found number place (Some j) is = absurd (cc is)

pub no_rule : (found : List Warning) (number : ℕ) (r : Option RuleItem) (j : Option RuleJudgement) → r ≡ None
    → found ≡ found ++ of_found number r j
no_rule found number None j is = behind found (of_found number None j) refl
no_rule found number (Some r) j is = absurd (cc is)

pub no_judgement : (found : List Warning) (number : ℕ) (r : Option RuleItem) (j : Option RuleJudgement) → j ≡ None
    → found ≡ found ++ of_found number r j
no_judgement found number None None is = behind found (of_found number None None) refl
no_judgement found number (Some r) None is = behind found (of_found number (Some r) None) refl
no_judgement found number r (Some j) is = absurd (cc is)

pub no_spare : (found : List Warning) (items : List Item) (js : List RuleJudgement) (number : ℕ) (s : Option SpareComparison) → s ≡ None
    → found ≡ found ++ of_spare items js number s
no_spare found items js number None is = behind found [] refl
no_spare found items js number (Some s) is = absurd (cc is)
