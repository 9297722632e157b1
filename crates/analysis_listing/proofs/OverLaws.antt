-- The condition of a formula over watchpoints: it is one, and its parts are those of the formula's.
use Rattle.std.proofs.Common.{◌≡◌, ℕ, ◌+◌, ◌≤◌, suc, List, [], ◌∷◌, ◌++◌, length, map, slice_get, ap, ap₂, sym, ◌∙◌, subst, arith, Option, Some, None}
use Rattle.std.specs.Prelude.{option_map, IfOk, Result, Ok, Err}
use Rattle.std.specs.declared.alloc.AllocError.{AllocError}
use Rattle.lc_model.specs.declared.condition.Cond.{Cond}
use Rattle.lc_model.specs.Tables.Image.{Watchpoints, all_words, entry_at, numbers_below, own_count, words_before_equal}
use Rattle.lc_model.specs.Codes.{table_entries}
use Rattle.table_validator.specs.Sound.{IsSoundActionpoint, IsSoundEquation}
use Rattle.std.proofs.lemmas.List.{map-append}
use Rattle.lc_model.specs.declared.field.Term.{Term}
use Rattle.lc_model.specs.Condition as condition
use Rattle.lc_model.specs.Condition.{Operator, Condition, condition_of}
use Rattle.lc_model.specs.Tables.Spelled.{spelled_condition, spelled_term, spelled_terms}
use Rattle.table_listing.specs.Formula.{Formula, Watch, Not, Join, IsOver, IsTreeOf, mention, negation, binary}
use Rattle.table_listing.specs.Laws.{MeansAsItsWords, TreesMeanAsTheirWords}

abbrev both : Operator → Option Condition → Option Condition → Option Condition
both o (Some a) (Some b) = Some (condition.Join o a b)
both o a b = None

-- the condition of a formula, worked out
abbrev over_all : List Term → Formula → Option Condition
over_all terms (Watch n) = option_map condition.Watch (slice_get terms n)
over_all terms (Not f) = option_map condition.Not (over_all terms f)
over_all terms (Join o f g) = both o (over_all terms f) (over_all terms g)

worked_out : (terms : List Term) {f : Formula} {c : Condition} → IsOver terms f c → over_all terms f ≡ Some c
worked_out terms (mention there) = ap (option_map condition.Watch) there
worked_out terms (negation over) = ap (option_map condition.Not) (worked_out terms over)
worked_out terms (binary o first second) = ap₂ (both o) (worked_out terms first) (worked_out terms second)

one_condition : (terms : List Term) (f : Formula) (c d : Condition) → IsOver terms f c → IsOver terms f d → c ≡ d
one_condition terms f c d over other =
    let same = sym (worked_out terms over) ∙ worked_out terms other in
    cc

pub spelled_by : (terms : List Term) (ws : List ℕ) (f : Formula) (c : Condition) → MeansAsItsWords terms ws f → IsOver terms f c → spelled_condition terms ws ≡ Some c
spelled_by terms ws f c means over = means.spelled ∙ ap Some (one_condition terms f means.condition c means.over over)

-- ---- one operator more

pub not_over : (terms : List Term) (f g h : Formula) (c d : Condition) → f ≡ Not g → h ≡ g → d ≡ c → IsOver terms h d → IsOver terms f (condition.Not c)
not_over terms f g h c d is same value over =
    subst (λ x. IsOver terms x (condition.Not c)) (sym is) (negation (subst (λ x. IsOver terms x c) same (subst (IsOver terms h) value over)))

pub join_over : (terms : List Term) (o : Operator) (f g k h m : Formula) (a b c d : Condition) → f ≡ Join o g k → h ≡ g → m ≡ k → c ≡ a → d ≡ b →
    IsOver terms h c → IsOver terms m d → IsOver terms f (condition.Join o a b)
join_over terms o f g k h m a b c d is first_same second_same first_value second_value first second =
    subst (λ x. IsOver terms x (condition.Join o a b)) (sym is)
    (binary o (subst (λ x. IsOver terms x a) first_same (subst (IsOver terms h) first_value first))
    (subst (λ x. IsOver terms x b) second_same (subst (IsOver terms m) second_value second)))

pub all_spelled : (result : Result Cond AllocError) (terms : List Term) (ws seen : List ℕ) (f : Formula) → seen ≡ ws → MeansAsItsWords terms seen f →
    IfOk result (λ cond. IsOver terms f (condition_of cond)) → IfOk result (λ cond. spelled_condition terms ws ≡ Some (condition_of cond))
all_spelled (Ok cond) terms ws seen f same means over =
    ap (spelled_condition terms) (sym same) ∙ spelled_by terms seen f (condition_of cond) means over
all_spelled (Err refused) terms ws seen f same means over = tt

-- ---- watchpoints

pub one_more_below : {A : Type 0} (f : ℕ → A) (now new : List A) (n : ℕ) (x : A) → now ≡ map f (numbers_below n) → x ≡ f n → new ≡ now ++ x ∷ [] →
    new ≡ map f (numbers_below (n + 1))
one_more_below f now new n x so_far is pushed =
    let next : n + 1 ≡ suc n = omega arith in
    pushed ∙ (λ i. so_far i ++ is i ∷ []) ∙ sym (map-append f (numbers_below n) (n ∷ [])) ∙ ap (λ k. map f (numbers_below k)) (sym next)

pub spelled_up_to : (bytes : List ℕ) (items : List Term) (n count : ℕ) → items ≡ map (λ k. spelled_term (entry_at Watchpoints bytes k)) (numbers_below n) → n ≡ count →
    count ≡ own_count bytes → items ≡ spelled_terms bytes
spelled_up_to bytes items n count so_far all own =
    so_far ∙ ap (λ k. map (λ j. spelled_term (entry_at Watchpoints bytes j)) (numbers_below k)) (all ∙ own)

-- ---- actionpoints

pub means_by : TreesMeanAsTheirWords → (terms : List Term) (seen words entry : List ℕ) (f : Formula) (count : ℕ) → length terms ≤ table_entries → seen ≡ words →
    words ≡ words_before_equal (all_words entry) → count ≡ length terms → IsSoundActionpoint count entry → IsTreeOf seen f → MeansAsItsWords terms seen f
means_by law terms seen words entry f count few same are as_many sound tree =
    law terms seen f few (subst (IsSoundEquation (length terms)) (sym (same ∙ are)) (subst (λ n. IsSoundEquation n (words_before_equal (all_words entry))) as_many sound.equation)) tree
