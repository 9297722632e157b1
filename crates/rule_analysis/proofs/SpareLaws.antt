-- Each comparison is told, or may be needed.
use Rattle.std.proofs.Common.{◌≡◌, ◌≢◌, ℕ, zero, suc, ◌+◌, ◌≤◌, ◌<◌, Bool, true, false, List, [], ◌∷◌, ◌++◌, length, slice_get, get_or, refl, ap, sym, ◌∙◌, subst, arith, Some, inl, inr, ◌⊎◌, if◌then◌else◌}
use Rattle.std.specs.Prelude.{Contains, IsFalse, IfOk, Result, Ok, Err}
use Rattle.std.specs.declared.alloc.AllocError.{AllocError}
use Rattle.std.specs.List.{AllByRecursion}
use Rattle.std.proofs.lemmas.List.Elements.{Contains-push}
use Rattle.lc_model.specs.declared.field.Term.{Term}
use Rattle.lc_model.specs.Condition.{Condition, Xor, Watch, Not, Join, condition_of}
use Rattle.lc_model.specs.Tables.Equation.{mentions, distinct, same_term}
use Rattle.lc_model.specs.Rule.{NamedRule, rule_of, rules_of}
use Rattle.lc_model.specs.declared.rule.Rule.{Rule}
use Rattle.lc_model.proofs.LimitChecker.ResultLaws.{one_term}
use Rattle.lc_model.proofs.Tables.WordsSpell.{equal_is_same}
use Rattle.rule_analysis.specs.declared.finding.SpareComparison.{SpareComparison}
use Rattle.rule_analysis.specs.Judgement.{HoldsForSome}
use Rattle.rule_analysis.specs.Steps.{NamesAll, AreFewFor, AreFewByNames}
use Rattle.rule_analysis.specs.Spare.{constant, replaced, least_spare_steps, MayMatter, MayBeNeeded, IsOf, IsTold, IsToldOrNeeded, AreToldUpTo, AreToldOrNeeded}
use Rattle.rule_analysis.proofs.Each.{both, there_mapped}
use Rattle.rule_analysis.proofs.Known.{parts}
use Rattle.rule_analysis.proofs.WalkLaws.{decided}
use Rattle.rule_analysis.proofs.PairLaws.{same_rule, there_is_inside}
use Rattle.rule_analysis.proofs.StepLaws.{names_distinct}

-- ---- a condition with a comparison replaced has no other comparisons

names_replaced : (named : List Term) (t : Term) (value : Bool) (c : Condition) → Contains named t → NamesAll named (mentions c) →
    NamesAll named (mentions (replaced t (constant value t) c))
names_replaced named t value (Watch u) has all = by_test (same_term u t)
  where
    of_constant : (v : Bool) → NamesAll named (mentions (constant v t))
    of_constant true = (has, (has, tt))
    of_constant false = (has, (has, tt))

    by_test : (test : Bool) → NamesAll named (mentions (if test then constant value t else Watch u))
    by_test true = of_constant value
    by_test false = all
names_replaced named t value (Not c) has all = names_replaced named t value c has all
names_replaced named t value (Join o a b) has all =
    let apart = parts (Contains named) (mentions a) (mentions b) all in
    both (Contains named) (mentions (replaced t (constant value t) a)) (mentions (replaced t (constant value t) b))
    (names_replaced named t value a has apart.0) (names_replaced named t value b has apart.1)

named_there : (named terms : List Term) (t : Term) → Contains terms t → NamesAll named terms → Contains named t
named_there named [] t has all = absurd (omega (arith, has.1))
named_there named (u ∷ terms) t (zero, below, is) all = subst (Contains named) is all.0
named_there named (u ∷ terms) t (suc k, below, is) all = named_there named terms t (k, omega (arith, below), is) all.1

few_of_difference : (c : Condition) (t : Term) (value : Bool) (steps : ℕ) → Contains (mentions c) t →
    AreFewByNames (Join Xor c (replaced t (constant value t) c)) steps → AreFewFor c steps
few_of_difference c t value steps has few =
    let own = names_distinct (mentions c) in
    few (distinct (mentions c))
    (both (Contains (distinct (mentions c))) (mentions c) (mentions (replaced t (constant value t) c)) own
    (names_replaced (distinct (mentions c)) t value c (named_there (distinct (mentions c)) (mentions c) t has own) own))

pub matters_by : (unsettled : ℕ) (c : Condition) (t : Term) (value : Bool) (other : Condition) → Contains (mentions c) t →
    other ≡ Join Xor c (replaced t (constant value t) c) → HoldsForSome other ⊎ (AreFewByNames other least_spare_steps × (0 < unsettled)) → MayMatter unsettled c t value
matters_by unsettled c t value other has is (inl holds) = inl (subst HoldsForSome is holds)
matters_by unsettled c t value other has is (inr (few, counted)) =
    inr (few_of_difference c t value least_spare_steps has (subst (λ d. AreFewByNames d least_spare_steps) is few), counted)

pub all_matter : (unsettled : ℕ) (result : Result Bool AllocError) (c : Condition) (t : Term) (value : Bool) (other : Condition) → Contains (mentions c) t →
    other ≡ Join Xor c (replaced t (constant value t) c) →
    IfOk result (λ never. IsFalse never → HoldsForSome other ⊎ (AreFewByNames other least_spare_steps × (0 < unsettled))) →
    IfOk result (λ never. IsFalse never → MayMatter unsettled c t value)
all_matter unsettled (Ok never) c t value other has is so = λ e. matters_by unsettled c t value other has is (so e)
all_matter unsettled (Err refused) c t value other has is so = tt

-- ---- counting

-- more are counted
pub matter_still : (before after : ℕ) (c : Condition) (t : Term) (value : Bool) → before ≤ after → MayMatter before c t value → MayMatter after c t value
matter_still before after c t value more (inl holds) = inl holds
matter_still before after c t value more (inr (few, counted)) = inr (few, omega (arith, more, counted))

-- a comparison is counted where something of it is not known
matter_counted : (unknown after : ℕ) (c : Condition) (t : Term) (value : Bool) → (unknown ≤ 0) ⊎ (0 < after) → MayMatter unknown c t value → MayMatter after c t value
matter_counted unknown after c t value some (inl holds) = inl holds
matter_counted unknown after c t value (inl none) (inr (few, counted)) = absurd (omega (arith, none, counted))
matter_counted unknown after c t value (inr some) (inr (few, counted)) = inr (few, some)

pub needed_counted : (unknown after : ℕ) (c : Condition) (t : Term) → (unknown ≤ 0) ⊎ (0 < after) → MayBeNeeded unknown c t → MayBeNeeded after c t
needed_counted unknown after c t some needed = (matter_counted unknown after c t true some needed.0, matter_counted unknown after c t false some needed.1)

-- ---- what is told stays

abbrev pub Keeps : List SpareComparison → List SpareComparison → Type 0
Keeps old new = (s : SpareComparison) → Contains old s → Contains new s

pub told_still : (before after : ℕ) (rules : List NamedRule) (old new : List SpareComparison) (i : ℕ) (t : Term) → before ≤ after → Keeps old new →
    IsToldOrNeeded before rules old i t → IsToldOrNeeded after rules new i t
told_still before after rules old new i t more keeps told rule e = by (told rule e)
  where
    by : IsTold old i t ⊎ MayBeNeeded before rule.action.condition t → IsTold new i t ⊎ MayBeNeeded after rule.action.condition t
    by (inl here) = inl (here.0, keeps here.0 here.1, here.2, here.3)
    by (inr needed) = inr (
      matter_still before after rule.action.condition t true more needed.0,
      matter_still before after rule.action.condition t false more needed.1,
    )

-- ---- one comparison

pub pushed_is_told : (unsettled : ℕ) (rules : List NamedRule) (i : ℕ) (t : Term) (old new : List SpareComparison) (s : SpareComparison) → s.rule ≡ i → s.term ≡ t → new ≡ old ++ s ∷ [] →
    IsToldOrNeeded unsettled rules new i t
pushed_is_told unsettled rules i t old new s rule_is term_is pushed rule e =
    inl (s, subst (λ list. Contains list s) (sym pushed) (Contains-push old s), rule_is, term_is)

pub needed_at : (unsettled : ℕ) (rules : List Rule) (i : ℕ) (own : Rule) (t : Term) (spare : List SpareComparison) → i < length rules → own ≡ get_or rules i own →
    MayBeNeeded unsettled (condition_of (get_or rules i own).cond) t → IsToldOrNeeded unsettled (rules_of rules) spare i t
needed_at unsettled rules i own t spare below is needed rule e =
    inr (subst (λ (r : NamedRule). MayBeNeeded unsettled r.action.condition t) (same_rule rules i own rule below is e)
    (subst (λ (r : Rule). MayBeNeeded unsettled (condition_of r.cond) t) (sym is) needed))

pub own_of : (rules : List Rule) (i : ℕ) (own : Rule) (t : Term) → i < length rules → own ≡ get_or rules i own → IsOf (rules_of rules) i t →
    Contains (mentions (condition_of (get_or rules i own).cond)) t
own_of rules i own t below is of =
    subst (λ (r : Rule). Contains (mentions (condition_of r.cond)) t) is (of (rule_of own) (there_mapped rule_of rules i own below is))

-- ---- all of a rule

pub there : {A : Type 0} (xs : List A) (k : ℕ) (d : A) → k < length xs → slice_get xs k ≡ Some (get_or xs k d)
there [] k d below = absurd (omega arith)
there (x ∷ xs) zero d below = refl
there (x ∷ xs) (suc k) d below = there xs k d (omega arith)

pub same_there : (terms : List Term) (i at : ℕ) (d e : Term) → i < length terms → at < length terms → same_term (get_or terms i d) (get_or terms at e) ≡ true →
    slice_get terms i ≡ slice_get terms at
same_there terms i at d e i_below at_below same =
    there terms i d i_below ∙ ap Some (one_term (get_or terms i d) (get_or terms at e) same) ∙ sym (there terms at e at_below)

pub apart_there : (terms : List Term) (i at : ℕ) (d e : Term) → i < length terms → at < length terms → same_term (get_or terms i d) (get_or terms at e) ≡ false →
    slice_get terms i ≢ slice_get terms at
apart_there terms i at d e i_below at_below apart same =
    let both_are = sym (there terms i d i_below) ∙ same ∙ there terms at e at_below in
    contradict (equal_is_same (get_or terms at e)) (subst (λ t. same_term t (get_or terms at e) ≡ false) (cc both_are) apart)
  where
    contradict : {b : Bool} → b ≡ true → b ≡ false → ⊥
    contradict is_so is_not = let both_are = sym is_so ∙ is_not in cc

got_is_inside : (terms : List Term) (k : ℕ) (t : Term) → slice_get terms k ≡ Some t → Contains terms t
got_is_inside [] k t e = cc
got_is_inside (u ∷ terms) zero t e = (0, omega arith, cc)
got_is_inside (u ∷ terms) (suc k) t e = let found = got_is_inside terms k t e in (suc found.0, omega (arith, found.1), found.2)

pub own_at : (rules : List Rule) (i : ℕ) (own : Rule) (seen terms : List Term) (k : ℕ) (t : Term) → i < length rules → own ≡ get_or rules i own →
    seen ≡ terms → terms ≡ mentions (condition_of (get_or rules i own).cond) → slice_get seen k ≡ Some t → IsOf (rules_of rules) i t
own_at rules i own seen terms k t below is same are got rule e =
    subst (λ (r : NamedRule). Contains (mentions r.action.condition) t) (same_rule rules i own rule below is e)
    (subst (λ (r : Rule). Contains (mentions (condition_of r.cond)) t) (sym is) (subst (λ ts. Contains ts t) (same ∙ are) (got_is_inside seen k t got)))

pub again_is_told : (unsettled : ℕ) (rules : List NamedRule) (spare : List SpareComparison) (rule : ℕ) (terms : List Term) (at : ℕ) →
    AreToldUpTo unsettled rules spare rule terms at → (i : ℕ) × (i < at) × (slice_get terms i ≡ slice_get terms at) → AreToldUpTo unsettled rules spare rule terms (at + 1)
again_is_told unsettled rules spare rule terms at told before k t below e = decided k at
    (λ same. told before.0 t before.1 (before.2 ∙ ap (slice_get terms) (sym same) ∙ e))
    (λ other. told k t (omega (arith, below, other)) e)

pub new_is_told : (before after : ℕ) (rules : List NamedRule) (old new : List SpareComparison) (rule : ℕ) (terms : List Term) (at : ℕ) (d : Term) → at < length terms →
    before ≤ after → Keeps old new → AreToldUpTo before rules old rule terms at → IsToldOrNeeded after rules new rule (get_or terms at d) →
    AreToldUpTo after rules new rule terms (at + 1)
new_is_told before after rules old new rule terms at d inside more keeps told here k t below e = decided k at
    (λ same. subst (IsToldOrNeeded after rules new rule) (own_is (ap (slice_get terms) (sym same) ∙ e)) here)
    (λ other. told_still before after rules old new rule t more keeps (told k t (omega (arith, below, other)) e))
  where
    own_is : slice_get terms at ≡ Some t → get_or terms at d ≡ t
    own_is f =
        let both_are = sym (there terms at d inside) ∙ f in
        cc

pub all_told : (unsettled : ℕ) (rules : List Rule) (i : ℕ) (own : Rule) (terms : List Term) (count : ℕ) (spare : List SpareComparison) → i < length rules → own ≡ get_or rules i own →
    terms ≡ mentions (condition_of (get_or rules i own).cond) → length terms ≤ count →
    ((k : ℕ) (t : Term) → k < count → slice_get terms k ≡ Some t → IsToldOrNeeded unsettled (rules_of rules) spare i t) →
    (t : Term) → IsOf (rules_of rules) i t → IsToldOrNeeded unsettled (rules_of rules) spare i t
all_told unsettled rules i own terms count spare below is are past told t of =
    let has = subst (λ ts. Contains ts t) (sym are) (own_of rules i own t below is of) in
    told has.0 t (omega (arith, past, has.1)) (there terms has.0 t has.1 ∙ ap Some has.2)

-- ---- all rules

each_is_told : (unsettled : ℕ) (rules : List NamedRule) (spare : List SpareComparison) (i : ℕ) (rule : NamedRule) → slice_get rules i ≡ Some rule →
    ((t : Term) → IsOf rules i t → IsToldOrNeeded unsettled rules spare i t) → (terms : List Term) → ((t : Term) → Contains terms t → Contains (mentions rule.action.condition) t) →
    AllByRecursion (λ t. IsTold spare i t ⊎ MayBeNeeded unsettled rule.action.condition t) terms
each_is_told unsettled rules spare i rule e told [] within = tt
each_is_told unsettled rules spare i rule e told (t ∷ terms) within = (
  told t (λ other f. subst (λ (r : NamedRule). Contains (mentions r.action.condition) t) (same_there_is other f) (within t (0, omega arith, refl))) rule e,
  each_is_told unsettled rules spare i rule e told terms (λ u has. within u (suc has.0, omega (arith, has.1), has.2)),
)
  where
    same_there_is : (other : NamedRule) → slice_get rules i ≡ Some other → rule ≡ other
    same_there_is other f = let both_are = sym e ∙ f in cc

pub all_are_told : (unsettled : ℕ) (rules : List Rule) (spare : List SpareComparison) (count : ℕ) → length rules ≤ count →
    ((i : ℕ) → i < count → (t : Term) → IsOf (rules_of rules) i t → IsToldOrNeeded unsettled (rules_of rules) spare i t) → AreToldOrNeeded unsettled (rules_of rules) spare
all_are_told unsettled rules spare count past told i rule e =
    each_is_told unsettled (rules_of rules) spare i rule e (told i (omega (arith, past, there_is_inside rules i rule e))) (mentions rule.action.condition) (λ t has. has)
