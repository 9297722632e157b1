-- The words of a condition whose mentions are numbered are the words of its equation, the heavier operand first.
use Rattle.std.proofs.Common.{◌≡◌, refl, sym, ◌∙◌, ap, ℕ, ◌+◌, ◌^◌, ◌<◌, ◌≤◌, Bool, true, false, nat_lt, if◌then◌else◌, List, [], ◌∷◌, ◌++◌, length, map, get_or, Vec, Global, arith}
use Rattle.std.proofs.lemmas.List.{append_assoc, append-nil, get_or-map, length-append, length-map, map-append}
use Rattle.lc_model.specs.declared.rule.Rule.{Rule}
use Rattle.lc_model.specs.Rule.{rule_of, rules_of}
use Rattle.lc_model.specs.declared.field.Term.{Term}
use Rattle.lc_model.specs.Condition.{Condition, Operator, Watch, Not, Join, condition_of}
use Rattle.lc_model.specs.Tables.Equation.{mentions, mention_numbers, number_in, operator_word, not_word, words, need, heavier_first}
use Rattle.rpn_compiler.specs.Numbered.{Emitted, in_turn, joined, by_numbers, words_of}

-- a condition takes as many numbers as it has mentions
pub left_over : (c : Condition) (ns : List ℕ) → length (mentions c) ≤ length ns → length (by_numbers c ns).1 + length (mentions c) ≡ length ns
unfolding by_numbers
left_over (Watch t) [] enough = absurd (omega (arith, enough))
left_over (Watch t) (n ∷ ns) enough = omega arith
left_over (Not c) ns enough = left_over c ns enough
left_over (Join o a b) ns enough =
    let both : length (mentions a ++ mentions b) ≡ length (mentions a) + length (mentions b) = length-append (mentions a) (mentions b) in
    let first = left_over a ns (omega (arith, enough, both)) in
    let second = left_over b (by_numbers a ns).1 (omega (arith, enough, both, first)) in
    omega (arith, both, first, second)

-- a condition has mentions, and its need is at most as many
pub need_within : (c : Condition) (ns : List ℕ) → length (mentions c) ≤ length ns →
    (1 ≤ (by_numbers c ns).0.need) × ((by_numbers c ns).0.need ≤ length (mentions c))
unfolding by_numbers
need_within (Watch t) [] enough = (omega arith, omega arith)
need_within (Watch t) (n ∷ ns) enough = (omega arith, omega arith)
need_within (Not c) ns enough = need_within c ns enough
need_within (Join o a b) ns enough =
    let both : length (mentions a ++ mentions b) ≡ length (mentions a) + length (mentions b) = length-append (mentions a) (mentions b) in
    let short : length (mentions a) ≤ length ns = omega (arith, enough, both) in
    let first = need_within a ns short in
    let second = need_within b (by_numbers a ns).1 (omega (arith, enough, both, left_over a ns short)) in
    go (operator_word o) (by_numbers a ns).0 (by_numbers b (by_numbers a ns).1).0 (nat_lt (by_numbers a ns).0.need (by_numbers b (by_numbers a ns).1).0.need)
    (length (mentions a)) (length (mentions b)) (length (mentions a ++ mentions b)) first second both
  where
    go : (operator : ℕ) (x y : Emitted) (turned : Bool) (m n whole : ℕ) → (1 ≤ x.need) × (x.need ≤ m) → (1 ≤ y.need) × (y.need ≤ n) → whole ≡ m + n →
        let z : Emitted = if turned then in_turn operator y x else in_turn operator x y in (1 ≤ z.need) × (z.need ≤ whole)
    go operator x y true m n whole first second both = (omega (arith, first.0, second.0), omega (arith, first.0, first.1, second.0, second.1, both))
    go operator x y false m n whole first second both = (omega (arith, first.0, second.0), omega (arith, first.0, first.1, second.0, second.1, both))

-- so it is small
pub small_need : (c : Condition) (ns : List ℕ) (need : ℕ) → need ≡ (by_numbers c ns).0.need → length (mentions c) ≤ length ns → length ns < 2 ^ 63 → need < 2 ^ 63
small_need c ns need is enough few = omega (arith, is, (need_within c ns enough).1, enough, few)

-- the words and the need of a condition over terms
abbrev emitted : List Term → Condition → Emitted
emitted terms c = record { words = words terms c; need = need c }

-- two operands that are put in turn, in either order
in_either : (terms : List Term) (o : Operator) (a b : Condition) (turned : Bool) →
    (if turned then in_turn (operator_word o) (emitted terms b) (emitted terms a) else in_turn (operator_word o) (emitted terms a) (emitted terms b))
    ≡ emitted terms (if turned then Join o b a else Join o a b)
in_either terms o a b true = refl
in_either terms o a b false = refl

-- where they have the numbers of a list of terms, the words are those over the list, with the heavier operand first
pub words_are : (terms : List Term) (c : Condition) (rest : List ℕ) →
    by_numbers c (map (number_in terms) (mentions c) ++ rest) ≡ (emitted terms (heavier_first c), rest)
unfolding by_numbers
words_are terms (Watch t) rest = refl
words_are terms (Not c) rest =
    ap (λ (r : Emitted × List ℕ). (let e : Emitted = record { words = r.0.words ++ not_word ∷ []; need = r.0.need } in e, r.1)) (words_are terms c rest)
words_are terms (Join o a b) rest =
    let after : List ℕ = map (number_in terms) (mentions b) ++ rest in
    let numbers : map (number_in terms) (mentions a ++ mentions b) ++ rest ≡ map (number_in terms) (mentions a) ++ after =
    ap (λ ns. ns ++ rest) (map-append (number_in terms) (mentions a) (mentions b))
    ∙ append_assoc (map (number_in terms) (mentions a)) (map (number_in terms) (mentions b)) rest in
    let first : Emitted = emitted terms (heavier_first a) in
    ap (λ ns. by_numbers (Join o a b) ns) numbers
    ∙ ap (λ (r : Emitted × List ℕ). (joined (operator_word o) r.0 (by_numbers b r.1).0, (by_numbers b r.1).1)) (words_are terms a after)
    ∙ ap (λ (r : Emitted × List ℕ). (joined (operator_word o) first r.0, r.1)) (words_are terms b rest)
    ∙ ap (λ (e : Emitted). (e, rest)) (in_either terms o (heavier_first a) (heavier_first b) (nat_lt (need (heavier_first a)) (need (heavier_first b))))

-- the words by the numbers of the mentions alone
pub words_alone : (terms : List Term) (c : Condition) → (by_numbers c (map (number_in terms) (mentions c))).0.words ≡ words terms (heavier_first c)
words_alone terms c =
    ap (λ ns. (by_numbers c ns).0.words) (sym (append-nil (map (number_in terms) (mentions c))))
    ∙ ap (λ (r : Emitted × List ℕ). r.0.words) (words_are terms c [])

-- behind a first operand there are numbers enough for the second
pub enough_left : (a b : Condition) (ns left : List ℕ) → length (mentions a) + length (mentions b) ≤ length ns →
    left ≡ (by_numbers a ns).1 → length (mentions b) ≤ length left
enough_left a b ns left enough is = omega (arith, enough, left_over a ns (omega (arith, enough)), ap length is)

-- ---- one rule after the other

-- the numbers of a rule's mentions
pub numbers_at : (terms : List Term) (rules : List Rule) (numbers : List (Vec ℕ Global)) (i : ℕ) (r : Rule) (v : Vec ℕ Global) →
    words_of numbers ≡ map (mention_numbers terms) (rules_of rules) → i < length rules → r ≡ get_or rules i r → v ≡ get_or numbers i v →
    v.items ≡ map (number_in terms) (mentions (condition_of r.cond))
numbers_at terms rules numbers i r v known within rule vector =
    let all = length-map rules rule_of in
    let as_many = sym (length-map numbers (λ (ns : Vec ℕ Global). ns.items)) ∙ ap length known ∙ length-map (rules_of rules) (mention_numbers terms) ∙ all in
    ap (λ (ns : Vec ℕ Global). ns.items) vector
    ∙ sym (get_or-map (λ (ns : Vec ℕ Global). ns.items) numbers i v [] (omega (arith, within, as_many)))
    ∙ ap (λ nss. get_or nss i []) known
    ∙ get_or-map (mention_numbers terms) (rules_of rules) i (rule_of r) [] (omega (arith, within, all))
    ∙ ap (mention_numbers terms) (get_or-map rule_of rules i r (rule_of r) within ∙ ap rule_of (sym rule))
