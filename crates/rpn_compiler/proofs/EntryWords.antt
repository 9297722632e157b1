-- The words of each rule's entry.
use Rattle.std.proofs.Common.{◌≡◌, sym, ◌∙◌, ap, ℕ, ◌+◌, ◌<◌, ◌≤◌, List, [], ◌∷◌, length, map, drop, get_or, Vec, Global, arith}
use Rattle.std.specs.List.{AllByRecursion}
use Rattle.std.proofs.lemmas.List.{length-map, get_or-map, length-drop, drop_more}
use Rattle.lc_model.specs.declared.field.Term.{Term}
use Rattle.lc_model.specs.declared.rule.Rule.{Rule}
use Rattle.lc_model.specs.Rule.{NamedRule, rule_of, rules_of}
use Rattle.lc_model.specs.Tables.Half.{entry_over}
use Rattle.lc_model.specs.Tables.Image.{FitsEntry}
use Rattle.lc_model.specs.Tables.InForce.{arranged, compiled_actionpoints}
use Rattle.lc_model.specs.Tables.Lowering.{words_in}
use Rattle.lc_model.proofs.Tables.EntriesAgain.{at_place}
use Rattle.rpn_compiler.specs.Numbered.{words_of}

-- there are as many as rules
pub as_many : (terms : List Term) (rules : List Rule) (found : List (Vec ℕ Global)) → words_of found ≡ map (words_in arranged terms) (rules_of rules) →
    length found ≡ length rules
as_many terms rules found known =
    sym (length-map found (λ (ws : Vec ℕ Global). ws.items)) ∙ ap length known ∙ length-map (rules_of rules) (words_in arranged terms) ∙ length-map rules rule_of

-- the words of the rule at a place
pub words_at : (terms : List Term) (rules : List Rule) (found : List (Vec ℕ Global)) (i : ℕ) (r : Rule) (v : Vec ℕ Global) →
    words_of found ≡ map (words_in arranged terms) (rules_of rules) → i < length rules → r ≡ get_or rules i r → v ≡ get_or found i v →
    v.items ≡ words_in arranged terms (rule_of r)
words_at terms rules found i r v known within rule vector =
    let all = length-map rules rule_of in
    let many = as_many terms rules found known in
    ap (λ (ws : Vec ℕ Global). ws.items) vector
    ∙ sym (get_or-map (λ (ws : Vec ℕ Global). ws.items) found i v [] (omega (arith, within, many)))
    ∙ ap (λ wss. get_or wss i []) known
    ∙ get_or-map (words_in arranged terms) (rules_of rules) i (rule_of r) [] (omega (arith, within, all))
    ∙ ap (words_in arranged terms) (get_or-map rule_of rules i r (rule_of r) within ∙ ap rule_of (sym rule))

-- where every rule's words are at most so many, those at a place are
pub short_at : (most : ℕ) (found : List (Vec ℕ Global)) (i : ℕ) (v : Vec ℕ Global) → AllByRecursion (λ (ws : List ℕ). length ws ≤ most) (words_of found) →
    i < length found → v ≡ get_or found i v → length v.items ≤ most
short_at most found i v short within vector =
    let many = length-map found (λ (ws : Vec ℕ Global). ws.items) in
    let there : length (get_or (words_of found) i []) ≤ most = at_place (λ (ws : List ℕ). length ws ≤ most) (words_of found) i [] short (omega (arith, within, many)) in
    let words_are : v.items ≡ get_or (words_of found) i [] =
    ap (λ (ws : Vec ℕ Global). ws.items) vector ∙ sym (get_or-map (λ (ws : Vec ℕ Global). ws.items) found i v [] within) in
    let as_long = ap (λ (ws : List ℕ). length ws) words_are in omega (arith, there, as_long)

-- the words of entries that fit the compiled table are at most 32 a rule
pub short_words : (terms : List Term) (rules : List NamedRule) → AllByRecursion (FitsEntry compiled_actionpoints) (map (entry_over arranged terms) rules) →
    AllByRecursion (λ (ws : List ℕ). length ws ≤ 32) (map (words_in arranged terms) rules)
short_words terms [] fit = tt
short_words terms (rule ∷ rules) fit = (let short = fit.0.words_length in omega (arith, short), short_words terms rules fit.1)

-- what stands first behind so many, and what is left behind that
pub first_left : {X : Type 0} (xs rest : List X) (n : ℕ) (x : X) → x ∷ rest ≡ drop n xs → (n < length xs) × (x ≡ get_or xs n x) × (rest ≡ drop (n + 1) xs)
first_left xs rest n x e =
    let within : n < length xs = let long = length-drop n xs in let as_long = ap length e in omega (arith, long, as_long) in
    let parts : x ∷ rest ≡ get_or xs n x ∷ drop (n + 1) xs = e ∙ drop_more xs n x within in
    (within, cc parts, cc parts)
