-- The text of a condition is that of its symbols.
use Rattle.std.proofs.Common.{◌≡◌, refl, sym, ◌∙◌, ap, ap₂, ℕ, Bool, true, false, List, [], ◌∷◌, ◌++◌, codes, append_assoc}
use Rattle.lc_model.specs.Condition.{Operator}
use Rattle.table_listing.specs.Formula.{Formula, Watch, Not, Join}
use Rattle.table_listing.specs.ConditionText.{operator_name, needed_in_not, needed_first, needed_second, parenthesized, condition_text}
use Rattle.table_listing.specs.Reading.{Symbol, Watchpoint, Joining, Negating, Opening, Closing, enclosed, symbols_of, symbol_text, blank_between, spaced, TextsAreTheirSymbols}

-- ---- the first and the last symbol

abbrev IsBeginning : Symbol → Type 0
IsBeginning (Watchpoint n) = Unit {0}
IsBeginning (Joining o) = ⊥
IsBeginning Negating = Unit {0}
IsBeginning Opening = Unit {0}
IsBeginning Closing = ⊥

abbrev IsEnd : Symbol → Type 0
IsEnd (Watchpoint n) = Unit {0}
IsEnd (Joining o) = ⊥
IsEnd Negating = ⊥
IsEnd Opening = ⊥
IsEnd Closing = Unit {0}

abbrev Begins : List Symbol → Type 0
Begins [] = ⊥
Begins (s ∷ rest) = IsBeginning s

abbrev Ends : List Symbol → Type 0
Ends [] = ⊥
Ends (s ∷ []) = IsEnd s
Ends (s ∷ r ∷ rest) = Ends (r ∷ rest)

begins_before : (xs ys : List Symbol) → Begins xs → Begins (xs ++ ys)
begins_before [] ys begins = absurd begins
begins_before (x ∷ xs) ys begins = begins

ends_behind_one : (x : Symbol) (ys : List Symbol) → Ends ys → Ends (x ∷ ys)
ends_behind_one x [] ends = absurd ends
ends_behind_one x (y ∷ ys) ends = ends

ends_behind : (xs ys : List Symbol) → Ends ys → Ends (xs ++ ys)
ends_behind [] ys ends = ends
ends_behind (x ∷ xs) ys ends = ends_behind_one x (xs ++ ys) (ends_behind xs ys ends)

begins_enclosed : (needed : Bool) (xs : List Symbol) → Begins xs → Begins (enclosed needed xs)
begins_enclosed true xs begins = tt
begins_enclosed false xs begins = begins

ends_enclosed : (needed : Bool) (xs : List Symbol) → Ends xs → Ends (enclosed needed xs)
ends_enclosed true xs ends = ends_behind (Opening ∷ xs) (Closing ∷ []) tt
ends_enclosed false xs ends = ends

begins : (f : Formula) → Begins (symbols_of f)
begins (Watch n) = tt
begins (Not f) = tt
begins (Join o a b) =
    begins_before (enclosed (needed_first o a) (symbols_of a)) (Joining o ∷ enclosed (needed_second o b) (symbols_of b))
    (begins_enclosed (needed_first o a) (symbols_of a) (begins a))

ends : (f : Formula) → Ends (symbols_of f)
ends (Watch n) = tt
ends (Not f) = ends_behind (Negating ∷ []) (enclosed (needed_in_not f) (symbols_of f)) (ends_enclosed (needed_in_not f) (symbols_of f) (ends f))
ends (Join o a b) =
    ends_behind (enclosed (needed_first o a) (symbols_of a)) (Joining o ∷ enclosed (needed_second o b) (symbols_of b))
    (ends_behind (Joining o ∷ []) (enclosed (needed_second o b) (symbols_of b)) (ends_enclosed (needed_second o b) (symbols_of b) (ends b)))

-- ---- blanks

none_before_closing : (s : Symbol) → blank_between s Closing ≡ []
none_before_closing (Watchpoint n) = refl
none_before_closing (Joining o) = refl
none_before_closing Negating = refl
none_before_closing Opening = refl
none_before_closing Closing = refl

one_before_operator : (s : Symbol) (o : Operator) → IsEnd s → blank_between s (Joining o) ≡ codes " "
one_before_operator (Watchpoint n) o is = refl
one_before_operator (Joining p) o is = absurd is
one_before_operator Negating o is = absurd is
one_before_operator Opening o is = absurd is
one_before_operator Closing o is = refl

one_behind_operator : (o : Operator) (s : Symbol) → IsBeginning s → blank_between (Joining o) s ≡ codes " "
one_behind_operator o (Watchpoint n) is = refl
one_behind_operator o (Joining p) is = absurd is
one_behind_operator o Negating is = refl
one_behind_operator o Opening is = refl
one_behind_operator o Closing is = absurd is

one_behind_not : (s : Symbol) → IsBeginning s → blank_between Negating s ≡ codes " "
one_behind_not (Watchpoint n) is = refl
one_behind_not (Joining p) is = absurd is
one_behind_not Negating is = refl
one_behind_not Opening is = refl
one_behind_not Closing is = absurd is

-- ---- texts

closing_behind : (x : Symbol) (xs : List Symbol) → spaced (x ∷ xs ++ Closing ∷ []) ≡ spaced (x ∷ xs) ++ codes ")"
closing_behind x [] = ap (λ blank. symbol_text x ++ (blank ++ codes ")")) (none_before_closing x)
closing_behind x (y ∷ ys) =
    ap (λ rest. symbol_text x ++ (blank_between x y ++ rest)) (closing_behind y ys)
    ∙ ap (λ rest. symbol_text x ++ rest) (sym (append_assoc (blank_between x y) (spaced (y ∷ ys)) (codes ")")))
    ∙ sym (append_assoc (symbol_text x) (blank_between x y ++ spaced (y ∷ ys)) (codes ")"))

enclosed_text : (needed : Bool) (xs : List Symbol) → Begins xs → spaced (enclosed needed xs) ≡ parenthesized needed (spaced xs)
enclosed_text false xs begins = refl
enclosed_text true [] begins = absurd begins
enclosed_text true (x ∷ xs) begins = ap (λ rest. codes "(" ++ rest) (closing_behind x xs)

operator_text : (o : Operator) (ys : List Symbol) → Begins ys → spaced (Joining o ∷ ys) ≡ operator_name o ++ (codes " " ++ spaced ys)
operator_text o [] begins = absurd begins
operator_text o (y ∷ ys) begins = ap (λ blank. operator_name o ++ (blank ++ spaced (y ∷ ys))) (one_behind_operator o y begins)

joined_text : (o : Operator) (xs ys : List Symbol) → Ends xs → Begins ys →
    spaced (xs ++ Joining o ∷ ys) ≡ spaced xs ++ (codes " " ++ (operator_name o ++ (codes " " ++ spaced ys)))
joined_text o [] ys ends begins = absurd ends
joined_text o (x ∷ []) ys ends begins =
    ap₂ (λ blank rest. symbol_text x ++ (blank ++ rest)) (one_before_operator x o ends) (operator_text o ys begins)
joined_text o (x ∷ y ∷ xs) ys ends begins =
    let rest : List ℕ = codes " " ++ (operator_name o ++ (codes " " ++ spaced ys)) in
    ap (λ others. symbol_text x ++ (blank_between x y ++ others)) (joined_text o (y ∷ xs) ys ends begins)
    ∙ ap (λ others. symbol_text x ++ others) (sym (append_assoc (blank_between x y) (spaced (y ∷ xs)) rest))
    ∙ sym (append_assoc (symbol_text x) (blank_between x y ++ spaced (y ∷ xs)) rest)

negated_text : (ys : List Symbol) → Begins ys → spaced (Negating ∷ ys) ≡ codes "not " ++ spaced ys
negated_text [] begins = absurd begins
negated_text (y ∷ ys) begins = ap (λ blank. codes "not" ++ (blank ++ spaced (y ∷ ys))) (one_behind_not y begins)

pub texts_are_their_symbols : TextsAreTheirSymbols
texts_are_their_symbols (Watch n) = refl
texts_are_their_symbols (Not f) =
    ap (λ text. codes "not " ++ parenthesized (needed_in_not f) text) (texts_are_their_symbols f)
    ∙ ap (λ text. codes "not " ++ text) (sym (enclosed_text (needed_in_not f) (symbols_of f) (begins f)))
    ∙ sym (negated_text (enclosed (needed_in_not f) (symbols_of f)) (begins_enclosed (needed_in_not f) (symbols_of f) (begins f)))
texts_are_their_symbols (Join o a b) =
    let first : parenthesized (needed_first o a) (condition_text a) ≡ spaced (enclosed (needed_first o a) (symbols_of a)) =
    ap (parenthesized (needed_first o a)) (texts_are_their_symbols a) ∙ sym (enclosed_text (needed_first o a) (symbols_of a) (begins a)) in
    let second : parenthesized (needed_second o b) (condition_text b) ≡ spaced (enclosed (needed_second o b) (symbols_of b)) =
    ap (parenthesized (needed_second o b)) (texts_are_their_symbols b) ∙ sym (enclosed_text (needed_second o b) (symbols_of b) (begins b)) in
    ap₂ (λ us vs. us ++ (codes " " ++ (operator_name o ++ (codes " " ++ vs)))) first second
    ∙ sym (joined_text o (enclosed (needed_first o a) (symbols_of a)) (enclosed (needed_second o b) (symbols_of b))
    (ends_enclosed (needed_first o a) (symbols_of a) (ends a)) (begins_enclosed (needed_second o b) (symbols_of b) (begins b)))
