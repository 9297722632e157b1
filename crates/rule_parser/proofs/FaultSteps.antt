-- One token more or less before the and_first fault.
use Rattle.std.proofs.Common.{◌≡◌, refl, sym, ◌∙◌, ap, ℕ, ◌+◌, Bool, true, false, cond, List, [], ◌∷◌, Some, None, add-one, codes, bytes_eq}
use Rattle.std.specs.List.{list_any}
use Rattle.lc_model.specs.Text.Token.{Token}
use Rattle.lc_model.specs.Text.Class as class
use Rattle.lc_model.specs.Text.Class.{Class, Name, Number, word, sign, fits, Fits}
use Rattle.lc_model.specs.Text.Reading.{Expected, TooNested, nests, ends_item}
use Rattle.lc_model.proofs.Texts.OneClass.{none_of}
use Rattle.lc_model.proofs.Facts.{or_neither}
use Rattle.lc_model.proofs.Texts.OneFile.{word_text}
use Rattle.rule_parser.specs.Stack.{Symbol, Room, one, option, operand, after, outside, inside, joins, less, narrowed, step, wanted, is_finished, fault_at}
use Rattle.rule_parser.specs.Front.{place_in, begins}
use Rattle.rule_parser.proofs.Runs.{sign_text}

-- ---- a token that fits, and one that doesn't

pub fault_behind : (end : ℕ) (room narrower : Room) (s m : List Symbol) (t : Token) (ts : List Token) →
    step s t ≡ Some m → narrowed room t ≡ Some narrower → fault_at end room s (t ∷ ts) ≡ fault_at end narrower m ts
unfolding fault_at
fault_behind end room narrower s m t ts fits narrows = rw (fits, narrows) refl

pub fault_too_deep : (end : ℕ) (room : Room) (s m : List Symbol) (t : Token) (ts : List Token) →
    step s t ≡ Some m → narrowed room t ≡ None → fault_at end room s (t ∷ ts) ≡ Some (TooNested t.at)
unfolding fault_at
fault_too_deep end room s m t ts fits narrows = rw (fits, narrows) refl

pub fault_here : (end : ℕ) (room : Room) (s : List Symbol) (t : Token) (ts : List Token) →
    step s t ≡ None → fault_at end room s (t ∷ ts) ≡ Some (Expected t.at (wanted s))
unfolding fault_at
fault_here end room s t ts stops = rw stops refl

pub fault_at_end : (end : ℕ) (room : Room) (s : List Symbol) → is_finished s ≡ false → fault_at end room s [] ≡ Some (Expected end (wanted s))
unfolding fault_at
fault_at_end end room s left = rw left refl

-- where the tokens don't begin with the one that is wanted
pub fault_of_one : (end : ℕ) (room : Room) (c : Class) (s : List Symbol) (ts : List Token) → begins c ts ≡ false →
    fault_at end room (one c ∷ s) ts ≡ Some (Expected (place_in end ts) c)
unfolding begins
fault_of_one end room c s [] none = fault_at_end end room (one c ∷ s) refl
fault_of_one end room c s (t ∷ ts) none = fault_here end room (one c ∷ s) t ts (ap (λ b. cond b (Some s) None) none)

-- where they begin no operand, and one is wanted
pub fault_of_operand : (end : ℕ) (room : Room) (c : Class) (s : List Symbol) (ts : List Token) →
    begins Name ts ≡ false → begins (word "not") ts ≡ false → begins (sign "(") ts ≡ false →
    fault_at end room (operand c ∷ s) ts ≡ Some (Expected (place_in end ts) class.Operand)
unfolding begins
fault_of_operand end room c s [] no_name no_not no_open = fault_at_end end room (operand c ∷ s) refl
fault_of_operand end room c s (t ∷ ts) no_name no_not no_open =
    fault_here end room (operand c ∷ s) t ts
    (ap (λ b. cond b (Some (one class.Compare ∷ one Number ∷ after c ∷ s)) (cond (fits (word "not") t.text) (Some (operand c ∷ s))
    (cond (fits (sign "(") t.text) (Some (operand (sign ")") ∷ after c ∷ s)) None))) no_name
    ∙ ap (λ b. cond b (Some (operand c ∷ s)) (cond (fits (sign "(") t.text) (Some (operand (sign ")") ∷ after c ∷ s)) None)) no_not
    ∙ ap (λ b. cond b (Some (operand (sign ")") ∷ after c ∷ s)) None) no_open)

-- ---- what may be left out

-- a condition that no operator continues
pub past_condition : (end : ℕ) (room : Room) (c : Class) (s : List Symbol) (ts : List Token) →
    begins (word "and") ts ≡ false → begins (word "xor") ts ≡ false → begins (word "or") ts ≡ false →
    fault_at end room (after c ∷ s) ts ≡ fault_at end room (one c ∷ s) ts
unfolding begins fault_at
past_condition end room c s [] a x o = refl
past_condition end room c s (t ∷ ts) a x o =
    let none : joins t ≡ false = or_neither (fits (word "and") t.text) _ a (or_neither (fits (word "xor") t.text) (fits (word "or") t.text) x o) in
    rw none refl

-- an option that isn't there
pub past_option : (end : ℕ) (room : Room) (letters : List ℕ) (following : List Class) (s : List Symbol) (ts : List Token) →
    begins (class.Word letters) ts ≡ false → fault_at end room (option letters following ∷ s) ts ≡ fault_at end room s ts
unfolding begins fault_at
past_option end room letters following s [] none = refl
past_option end room letters following s (t ∷ ts) none = rw none refl

-- ---- the room

-- a token of a class without `;` ends no item
ends_not : (c : Class) (t : Token) → fits c (codes ";") ≡ false → Fits c t → ends_item t ≡ false
ends_not c t other fit = go (ends_item t) refl
  where
    go : (b : Bool) → ends_item t ≡ b → ends_item t ≡ false
    go false e = e
    go true e = absurd (cc (sym fit ∙ ap (fits c) (sym (sign_text (codes ";") t e)) ∙ other))

abbrev nesting_words : List (List ℕ)
nesting_words = codes "(" ∷ codes "not" ∷ codes "and" ∷ codes "xor" ∷ codes "or" ∷ []

-- a token of a class without them leaves the room as it is
pub steady : (left : ℕ) (c : Class) (t : Token) → fits c (codes ";") ≡ false → list_any (fits c) nesting_words ≡ false → Fits c t →
    narrowed (inside left) t ≡ Some (inside left)
steady left c t no_end none fit =
    let ends : ends_item t ≡ false = ends_not c t no_end fit in
    let nest : nests t ≡ false = none_of (fits c) nesting_words none t.text fit in
    ap (λ b. cond b (Some outside) (cond (nests t) (less left) (Some (inside left)))) ends
    ∙ ap (λ b. cond b (less left) (Some (inside left))) nest

-- outside of conditions only `when` changes it
pub steady_outside : (c : Class) (t : Token) → fits c (codes "when") ≡ false → Fits c t → narrowed outside t ≡ Some outside
steady_outside c t other fit = go (fits (word "when") t.text) refl
  where
    go : (b : Bool) → fits (word "when") t.text ≡ b → Some (cond b (inside 64) outside) ≡ Some outside
    go false e = refl
    go true e = absurd (cc (sym fit ∙ ap (fits c) (sym (word_text (codes "when") t e)) ∙ other))

-- a token that nests takes one of it
nests_is : (left : ℕ) (t : Token) → ends_item t ≡ false → nests t ≡ true → narrowed (inside left) t ≡ less left
nests_is left t no_end is =
    ap (λ b. cond b (Some outside) (cond (nests t) (less left) (Some (inside left)))) no_end
    ∙ ap (λ b. cond b (less left) (Some (inside left))) is

-- the classes of the tokens that nest
pub record IsNesting (t : Token) : Type 0 where
  pub ends_not : ends_item t ≡ false
  pub nests : nests t ≡ true

pub word_nests : (letters : List ℕ) (t : Token) → fits (class.Word letters) (codes ";") ≡ false → list_any (bytes_eq letters) nesting_words ≡ true →
    Fits (class.Word letters) t → IsNesting t
word_nests letters t no_end is fit = record {
  ends_not = ends_not (class.Word letters) t no_end fit;
  nests = ap (λ text. list_any (bytes_eq text) nesting_words) (sym (word_text letters t fit)) ∙ is;
}

pub open_nests : (t : Token) → Fits (sign "(") t → IsNesting t
open_nests t fit = record {
  ends_not = ends_not (sign "(") t refl fit;
  nests = ap (λ text. list_any (bytes_eq text) nesting_words) (sym (sign_text (codes "(") t fit));
}

pub narrows : (room rest : ℕ) (t : Token) → IsNesting t → room ≡ rest + 1 → narrowed (inside room) t ≡ Some (inside rest)
narrows room rest t is e = nests_is room t is.ends_not is.nests ∙ ap less (e ∙ add-one rest)

pub too_narrow : (room : ℕ) (t : Token) → IsNesting t → room ≡ 0 → narrowed (inside room) t ≡ None
too_narrow room t is e = nests_is room t is.ends_not is.nests ∙ ap less e
