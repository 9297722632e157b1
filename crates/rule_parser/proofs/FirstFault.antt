-- The first fault on the stack is the fault of the parser; where there is none, the tokens parse.
use Rattle.std.proofs.Common.{◌≡◌, refl, sym, ◌∙◌, ap, subst, ℕ, ◌⊎◌, inl, inr, Bool, true, false, cond, List, [], ◌∷◌, ◌++◌, Option, Some, None, append-nil, append_assoc}
use Rattle.std.specs.Option.{option_map_or}
use Rattle.lc_model.specs.Text.Token.{Token}
use Rattle.lc_model.specs.Text.Syntax.{Item}
use Rattle.lc_model.specs.Text.Grammar.{DerivesFile}
use Rattle.lc_model.specs.Text.Reading.{IsShallow, Parses, ParseFault, Expected, TooNested, HasParseFault, unexpected, ends_early, nested}
use Rattle.lc_model.specs.Laws.Reading.{ParsesOrFails}
use Rattle.rule_parser.specs.Stack.{Symbol, Room, outside, step, narrowed, wanted, is_finished, fault_at}
use Rattle.rule_parser.proofs.Runs.{Runs, runs_file, one_run}
use Rattle.rule_parser.proofs.Completions.{finished}
use Rattle.rule_parser.proofs.Viable.{good, kept, viable, continues, with_token, wants, prepend_all}
use Rattle.rule_parser.proofs.Narrow.{Counted, Counts, counts, counted_none}

-- the fault of the tokens, or their reading
abbrev Answers : (end : ℕ) → List Token → Option ParseFault → Type 0
Answers end tokens None = (items : List Item) × Parses tokens items
Answers end tokens (Some fault) = HasParseFault end tokens fault

-- no reading where something is left
unfinished : (front : List Token) (s : List Symbol) → Runs [] front s → is_finished s ≡ false → (items : List Item) → ¬ DerivesFile front items
unfinished front s r left items file = absurd (cc (ap is_finished (one_run front [] s [] r (runs_file file)), left))

answers_from : (end : ℕ) (front : List Token) (room : Room) (s : List Symbol) (ts : List Token) → Runs [] front s → good s ≡ true → Counted front room →
    Answers end (front ++ ts) (fault_at end room s ts)
unfolding fault_at
answers_from end front room s [] r g c = go (is_finished s) refl
  where
    whole : front ≡ front ++ []
    whole = sym (append-nil front)

    go : (b : Bool) → is_finished s ≡ b → Answers end (front ++ []) (cond b None (Some (Expected end (wanted s))))
    go true is =
        let file = prepend_all front [] s [] r (finished s is) in
        (file.0, (file.1, subst IsShallow whole c.shallow))
    go false is =
        subst (λ ts. HasParseFault end ts (Expected end (wanted s))) whole
        (ends_early (wanted s) (viable front s r g) (unfinished front s r is) c.shallow (wants front s r g))
answers_from end front room s (t ∷ ts) r g c =
    go (step s t) (narrowed room t) refl (counts front room t c) (λ room m r g c. answers_from end (front ++ t ∷ []) room m ts r g c)
  where
    go : (o : Option (List Symbol)) (n : Option Room) → step s t ≡ o → Counts front t n →
        ((room : Room) (m : List Symbol) → Runs [] (front ++ t ∷ []) m → good m ≡ true → Counted (front ++ t ∷ []) room →
        Answers end ((front ++ t ∷ []) ++ ts) (fault_at end room m ts)) →
        Answers end (front ++ t ∷ ts)
        (option_map_or (λ m. option_map_or (λ narrower. fault_at end narrower m ts) n (Some (TooNested t.at))) o (Some (Expected t.at (wanted s))))
    go None n e k others =
        unexpected front ts t (wanted s) (viable front s r g) (λ v. let m = continues front s t r v in absurd (cc (sym e ∙ m.1)))
        c.shallow (wants front s r g)
    go (Some m) None e deep others = nested front ts t (viable (front ++ t ∷ []) m (with_token front s m t r e) (kept s m t g e)) c.shallow deep
    go (Some m) (Some narrower) e k others =
        subst (λ whole. Answers end whole (fault_at end narrower m ts)) (append_assoc front (t ∷ []) ts)
        (others narrower m (with_token front s m t r e) (kept s m t g e) k)

answers : (end : ℕ) (tokens : List Token) → Answers end tokens (fault_at end outside [] tokens)
answers end tokens = answers_from end [] outside [] tokens refl refl counted_none

-- tokens without a fault parse
pub no_fault : (end : ℕ) (tokens : List Token) → fault_at end outside [] tokens ≡ None → (items : List Item) × Parses tokens items
no_fault end tokens e = subst (Answers end tokens) e (answers end tokens)

-- the first fault is the parser's
pub is_fault : (end : ℕ) (tokens : List Token) (fault : ParseFault) → fault_at end outside [] tokens ≡ Some fault → HasParseFault end tokens fault
is_fault end tokens fault e = subst (Answers end tokens) e (answers end tokens)

pub parses_or_fails : ParsesOrFails
parses_or_fails end tokens = go (fault_at end outside [] tokens) (answers end tokens)
  where
    go : (o : Option ParseFault) → Answers end tokens o →
        ((items : List Item) × Parses tokens items) ⊎ ((fault : ParseFault) × HasParseFault end tokens fault)
    go None parses = inl parses
    go (Some fault) has = inr (fault, has)
