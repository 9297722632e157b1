-- Words that are too few, or too many.
use Rattle.std.proofs.Common.{◌≡◌, refl, ℕ, ◌<◌, ◌≤◌, List, [], ◌∷◌, length, arith, Err, Option}
use denote.Ref.{Bor}
use Rattle.text_lines.specs.Lines.{texts_of}
use Rattle.scenarios.specs.declared.error.Reason.TheVariants.{NoFilter, NoRamp, NoRepeat, NoState}
use Rattle.scenarios.specs.Named.{NamedField, NamedRule}
use Rattle.scenarios.specs.Orders.{filter_line, state_line}
use Rattle.scenarios.specs.Plain.{times_in}
use Rattle.scenarios.specs.Ramp.{ramp_in, ramp_paced}

pub no_ramp : (fields : List NamedField) (words : List (Bor (List ℕ))) → length words < 3 → ramp_in fields (texts_of words) ≡ Err NoRamp
no_ramp fields [] few = refl
no_ramp fields (a ∷ []) few = refl
no_ramp fields (a ∷ b ∷ []) few = refl
no_ramp fields (a ∷ b ∷ c ∷ words) few = absurd (omega (arith, few))

pub no_pace : (fields : List NamedField) (name from to : List ℕ) (words : List (Bor (List ℕ))) → length words < 4 →
    ramp_paced fields name from to (texts_of words) ≡ Err NoRamp
no_pace fields name from to [] few = refl
no_pace fields name from to (a ∷ []) few = refl
no_pace fields name from to (a ∷ b ∷ []) few = refl
no_pace fields name from to (a ∷ b ∷ c ∷ []) few = refl
no_pace fields name from to (a ∷ b ∷ c ∷ d ∷ words) few = absurd (omega (arith, few))

pub few_times : (words : List (Bor (List ℕ))) → length words < 3 → times_in (texts_of words) ≡ Err NoRepeat
few_times [] few = refl
few_times (a ∷ []) few = refl
few_times (a ∷ b ∷ []) few = refl
few_times (a ∷ b ∷ c ∷ words) few = absurd (omega (arith, few))

pub many_times : (words : List (Bor (List ℕ))) → 4 ≤ length words → times_in (texts_of words) ≡ Err NoRepeat
many_times [] many = absurd (omega (arith, many))
many_times (a ∷ []) many = absurd (omega (arith, many))
many_times (a ∷ b ∷ []) many = absurd (omega (arith, many))
many_times (a ∷ b ∷ c ∷ []) many = absurd (omega (arith, many))
many_times (a ∷ b ∷ c ∷ d ∷ words) many = refl

pub few_filter : (words : List (Bor (List ℕ))) → length words < 3 → filter_line (texts_of words) ≡ Err NoFilter
few_filter [] few = refl
few_filter (a ∷ []) few = refl
few_filter (a ∷ b ∷ []) few = refl
few_filter (a ∷ b ∷ c ∷ words) few = absurd (omega (arith, few))

pub many_filter : (words : List (Bor (List ℕ))) → 4 ≤ length words → filter_line (texts_of words) ≡ Err NoFilter
many_filter [] many = absurd (omega (arith, many))
many_filter (a ∷ []) many = absurd (omega (arith, many))
many_filter (a ∷ b ∷ []) many = absurd (omega (arith, many))
many_filter (a ∷ b ∷ c ∷ []) many = absurd (omega (arith, many))
many_filter (a ∷ b ∷ c ∷ d ∷ words) many = refl

pub few_state : (rules : List NamedRule) (force : Option ℕ) (words : List (Bor (List ℕ))) → length words < 2 → state_line rules force (texts_of words) ≡ Err NoState
few_state rules force [] few = refl
few_state rules force (a ∷ []) few = refl
few_state rules force (a ∷ b ∷ words) few = absurd (omega (arith, few))

pub many_state : (rules : List NamedRule) (force : Option ℕ) (words : List (Bor (List ℕ))) → 3 ≤ length words → state_line rules force (texts_of words) ≡ Err NoState
many_state rules force [] many = absurd (omega (arith, many))
many_state rules force (a ∷ []) many = absurd (omega (arith, many))
many_state rules force (a ∷ b ∷ []) many = absurd (omega (arith, many))
many_state rules force (a ∷ b ∷ c ∷ words) many = refl
