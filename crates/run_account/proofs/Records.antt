-- The records of a run, one more at its end.
use Rattle.std.proofs.Common.{◌≡◌, refl, ap, ℕ, List, [], ◌∷◌, ◌++◌, Option}
use Rattle.run_stepper.specs.Steps.{Step}
use Rattle.run_account.specs.Account.{Seen, force_after, last_clock, last_force, last_slot, seen_from, slot_after}
use Rattle.run_account.specs.Clock.{clock_after}
use Rattle.run_account.specs.declared.clock.RunClock.{RunClock}
use Rattle.run_account.specs.declared.force.KnownText.{KnownText}

pub seen_more : (slot : Option ℕ) (known : KnownText) (clock : RunClock) (steps : List Step) (step : Step) →
    seen_from slot known clock (steps ++ step ∷ [])
    ≡ seen_from slot known clock steps ++ record { slot = last_slot slot steps; known = last_force known steps; before = last_clock clock steps; step = step } ∷ []
seen_more slot known clock [] step = refl
seen_more slot known clock (one ∷ steps) step =
    ap (λ (more : List Seen). record { slot = slot; known = known; before = clock; step = one } ∷ more)
    (seen_more (slot_after one) (force_after known one) (clock_after one.bytes clock) steps step)

pub force_more : (known : KnownText) (steps : List Step) (step : Step) → last_force known (steps ++ step ∷ []) ≡ force_after (last_force known steps) step
force_more known [] step = refl
force_more known (one ∷ steps) step = force_more (force_after known one) steps step

pub slot_more : (slot : Option ℕ) (steps : List Step) (step : Step) → last_slot slot (steps ++ step ∷ []) ≡ slot_after step
slot_more slot [] step = refl
slot_more slot (one ∷ steps) step = slot_more (slot_after one) steps step

pub clock_more : (clock : RunClock) (steps : List Step) (step : Step) → last_clock clock (steps ++ step ∷ []) ≡ clock_after step.bytes (last_clock clock steps)
clock_more clock [] step = refl
clock_more clock (one ∷ steps) step = clock_more (clock_after one.bytes clock) steps step
