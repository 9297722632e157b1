-- Whether a changed condition fails where the old one did. This project's own.
use Rattle.std.specs.Prelude.{◌≡◌, ℕ, ◌+◌, ◌<◌, ◌^◌, ◌⊎◌, true, IsTrue}
use Rattle.std.specs.List.{list_any}
use Rattle.lc_model.specs.declared.truth.Truth.{Truth}
use Rattle.lc_model.specs.declared.truth.Truth.TheVariants.{True, False, Stale, Error}
use Rattle.lc_model.specs.Condition.{Condition}
use Rattle.lc_model.specs.LimitChecker.Watch.{History, truth_of}
use Rattle.lc_model.specs.Laws.Lagging.{IsTrueOnlyWhere}
use Rattle.rule_analysis.specs.Judgement.{HoldsForSome}
use Rattle.rule_analysis.specs.Steps.{AreFewFor}
use Rattle.rule_changes.specs.declared.condition_change.Unsettled.{Unsettled}
use Rattle.rule_changes.specs.declared.condition_change.Unsettled.TheVariants as unsettled
use Rattle.rule_changes.specs.declared.condition_change.Chance.{Chance}
use Rattle.rule_changes.specs.declared.condition_change.Chance.TheVariants as chance
use Rattle.rule_changes.specs.declared.condition_change.ConditionChange.{ConditionChange}
use Rattle.rule_changes.specs.declared.condition_change.ConditionChange.TheVariants as change
use Rattle.rule_changes.specs.Known.{IsTied, terms_of_both, only_first, lifted_size, most_comparisons, is_of_no_packet}
use Rattle.rule_changes.specs.Situations.{ShowsOnlyFirst}
use Rattle.rule_changes.specs.Forms.{AreSame}

-- The question whether the first condition can be true where the second one is not.
abbrev pub only_first_of : Condition → Condition → Condition
only_first_of first second = only_first (terms_of_both first second) true first second

-- The least number of steps for each question: enough for twelve different comparisons.
abbrev pub least_steps : ℕ
least_steps = 2 ^ 12

-- A question about both, which may have ties, has this property.
abbrev pub SomeQuestion : Condition → Condition → (Condition → Type 0) → Type 0
SomeQuestion first second Is = (question : Condition) × IsTied (terms_of_both first second) (only_first_of first second) question × Is question

-- Why it is not known: the question has too many comparisons; the steps may be too few; values of the fields were found, each field
-- and each watchpoint's age being free, but no packets that have them; or a comparison reads packets that are no telemetry.
abbrev pub IsUnsettled : Condition → Condition → Unsettled → Type 0
IsUnsettled first second unsettled.Size = most_comparisons < lifted_size first + lifted_size second
IsUnsettled first second unsettled.Steps = SomeQuestion first second (λ question. AreFewFor question least_steps)
IsUnsettled first second unsettled.Situation = SomeQuestion first second HoldsForSome
IsUnsettled first second unsettled.NoTelemetry = IsTrue (list_any is_of_no_packet (terms_of_both first second))

-- Whether the first condition can be true where the second one is not: after no history, or in this situation, or it is not known.
abbrev pub IsChance : Condition → Condition → Chance → Type 0
IsChance first second chance.Never = IsTrueOnlyWhere first second
IsChance first second (chance.Possible situation) = ShowsOnlyFirst first second situation
IsChance first second (chance.Unknown reason) = IsUnsettled first second reason

-- Stale and error are read as one.
abbrev pub without_error : Truth → Truth
without_error True = True
without_error False = False
without_error Stale = Stale
without_error Error = Stale

-- After every history they have the same truth, but that one may be stale where the other is in error.
abbrev pub AreSameButForStaleAndError : Condition → Condition → Type 0
AreSameButForStaleAndError a b = (h : History) → without_error (truth_of a h) ≡ without_error (truth_of b h)

-- It is not known.
abbrev pub IsUnknown : Chance → Type 0
IsUnknown chance.Never = ⊥
IsUnknown (chance.Possible situation) = ⊥
IsUnknown (chance.Unknown reason) = Unit {0}

-- How a changed condition is related to the old one.
abbrev pub IsConditionChange : (old new : Condition) → ConditionChange → Type 0
IsConditionChange old new change.Same = AreSame old new
IsConditionChange old new change.SameButForStaleAndError = AreSameButForStaleAndError old new
IsConditionChange old new change.FailsAlike = IsTrueOnlyWhere old new × IsTrueOnlyWhere new old
IsConditionChange old new (change.FailsOnlyWhere lost) = IsTrueOnlyWhere new old × ShowsOnlyFirst old new lost
IsConditionChange old new (change.FailsWherever gained) = IsTrueOnlyWhere old new × ShowsOnlyFirst new old gained
IsConditionChange old new (change.Differs lost gained) = ShowsOnlyFirst old new lost × ShowsOnlyFirst new old gained
IsConditionChange old new (change.NotKnown lost gained) = IsChance old new lost × IsChance new old gained × (IsUnknown lost ⊎ IsUnknown gained)
