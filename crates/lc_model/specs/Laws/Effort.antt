-- Laws of the Limit Checker's effort.
use Rattle.std.specs.Prelude.{◌≡◌, ◌≢◌, ℕ, ◌<◌, ◌≤◌, ◌*◌, ◌^◌, ◌==◌, nat_lt, List, [], ◌∷◌, length, slice_index, filter, if◌then◌else◌, IsTrue}
use Rattle.std.specs.List.{AllByRecursion, list_any}
use Rattle.lc_model.specs.declared.field.Term.{Term}
use Rattle.lc_model.specs.Rule.{Actionpoint}
use Rattle.lc_model.specs.Codes.{table_entries}
use Rattle.lc_model.specs.Tables.Equation.{equation_length}
use Rattle.lc_model.specs.declared.command.SampleRequest.{SampleRequest}
use Rattle.lc_model.specs.LimitChecker.Steps.{Point}
use Rattle.lc_model.specs.Kept.Summary.{Tally}
use Rattle.lc_model.specs.Kept.Effort.{sampled_words, IsAscending, watched_ids, middle_of, first_place, compared_with, probes_for}

-- Law: if each rule's equation has at most `words` words, a sample evaluates at most `words` times the number of rules.
abbrev pub SamplesAreBounded : Type 0
SamplesAreBounded = (words : ℕ) (request : SampleRequest) (number : ℕ) (rules : List Actionpoint) (points : List (Point Tally)) →
    AllByRecursion (λ (rule : Actionpoint). equation_length rule.condition ≤ words) rules → sampled_words request number rules points ≤ words * length rules

-- Law: a search among fewer than 2 ^ most ids makes at most `most` comparisons.
abbrev pub SearchesAreBounded : Type 0
SearchesAreBounded = (most mid : ℕ) (ids : List ℕ) → length ids < 2 ^ most → probes_for mid ids ≤ most

-- The ids that are left after `mid` was compared with `other`: those below it or those above it; none if they are equal.
abbrev pub left_by : ℕ → ℕ → List ℕ → List ℕ
left_by mid other ids =
    if mid == other then []
    else if nat_lt mid other then filter (λ (id : ℕ). nat_lt id other) ids
    else filter (λ (id : ℕ). nat_lt other id) ids

-- `mid` is compared with these ids in order: first with that at `place`, then always with the middle of the ids that are left,
-- until none is left.
abbrev pub AreCompared : (place mid : ℕ) → List ℕ → List ℕ → Type 0
AreCompared place mid ids [] = ids ≡ []
AreCompared place mid ids (other ∷ others) =
    (ids ≢ []) × (other ≡ slice_index ids place) × AreCompared (middle_of (left_by mid other ids)) mid (left_by mid other ids) others

-- The probes of a telemetry packet are the comparisons of its message id with the ascending ids of the watchpoints; a watched id
-- is compared only with itself.
pub record AreComparisons (mid : ℕ) (terms : List Term) : Type 0 where
  pub ascending : IsAscending (watched_ids terms)
  pub each : AreCompared (first_place mid (watched_ids terms)) mid (watched_ids terms) (compared_with mid (watched_ids terms))
  pub itself : IsTrue (list_any (◌==◌ mid) (watched_ids terms)) → compared_with mid (watched_ids terms) ≡ mid ∷ []

-- Law: `AreComparisons` holds for every telemetry packet.
abbrev pub ProbesAreComparisons : Type 0
ProbesAreComparisons = (mid : ℕ) (terms : List Term) → AreComparisons mid terms

-- For the watchpoints of a table there are at most eight probes, at least one if there is a watchpoint, exactly one if the id is
-- watched.
pub record AreFewProbes (mid : ℕ) (terms : List Term) : Type 0 where
  pub few : length terms ≤ table_entries → probes_for mid (watched_ids terms) ≤ 8
  pub some : terms ≢ [] → 1 ≤ probes_for mid (watched_ids terms)
  pub one : IsTrue (list_any (◌==◌ mid) (watched_ids terms)) → probes_for mid (watched_ids terms) ≡ 1
  pub none : terms ≡ [] → probes_for mid (watched_ids terms) ≡ 0

-- Law: `AreFewProbes` holds for every telemetry packet.
abbrev pub ProbesAreFew : Type 0
ProbesAreFew = (mid : ℕ) (terms : List Term) → AreFewProbes mid terms
