-- What a sample of a rule requests.
use Rattle.std.proofs.Common.{◌≡◌, refl, sym, ◌∙◌, ap, ℕ, Bool, true, false, true≢false, nat_le, if◌then◌else◌, [], ◌++◌, Option, None}
use Rattle.lc_model.specs.declared.mode.LcMode.{LcMode}
use Rattle.lc_model.specs.declared.mode.ApMode.{ApMode}
use Rattle.lc_model.specs.declared.mode.ApResult.{ApResult}
use Rattle.lc_model.specs.Rule.{Actionpoint}
use Rattle.lc_model.specs.LimitChecker.Steps.{Point}
use Rattle.lc_model.specs.LimitChecker.Reaction.{Reaction}
use Rattle.lc_model.specs.Kept.Summary.{Tally}
use Rattle.lc_model.specs.Kept.Next.{tally_after, next_on_failure, next_turn_reports}
use Rattle.limit_engine.specs.declared.reaction.Turn.{Turn}
use Rattle.limit_engine.specs.declared.reaction.Failure.{Failure}
use Rattle.limit_engine.specs.Reactions.{turn_requests, failure_requests, requests_of}
use Rattle.limit_engine.specs.Sampling.{point_with}

module _ (rule : Actionpoint) (n : ℕ) (m : LcMode) (outcome : ApResult) (old : Point Tally) (turn : Option Turn) (tally : Tally)
    (tally_is : tally ≡ tally_after rule.fails outcome old.state old.past)
    (turn_is : turn_requests n turn ≡ next_turn_reports rule n old.past.last outcome tally) where
  abbrev after : Tally
  after = tally_after rule.fails outcome old.state old.past

  turns : turn_requests n turn ≡ next_turn_reports rule n old.past.last outcome after
  turns = turn_is ∙ ap (next_turn_reports rule n old.past.last outcome) tally_is

  not_enough_is : (b : Bool) → b ≡ false → (failure : Reaction) → [] ≡ (if b then failure else record { requests = []; state = old.state }).requests
  not_enough_is true is failure = absurd (true≢false is)
  not_enough_is false is failure = refl

  enough_is : (b : Bool) → b ≡ true → (failure : Reaction) → failure.requests ≡ (if b then failure else record { requests = []; state = old.state }).requests
  enough_is true is failure = refl
  enough_is false is failure = absurd (true≢false (sym is))

  -- too few failures in a row
  pub reacted_not : nat_le rule.fails after.run ≡ false → requests_of rule n (record { turn = turn; failure = None }) ≡ (point_with rule n m outcome old).1
  reacted_not few = λ i. turns i ++ not_enough_is (nat_le rule.fails after.run) few (next_on_failure rule n m old.state after) i

  -- enough
  pub reacted_enough : (failure : Option Failure) (s : ApMode) → s ≡ old.state → nat_le rule.fails after.run ≡ true →
      failure_requests rule n failure ≡ (next_on_failure rule n m s tally).requests →
      requests_of rule n (record { turn = turn; failure = failure }) ≡ (point_with rule n m outcome old).1
  reacted_enough failure s s_is many is = λ i.
      turns i
      ++ (is ∙ (λ j. (next_on_failure rule n m (s_is j) (tally_is j)).requests)
      ∙ enough_is (nat_le rule.fails after.run) many (next_on_failure rule n m old.state after)) i
