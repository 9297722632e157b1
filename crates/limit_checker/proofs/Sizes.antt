-- How many bytes a sample asks for at most.
use Rattle.std.proofs.Common.{◌≡◌, ℕ, ◌+◌, ◌*◌, ◌≤◌, Bool, true, false, ◌&&◌, List, [], ◌∷◌, ◌++◌, length, arith, Option, if◌then◌else◌}
use Rattle.std.specs.Prelude.{nat_le}
use Rattle.lc_model.specs.declared.field.Term.{Term}
use Rattle.lc_model.specs.declared.mode.LcMode.{LcMode}
use Rattle.lc_model.specs.declared.mode.LcMode.TheVariants as mode
use Rattle.lc_model.specs.declared.mode.ApMode.{ApMode}
use Rattle.lc_model.specs.declared.mode.ApMode.TheVariants as state
use Rattle.lc_model.specs.declared.mode.ApResult.{ApResult}
use Rattle.lc_model.specs.declared.mode.ApResult.TheVariants.{Pass, Fail}
use Rattle.lc_model.specs.declared.command.SampleRequest.{SampleRequest}
use Rattle.lc_model.specs.Command.{takes}
use Rattle.lc_model.specs.Events.Request.{Request, failed_passive, turned_to_fail, turned_to_pass}
use Rattle.lc_model.specs.LimitChecker.Past.{is_result}
use Rattle.lc_model.specs.LimitChecker.Reaction.{failure_requests}
use Rattle.lc_model.specs.LimitChecker.Steps.{Point, is_disabled, is_sampled, sampled_point, sampled_points}
use Rattle.lc_model.specs.Rule.{Actionpoint}
use Rattle.lc_model.specs.Kept.Summary.{LcOwn, Tally, WatchResult}
use Rattle.lc_model.specs.Kept.Next.{by_counts, is_last, tally_after, next_turn_reports, next_on_failure, next_reaction}
use Rattle.limit_engine.specs.Engine.{points_sampled}
use Rattle.limit_checker.specs.Sending.{sizes}

pub both : (xs ys : List Request) → sizes (xs ++ ys) ≡ sizes xs + sizes ys
both [] ys = omega arith
both (x ∷ xs) ys = let later : sizes (xs ++ ys) ≡ sizes xs + sizes ys = both xs ys in omega (arith, later)

either : (most : ℕ) (test : Bool) (xs ys : List Request) → sizes xs ≤ most → sizes ys ≤ most → sizes (if test then xs else ys) ≤ most
either most true xs ys few other = few
either most false xs ys few other = other

turns_few : (rule : Actionpoint) (point : ℕ) (last : Option ApResult) (result : ApResult) (now : Tally) → sizes (next_turn_reports rule point last result now) ≤ 168
turns_few rule point last result now =
    either 168 (is_last Pass last && is_result Fail result && nat_le now.to_fail rule.report.pass_to_fail) (turned_to_fail point ∷ []) _ (omega arith)
    (either 168 (is_last Fail last && is_result Pass result && nat_le now.to_pass rule.report.fail_to_pass) (turned_to_pass point ∷ []) [] (omega arith) (omega arith))

failures_few : (rule : Actionpoint) (point : ℕ) (lc : LcMode) (run : ℕ) → sizes (failure_requests rule point lc run) ≤ 180
failures_few rule point mode.Active run = omega arith
failures_few rule point mode.Passive run = omega arith
failures_few rule point mode.Disabled run = omega arith

on_failure_few : (rule : Actionpoint) (point : ℕ) (lc : LcMode) (s : ApMode) (now : Tally) → sizes (next_on_failure rule point lc s now).requests ≤ 180
on_failure_few rule point lc state.Active now = failures_few rule point lc now.run
on_failure_few rule point lc state.Passive now = either 180 (nat_le now.quiet rule.report.passive) (failed_passive point ∷ []) [] (omega arith) (omega arith)
on_failure_few rule point lc state.Disabled now = omega arith
on_failure_few rule point lc state.PermOff now = omega arith

reaction_few : (rule : Actionpoint) (point : ℕ) (lc : LcMode) (last : Option ApResult) (result : ApResult) (s : ApMode) (now : Tally) →
    sizes (next_reaction rule point lc last result s now).requests ≤ 348
reaction_few rule point lc last result s now = by_test (nat_le rule.fails now.run)
  where
    by_test : (enough : Bool) →
        sizes (next_turn_reports rule point last result now ++ (let failure = if enough then next_on_failure rule point lc s now else record { requests = []; state = s } in failure.requests)) ≤ 348
    by_test true =
        let turns = turns_few rule point last result now in
        let failures = on_failure_few rule point lc s now in
        let sum = both (next_turn_reports rule point last result now) (next_on_failure rule point lc s now).requests in
        omega (arith, turns, failures, sum)
    by_test false =
        let turns = turns_few rule point last result now in
        let sum = both (next_turn_reports rule point last result now) [] in
        omega (arith, turns, sum)

module _ (request : SampleRequest) (terms : List Term) (lc : LcMode) (watch : List WatchResult) where
  points_few : (n : ℕ) (rules : List Actionpoint) (points : List (Point Tally)) → sizes (sampled_points by_counts request terms lc watch n rules points).1 ≤ length rules * 348
  points_few n [] points = omega arith
  points_few n (rule ∷ rules) [] = omega arith
  points_few n (rule ∷ rules) (point ∷ points) = by_test (takes request n && is_sampled point.state) (points_few (n + 1) rules points)
    where
      by_test : (sampled : Bool) → sizes (sampled_points by_counts request terms lc watch (n + 1) rules points).1 ≤ length rules * 348 →
          sizes ((let here : Point Tally × List Request = if sampled then sampled_point by_counts terms lc watch n rule point else (point, []) in here.1)
          ++ (sampled_points by_counts request terms lc watch (n + 1) rules points).1) ≤ length (rule ∷ rules) * 348
      by_test true later =
          let result = by_counts.result terms watch rule.condition in
          let now = tally_after rule.fails result point.state point.past in
          let here = reaction_few rule n lc point.past.last result point.state now in
          let sum = both (next_reaction rule n lc point.past.last result point.state now).requests (sampled_points by_counts request terms lc watch (n + 1) rules points).1 in
          omega (arith, here, later, sum)
      by_test false later = omega (arith, later)

pub sample_few : (request : SampleRequest) (own : LcOwn) → length own.rules ≤ 176 → sizes (points_sampled request own).1 ≤ 61248
sample_few request own few = by_test (is_disabled own.mode)
  where
    by_test : (off : Bool) → sizes (let after : List (Point Tally) × List Request = if off then (own.points, []) else sampled_points by_counts request own.terms own.mode own.watch 0 own.rules own.points in after.1) ≤ 61248
    by_test true = omega arith
    by_test false = let all = points_few request own.terms own.mode own.watch 0 own.rules own.points in omega (arith, all, few)
