-- A rule's point after a sample with a known result.
use Rattle.std.specs.Prelude.{ℕ, Bool, not, ◌&&◌, nat_lt, List, Option, Some}
use Rattle.lc_model.specs.declared.mode.LcMode.{LcMode}
use Rattle.lc_model.specs.declared.mode.ApResult.{ApResult}
use Rattle.lc_model.specs.declared.mode.ApResult.TheVariants.{Fail}
use Rattle.lc_model.specs.LimitChecker.Past.{is_result}
use Rattle.lc_model.specs.Rule.{Actionpoint}
use Rattle.lc_model.specs.Events.Request.{Request}
use Rattle.lc_model.specs.LimitChecker.Steps.{Point}
use Rattle.lc_model.specs.LimitChecker.Reaction.{Reaction}
use Rattle.lc_model.specs.Kept.Summary.{Tally}
use Rattle.lc_model.specs.Kept.Next.{by_counts, is_last}

-- The point of rule `n` after a sample with this result, and the requests and events.
abbrev pub point_with : Actionpoint → ℕ → LcMode → ApResult → Point Tally → Point Tally × List Request
point_with rule n mode outcome point =
    let after : Tally × Reaction = by_counts.sampled rule n mode outcome point.state point.past in
    (record { state = after.1.state; past = after.0 }, after.1.requests)

-- Whether a sample requests nothing and changes only the run and the last result: neither this result nor the last one is a
-- failure.
abbrev pub is_quiet : ℕ → ApResult → Option ApResult → Bool
is_quiet fails outcome last = nat_lt 0 fails && not (is_result Fail outcome) && not (is_last Fail last)

-- The point after such a sample.
abbrev pub noted : ApResult → Point Tally → Point Tally
noted outcome point = record { state = point.state; past = record point.past { last = Some outcome; run = 0 } }
