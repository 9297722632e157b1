-- The calls of the engine, in the counting form of `lc_model`. From the cFS Limit Checker user's guide, watchpoint and
-- actionpoint results.
use Rattle.std.specs.Prelude.{ℕ, Bool, ◌&&◌, not, List, [], map, if◌then◌else◌}
use Rattle.lc_model.specs.declared.field.Term.{Term}
use Rattle.lc_model.specs.declared.mode.LcMode.TheVariants.{Active}
use Rattle.lc_model.specs.declared.command.SampleRequest.{SampleRequest}
use Rattle.lc_model.specs.Packet.{message_id}
use Rattle.lc_model.specs.Rule.{Actionpoint}
use Rattle.lc_model.specs.Events.Request.{Request}
use Rattle.lc_model.specs.LimitChecker.Steps.{Point, is_disabled, is_short, sampled_points}
use Rattle.lc_model.specs.Kept.Summary.{Tally, LcOwn}
use Rattle.lc_model.specs.Kept.Next.{by_counts}
use Rattle.lc_model.specs.Kept.Call.{telemetry_effort}
use Rattle.lc_model.specs.Kept.Effort.{no_effort, sampled_words}

-- An engine in mode active, without tables, with 0 steps and 0 probes.
abbrev pub without_tables : LcOwn
without_tables = record { mode = Active; terms = []; rules = []; watch = []; points = []; effort = no_effort }

-- The actionpoint of a rule in its default state, before its first sample.
abbrev pub fresh_point : Actionpoint → Point Tally
fresh_point rule = record { state = rule.mode; past = by_counts.unsampled }

-- The engine with these watchpoints and rules in force: no packet was seen, and no rule sampled.
abbrev pub with_tables : List Term → List Actionpoint → LcOwn → LcOwn
with_tables terms rules own = record own { terms = terms; rules = rules; watch = by_counts.unseen terms; points = map fresh_point rules }

-- The engine after a telemetry packet; a disabled one stores no result.
abbrev pub after_telemetry : List ℕ → LcOwn → LcOwn
after_telemetry packet own = record own {
  watch = if is_disabled own.mode then own.watch else by_counts.seen own.terms packet own.watch;
  effort = telemetry_effort own (message_id packet);
}

-- Whether the packet is too short for the field of a watchpoint of its message id; false if the engine is disabled.
abbrev pub tells_short : List ℕ → LcOwn → Bool
tells_short packet own = not (is_disabled own.mode) && is_short own.terms packet

-- The actionpoints after a sample of the rules that the request takes, and the requests and events; a disabled engine samples
-- nothing.
abbrev pub points_sampled : SampleRequest → LcOwn → List (Point Tally) × List Request
points_sampled request own =
    if is_disabled own.mode then (own.points, []) else sampled_points by_counts request own.terms own.mode own.watch 0 own.rules own.points

-- The engine after one aging of all watchpoints; a disabled one ages nothing.
abbrev pub aged : LcOwn → LcOwn
aged own = record own { watch = if is_disabled own.mode then own.watch else by_counts.aged own.terms own.watch }

-- The engine with this number of words evaluated.
abbrev pub with_steps : ℕ → LcOwn → LcOwn
with_steps steps own = record own { effort = record { steps = steps; probes = own.effort.probes } }

-- The number of words that a sample evaluates.
abbrev pub words_sampled : SampleRequest → LcOwn → ℕ
words_sampled request own = if is_disabled own.mode then 0 else sampled_words request 0 own.rules own.points

-- The engine after a sample of the rules that the request takes; then all watchpoints age, if the request asks for it.
abbrev pub after_sample : SampleRequest → LcOwn → LcOwn
after_sample request own =
    let sampled : LcOwn = with_steps (words_sampled request own) (record own { points = (points_sampled request own).0 }) in
    if request.ages then aged sampled else sampled
