use Rattle.std.proofs.Common.{◌≡◌, ◌≤◌, ◌*◌, ℕ, List, length, map, vec_len, vec_capacity}
use Rattle.lc_model.specs.declared.field.Term.{Term}
use Rattle.lc_model.specs.Kept.Summary.{WatchResult}
use Rattle.limit_engine.specs.Entry.{rule_in}
use Rattle.limit_engine.specs.Reactions.{requests_in, AreInOrder}
use Rattle.limit_engine.specs.Tables.{AreFound}
use Rattle.limit_engine.proofs.SampledRules.{SampledBelow}
use Rattle.limit_engine.proofs.sampling.sample_rules.Given as goal

abbrev pub invariant-loop-rule : goal.invariant-loop-rule
invariant-loop-rule l = record {
  sampled : (terms : List Term) (words : List ℕ) (watch : List WatchResult) → AreFound l.request terms watch l.entries l.initial.points words l.plan →
      SampledBelow l.request terms l.mode watch (map (rule_in terms words) l.entries) l.initial.points l.rule l.points (requests_in (map (rule_in terms words) l.entries) l.asked.items) l.steps;
  long : length l.points ≡ length l.initial.points;
  few : l.steps ≤ 32 * l.rule;
  noted : vec_len l.asked ≤ l.rule;
  within : l.rule ≤ length l.entries;
  order : AreInOrder 0 l.rule l.asked.items;
  capacity : vec_capacity l.asked ≡ vec_capacity l.initial.asked;
}
