use Rattle.std.proofs.Common.{refl, ◌≡◌, ◌∙◌, ap, ap₂, sym, subst, List, [], length, fold, arith}
use Rattle.std.specs.List.{list_any}
use Rattle.lc_model.specs.Packet.{message_id}
use Rattle.lc_model.specs.Kept.Summary.{WatchResult}
use Rattle.lc_model.specs.Kept.Next.{seen_result, results_by}
use Rattle.lc_model.specs.Kept.Effort.{probes_for, watched_ids}
use Rattle.lc_model.proofs.LimitChecker.EffortLaws.{few_probes}
use Rattle.limit_engine.specs.Engine.{after_telemetry, tells_short}
use Rattle.limit_engine.specs.Grouped.{watch_seen, watches_for, lacks_field}
use Rattle.limit_engine.specs.Tables.{AreTables}
use Rattle.limit_engine.proofs.Grouping.{seen_by_group, short_by_group}
use Rattle.limit_engine.proofs.Tables.{results_kept, written_back, length-results_by}
use Rattle.limit_engine.proofs.Whole.{group_within, group_fit, seen_whole, told_short}
use Rattle.limit_engine.proofs.engine.Engine.telemetry.Goals as goal

pub see_group-requires-clause-fit : goal.see_group-requires-clause-fit
see_group-requires-clause-fit c = rw c.find-found.ensures.group (group_fit c.self.inside.watchpoints c.padded_message_id.result c.find-found.ensures.fit)

pub see_group-requires-clause-numbers : goal.see_group-requires-clause-numbers
see_group-requires-clause-numbers c =
    rw (c.find-found.ensures.group, c.as_mut_slice.ensures.value)
    (group_within c.self.inside.watchpoints c.self.inside.watch.items c.padded_message_id.result c.self.invariant.0.found)

pub invariant_of-self-2 : goal.invariant_of-self-2
invariant_of-self-2 c =
    let packet = c.args.packet.now in
    let terms = c.self.inside.watchpoints in
    let watch = c.self.inside.watch.items in
    let tables = c.self.invariant.0 in
    let group : c.find-found.result.group.now ≡ watches_for (message_id packet) 0 terms =
    c.find-found.ensures.group ∙ ap (λ mid. watches_for mid 0 terms) c.padded_message_id.ensures in
    let seen : c.see_group.new.results ≡ results_by (seen_result packet) terms watch =
    c.see_group.ensures.results ∙ ap₂ (fold (watch_seen packet)) c.as_mut_slice.ensures.value group ∙ seen_by_group packet [] watch 0 terms c.find-found.ensures.fit refl tables.found in
    let old : length watch ≡ c.self.inside.watch.len = sym (ap length c.as_mut_slice.ensures.value) ∙ c.as_mut_slice.ensures.len in
    let new : length c.see_group.new.results ≡ c.self.inside.watch.len = ap length seen ∙ length-results_by (seen_result packet) terms watch tables.found ∙ sym tables.found ∙ old in (
      subst (λ (results : List WatchResult). AreTables terms results c.self.inside.entries.items c.self.inside.points.items c.self.inside.words.items)
          (sym (written_back _ _ _ new old ∙ seen))
          (results_kept (seen_result packet) _ _ _ _ _ tables),
      c.self.invariant.1,
      record {
        few_steps = c.self.invariant.2.few_steps;
        few_probes = omega (arith, c.find-found.ensures.probes, few_probes c.padded_message_id.result terms tables.few);
      },
      c.self.invariant.3,
    )

pub returns-clause-after : goal.returns-clause-after
returns-clause-after c =
    let packet = c.args.packet.now in
    let terms = c.self.inside.watchpoints in
    let watch = c.self.inside.watch.items in
    let group : c.find-found.result.group.now ≡ watches_for (message_id packet) 0 terms =
    c.find-found.ensures.group ∙ ap (λ mid. watches_for mid 0 terms) c.padded_message_id.ensures in
    let seen : c.see_group.new.results ≡ results_by (seen_result packet) terms watch =
    c.see_group.ensures.results ∙ ap₂ (fold (watch_seen packet)) c.as_mut_slice.ensures.value group ∙ seen_by_group packet [] watch 0 terms c.find-found.ensures.fit refl c.self.invariant.0.found in
    let tables = c.self.invariant.0 in
    let old : length watch ≡ c.self.inside.watch.len = sym (ap length c.as_mut_slice.ensures.value) ∙ c.as_mut_slice.ensures.len in
    let new : length c.see_group.new.results ≡ c.self.inside.watch.len = ap length seen ∙ length-results_by (seen_result packet) terms watch tables.found ∙ sym tables.found ∙ old in
    let enabled = sym c.is_disabled.ensures ∙ c.if-is_disabled.false in
    seen_whole c.self.inside.mode terms watch c.self.inside.entries.items c.self.inside.points.items c.self.inside.words.items c.self.inside.steps c.self.inside.probes enabled packet _ _ (written_back _ _ _ new old ∙ seen)
    (c.find-found.ensures.probes ∙ ap (λ mid. probes_for mid (watched_ids terms)) c.padded_message_id.ensures)
    ∙ ap (after_telemetry packet) c.self.view_is

pub returns-clause-short : goal.returns-clause-short
returns-clause-short c =
    let packet = c.args.packet.now in
    let terms = c.self.inside.watchpoints in
    let group : c.find-found.result.group.now ≡ watches_for (message_id packet) 0 terms =
    c.find-found.ensures.group ∙ ap (λ mid. watches_for mid 0 terms) c.padded_message_id.ensures in
    let enabled = sym c.is_disabled.ensures ∙ c.if-is_disabled.false in
    c.see_group.ensures.short ∙ ap (list_any (lacks_field packet)) group ∙ short_by_group packet 0 terms
    ∙ told_short c.self.inside.mode terms c.self.inside.watch.items c.self.inside.entries.items c.self.inside.points.items c.self.inside.words.items c.self.inside.steps c.self.inside.probes enabled packet
    ∙ ap (tells_short packet) c.self.view_is
