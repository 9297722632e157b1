use Rattle.std.proofs.Common.{refl, ◌∙◌, sym, ap, ℕ, List, map, length, ◌+◌, ◌++◌, arith}
use Rattle.std.proofs.lemmas.List.{length-set, length-map}
use Rattle.lc_model.specs.LimitChecker.Steps.{Point, is_sampled, sampled_point}
use Rattle.lc_model.specs.Kept.Next.{by_counts}
use Rattle.lc_model.specs.Kept.Summary.{Tally}
use Rattle.lc_model.proofs.Facts.{and_second_false}
use Rattle.lc_model.specs.Kept.Summary.{WatchResult}
use Rattle.lc_model.specs.declared.field.Term.{Term}
use Rattle.limit_engine.specs.Entry.{HasTruth, rule_in}
use Rattle.limit_engine.specs.Reactions.{requests_in}
use Rattle.limit_engine.specs.Tables.{AreFound}
use Rattle.limit_engine.proofs.FoundTruths.{truth_found}
use Rattle.limit_engine.proofs.Noting.{below_more}
use Rattle.limit_engine.proofs.SampledRules.{rule_skipped, rule_sampled, points_sampled_are, requests_sampled_are, there, steps_sampled_are, short_entry, as_many_points, first_point, first_point_at}
use Rattle.limit_engine.proofs.sampling.sample_rules.Goals as goal
use Rattle.limit_engine.proofs.sampling.sample_rules.Goals.{then-takes+then-is_sampled, else-takes, else-takes-via-then-takes+else-is_sampled, else-takes-via-else-takes}

pub loop-rule-preserved : goal.loop-rule-preserved
loop-rule-preserved c =
    let kept = c.loop-rule.invariant in
    let entry = c.index-entries-rule.result in
    elim c.if-takes.branch [
      | then-takes+then-is_sampled w ↦
          let has : (terms : List Term) (words : List ℕ) (watch : List WatchResult) →
          AreFound c.args.request.now terms watch c.args.entries.now c.args.points.now words c.args.plan.now → HasTruth terms words watch entry w.truth-truth.result =
          λ terms words watch found.
          truth_found c.args.request.now terms watch c.args.entries.now c.args.points.now words c.args.plan.now found c.loop-rule.rule entry w.truth-truth.result
          c.loop-rule-test.true c.index-entries-rule.is (sym w.if-takes.ensures) w.truth-truth.ensures in
          record {
            sampled = λ terms words watch found.
                rule_sampled c.args.request.now terms c.args.mode watch c.args.entries.now words c.args.points.now found.tables c.loop-rule.rule c.loop-rule.points
                c.loop-rule.asked.items c.loop-rule.steps (kept.sampled terms words watch found) kept.long c.loop-rule-test.true entry c.index-entries-rule.is
                w.index-points-rule.result w.index-points-rule-then-is_sampled.result w.sample_rule.new.point
                w.index-points-rule.is w.index-points-rule-then-is_sampled.is (sym w.if-takes.ensures) (ap (λ (p : Point Tally). is_sampled p.state) w.index-points-rule.is ∙ sym w.if-is_sampled.ensures)
                (w.sample_rule.ensures.point terms words watch (has terms words watch found)
                ∙ ap (λ (p : Point Tally). (sampled_point by_counts terms c.args.mode watch c.loop-rule.rule (rule_in terms words entry) p).0) (sym w.index-points-rule-then-is_sampled.is))
                c.if-takes.asked.items c.if-takes.points c.if-takes.steps
                (rw w.asked-is (w.sample_rule.ensures.requests terms words watch (map (rule_in terms words) c.args.entries.now) (has terms words watch found)
                (there c.args.request.now terms c.args.mode watch c.args.entries.now words c.args.points.now found.tables c.loop-rule.rule c.loop-rule.points
                c.loop-rule.asked.items c.loop-rule.steps (kept.sampled terms words watch found) kept.long c.loop-rule-test.true entry c.index-entries-rule.is)
                ∙ ap (λ (p : Point Tally). requests_in (map (rule_in terms words) c.args.entries.now) c.loop-rule.asked.items
                ++ (sampled_point by_counts terms c.args.mode watch c.loop-rule.rule (rule_in terms words entry) p).1) (sym w.index-points-rule-then-is_sampled.is)))
                w.points-is w.steps-is;
            long = ap length w.points-is ∙ length-set c.loop-rule.points c.loop-rule.rule w.sample_rule.new.point ∙ kept.long;
            few =
                let short = short_entry c.requires.tables.2 c.args.entries.now c.args.points.now c.requires.tables.1 c.requires.tables.0 c.requires.tables.3.tables c.loop-rule.rule entry c.loop-rule-test.true c.index-entries-rule.is in
                omega (arith, w.steps-is, short, kept.few);
            noted = rw w.asked-is (omega (arith, kept.noted, w.sample_rule.ensures.len));
            within = omega (arith, c.loop-rule-test.true);
            order = rw w.asked-is (w.sample_rule.ensures.order kept.order);
            capacity = rw w.asked-is (w.sample_rule.ensures.capacity ∙ kept.capacity);
          }
      | else-takes w ↦ elim w.else-takes.branch [
        | else-takes-via-then-takes+else-is_sampled w2 ↦
            rw (w.points-is, w.asked-is, w.steps-is)
            (record {
              sampled = λ terms words watch found.
                  rule_skipped c.args.request.now terms c.args.mode watch c.args.entries.now words c.args.points.now found.tables c.loop-rule.rule c.loop-rule.points
                  c.loop-rule.asked.items c.loop-rule.steps (kept.sampled terms words watch found) kept.long c.loop-rule-test.true entry c.index-entries-rule.is
                  w2.index-points-rule.result w2.index-points-rule.is (and_second_false _ _ (ap (λ (p : Point Tally). is_sampled p.state) w2.index-points-rule.is ∙ sym w2.if-is_sampled.ensures));
              long = kept.long;
              few = omega (arith, kept.few);
              noted = omega (arith, kept.noted);
              within = omega (arith, c.loop-rule-test.true);
              order = below_more 0 c.loop-rule.rule (c.loop-rule.rule + 1) c.loop-rule.asked.items (omega arith) kept.order;
              capacity = kept.capacity;
            })
        | else-takes-via-else-takes w2 ↦
            rw (w.points-is, w.asked-is, w.steps-is)
            (record {
              sampled = λ terms words watch found.
                  rule_skipped c.args.request.now terms c.args.mode watch c.args.entries.now words c.args.points.now found.tables c.loop-rule.rule c.loop-rule.points
                  c.loop-rule.asked.items c.loop-rule.steps (kept.sampled terms words watch found) kept.long c.loop-rule-test.true entry c.index-entries-rule.is
                  (first_point c.loop-rule.points c.loop-rule.rule) (first_point_at c.loop-rule.points c.loop-rule.rule (omega (arith, c.loop-rule-test.true, kept.long, found.tables.counted)))
                  (rw (sym w2.if-takes.ensures) refl);
              long = kept.long;
              few = omega (arith, kept.few);
              noted = omega (arith, kept.noted);
              within = omega (arith, c.loop-rule-test.true);
              order = below_more 0 c.loop-rule.rule (c.loop-rule.rule + 1) c.loop-rule.asked.items (omega arith) kept.order;
              capacity = kept.capacity;
            })
      ]
    ]

pub returns-clause-points : goal.returns-clause-points
returns-clause-points c = λ terms words watch found.
    points_sampled_are c.args.request.now terms c.args.mode watch (map (rule_in terms words) c.args.entries.now) c.args.points.now c.loop-rule.rule c.loop-rule.points _ _
    (c.loop-rule.invariant.sampled terms words watch found) (as_many_points terms watch c.args.entries.now c.args.points.now words found.tables c.loop-rule.points c.loop-rule.invariant.long)
    (omega (arith, c.loop-rule-test.false, length-map c.args.entries.now (rule_in terms words)))

pub returns-clause-requests : goal.returns-clause-requests
returns-clause-requests c = λ terms words watch found.
    requests_sampled_are c.args.request.now terms c.args.mode watch (map (rule_in terms words) c.args.entries.now) c.args.points.now c.loop-rule.rule c.loop-rule.points _ _
    (c.loop-rule.invariant.sampled terms words watch found) (as_many_points terms watch c.args.entries.now c.args.points.now words found.tables c.loop-rule.points c.loop-rule.invariant.long)
    (omega (arith, c.loop-rule-test.false, length-map c.args.entries.now (rule_in terms words)))

pub returns-clause-steps : goal.returns-clause-steps
returns-clause-steps c = λ terms words watch found.
    steps_sampled_are c.args.request.now terms c.args.mode watch (map (rule_in terms words) c.args.entries.now) c.args.points.now c.loop-rule.rule c.loop-rule.points _ _
    (c.loop-rule.invariant.sampled terms words watch found) (as_many_points terms watch c.args.entries.now c.args.points.now words found.tables c.loop-rule.points c.loop-rule.invariant.long)
    (omega (arith, c.loop-rule-test.false, length-map c.args.entries.now (rule_in terms words)))

pub returns-clause-order : goal.returns-clause-order
returns-clause-order c =
    below_more 0 c.loop-rule.rule (length c.args.entries.now) c.loop-rule.asked.items c.loop-rule.invariant.within c.loop-rule.invariant.order
