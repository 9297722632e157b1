use Rattle.std.proofs.Common.{◌≡◌, ◌∙◌, sym, ap, subst, List, length, map, replicate, All, arith}
use Rattle.lc_model.specs.declared.field.Term.{Term}
use Rattle.lc_model.specs.Tables.InForce.{layouts}
use Rattle.lc_model.specs.Tables.Spelled.{spelled_terms, spelled_rules}
use Rattle.lc_model.specs.Kept.Next.{unseen_result}
use Rattle.lc_model.specs.Tables.Image.{own_count}
use Rattle.table_validator.specs.Sound.{adt_layout}
use Rattle.limit_engine.specs.Entry.{rule_in, IsRunnable}
use Rattle.limit_engine.specs.Layout.{entries_below}
use Rattle.limit_engine.specs.Engine.{fresh_point, with_tables}
use Rattle.limit_engine.proofs.Laying.{few_terms}
use Rattle.limit_engine.proofs.Setting.{tables_set, rules_set, points_set}
use Rattle.limit_engine.proofs.Whole.{all_unseen}
use Rattle.limit_engine.proofs.engine.Engine.adopt.Goals as goal

pub lay_out_results-requires : goal.lay_out_results-requires
lay_out_results-requires c =
    let few = few_terms c.args.wdt.now.bytes c.set.ensures.sound in
    omega (arith, few, ap length (c.terms.ensures ∙ c.set.ensures.terms), c.self.invariant.1.for_watch)

pub invariant_of-self : goal.invariant_of-self
invariant_of-self c =
    let room = c.self.invariant.1 in
    let rules = c.lay_out_rules.ensures in
    let watch = c.lay_out_results.ensures.items ∙ ap (λ (terms : List Term). replicate (length terms) unseen_result) (c.terms.ensures ∙ c.set.ensures.terms)
    ∙ all_unseen (spelled_terms c.args.wdt.now.bytes) in
    let tables = tables_set c.args.wdt.now.bytes c.args.adt.now.bytes c.set.ensures.sound rules.sound c.requires.matching in
    let many : c.len.result ≡ length c.set.new.self = omega (arith, c.len.ensures, c.lay_out_results.new.watch.ok, ap length watch, tables.found, ap length c.set.ensures.terms) in (
      rw (c.set.ensures.terms, watch, rules.entries, rules.points, rules.words)
          tables,
      record {
        for_watch = omega (arith, room.for_watch, c.lay_out_results.ensures.capacity);
        for_entries = omega (arith, room.for_entries, rules.entries_capacity);
        for_points = omega (arith, room.for_points, rules.points_capacity);
        for_words = omega (arith, room.for_words, rules.words_capacity);
      },
      c.self.invariant.2,
      rw (sym many, sym c.as_slice-2.ensures.value, sym c.as_slice.ensures.value) c.set-2.ensures,
    )

pub returns : goal.returns
returns c =
    let wdt = c.args.wdt.now.bytes in
    let adt = c.args.adt.now.bytes in
    let laid = c.lay_out_rules.ensures in
    let terms = c.set.ensures.terms in
    let watch = c.lay_out_results.ensures.items ∙ ap (λ (ts : List Term). replicate (length ts) unseen_result) (c.terms.ensures ∙ terms) ∙ all_unseen (spelled_terms wdt) in
    let rules : map (rule_in c.set.new.self c.lay_out_rules.new.words.items) c.lay_out_rules.new.entries.items ≡ spelled_rules layouts wdt adt =
    rw (terms, laid.entries, laid.words) (rules_set wdt adt c.set.ensures.sound laid.sound c.requires.matching) in
    let points : c.lay_out_rules.new.points.items ≡ map fresh_point (spelled_rules layouts wdt adt) =
    laid.points ∙ points_set wdt adt c.set.ensures.sound laid.sound c.requires.matching in
    (λ i. record {
      mode = c.self.inside.mode;
      terms = terms i;
      rules = rules i;
      watch = watch i;
      points = points i;
      effort = record { steps = c.self.inside.steps; probes = c.self.inside.probes };
    })
    ∙ ap (with_tables (spelled_terms wdt) (spelled_rules layouts wdt adt)) c.self.view_is

pub set-requires-2-clause-few : goal.set-requires-2-clause-few
set-requires-2-clause-few c =
    let wdt = c.args.wdt.now.bytes in
    let adt = c.args.adt.now.bytes in
    let tables = tables_set wdt adt c.set.ensures.sound c.lay_out_rules.ensures.sound c.requires.matching in
    let watch = c.lay_out_results.ensures.items ∙ ap (λ (terms : List Term). replicate (length terms) unseen_result) (c.terms.ensures ∙ c.set.ensures.terms) ∙ all_unseen (spelled_terms wdt) in
    let many : c.len.result ≡ length (spelled_terms wdt) = omega (arith, c.len.ensures, c.lay_out_results.new.watch.ok, ap length watch, tables.found) in
    omega (arith, many, tables.few)

pub set-requires-2-clause-few_rules : goal.set-requires-2-clause-few_rules
set-requires-2-clause-few_rules c =
    let wdt = c.args.wdt.now.bytes in
    let adt = c.args.adt.now.bytes in
    let tables = tables_set wdt adt c.set.ensures.sound c.lay_out_rules.ensures.sound c.requires.matching in
    omega (arith, tables.few_rules, ap length (c.as_slice.ensures.value ∙ c.lay_out_rules.ensures.entries))

pub set-requires-2-clause-runnable : goal.set-requires-2-clause-runnable
set-requires-2-clause-runnable c =
    let wdt = c.args.wdt.now.bytes in
    let adt = c.args.adt.now.bytes in
    let tables = tables_set wdt adt c.set.ensures.sound c.lay_out_rules.ensures.sound c.requires.matching in
    let watch = c.lay_out_results.ensures.items ∙ ap (λ (terms : List Term). replicate (length terms) unseen_result) (c.terms.ensures ∙ c.set.ensures.terms) ∙ all_unseen (spelled_terms wdt) in
    let many : c.len.result ≡ length (spelled_terms wdt) = omega (arith, c.len.ensures, c.lay_out_results.new.watch.ok, ap length watch, tables.found) in
    let entries = c.as_slice.ensures.value ∙ c.lay_out_rules.ensures.entries in
    let words = c.as_slice-2.ensures.value ∙ c.lay_out_rules.ensures.words in (
      spelled_terms wdt,
      sym many,
      subst (All (IsRunnable (spelled_terms wdt) c.as_slice-2.result.now)) (sym entries)
          (subst (λ ws. All (IsRunnable (spelled_terms wdt) ws) (entries_below (adt_layout adt) adt (own_count adt))) (sym words) tables.runnable),
    )
