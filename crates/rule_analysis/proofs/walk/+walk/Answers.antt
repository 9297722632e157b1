use Rattle.std.proofs.Common.{rules, length, arith, ◌∙◌, subst}
use Rattle.rule_analysis.specs.Open.{left_of}
use Rattle.rule_analysis.specs.Search.{IsWalked}
use Rattle.rule_analysis.specs.Fields.{field_number}
use Rattle.rule_analysis.proofs.OpenLaws.{ready_pushed, walked_on, never_on, extends_on}
use Rattle.rule_analysis.proofs.Tried.{popped_is, tried_more, all_tried}
use Rattle.rule_analysis.proofs.StepLaws.{some_ways, stepped, ended, all_stepped}
use Rattle.rule_analysis.proofs.walk.+walk.Goals as goal

pub returns-in-Known-true-clause-taken : goal.returns-in-Known-true-clause-taken
returns-in-Known-true-clause-taken t c = λ named names.
    ended (field_number c.args.fields.now) named c.args.candidates.now c.args.chosen.now.items c.loop-candidate.chosen.items c.push.new.self.items
    c.deref-candidate-items.result.now c.index-candidates-field.result c.len-field.result _ c.loop-candidate.candidate-index c.args.steps.now c.loop-candidate.steps
    c.loop-candidate.steps (c.requires.few named names) (search rules) (search rules) c.index-candidates-field.is c.deref-candidate-items.ensures.value
    c.loop-candidate-test.true c.loop-candidate.invariant.tried.same c.in_ok-push-in-Known-true.ensures.items (c.loop-candidate.invariant.taken named names)
    (some_ways (field_number c.args.fields.now) named (length c.push.new.self.items) c.loop-candidate.steps)

pub walk-requires : goal.walk-requires
walk-requires t c = (
  search rules,
  (
    ready_pushed (field_number c.args.fields.now) c.args.terms.now c.len-field.result (length c.args.candidates.now) c.args.left.now _
        c.in_ok-left_with.field-0 c.in_ok-left_with.ensures c.in-Open.rest c.in-Open.is c.args.chosen.now.items c.loop-candidate.chosen.items
        c.push-in-Open.new.self.items (search rules) c.loop-candidate.invariant.tried.same c.in_ok-push-in-Open.ensures.items,
    (c.requires.represented, (c.requires.few, c.loop-candidate.invariant.ends)),
  ),
)

pub returns-in_default : goal.returns-in_default
returns-in_default t c = record {
  walked = walked_on (field_number c.args.fields.now) c.args.terms.now c.len-field.result (length c.args.candidates.now) c.args.left.now _
      c.in_ok-left_with.field-0 c.in_ok-left_with.ensures c.in-Open.rest c.in-Open.is c.args.chosen.now.items c.loop-candidate.chosen.items
      c.push-in-Open.new.self.items c.walk.new.chosen.items c.in_ok-other-in-Open.other (search rules) c.loop-candidate.invariant.tried.same
      c.in_ok-push-in-Open.ensures.items c.in_ok-other-in-Open.ensures.extends c.in_default.not-Excluded c.in_ok-other-in-Open.ensures.walked;
  extends = extends_on c.args.chosen.now.items c.loop-candidate.chosen.items c.push-in-Open.new.self.items c.walk.new.chosen.items _
      c.loop-candidate.invariant.tried.same c.in_ok-push-in-Open.ensures.items c.in_ok-other-in-Open.ensures.extends;
  taken = λ named names.
      ended (field_number c.args.fields.now) named c.args.candidates.now c.args.chosen.now.items c.loop-candidate.chosen.items c.push-in-Open.new.self.items
      c.deref-candidate-items.result.now c.index-candidates-field.result c.len-field.result _ c.loop-candidate.candidate-index c.args.steps.now c.loop-candidate.steps
      c.walk.new.steps (c.requires.few named names) (search rules) (search rules) c.index-candidates-field.is c.deref-candidate-items.ensures.value
      c.loop-candidate-test.true c.loop-candidate.invariant.tried.same c.in_ok-push-in-Open.ensures.items (c.loop-candidate.invariant.taken named names)
      (c.in_ok-other-in-Open.ensures.taken named names);
  few = c.in_ok-other-in-Open.ensures.few;
  back = λ e. absurd (c.in_default.not-Excluded e);
  spent = c.in_ok-other-in-Open.ensures.spent;
  ends = c.in_ok-other-in-Open.ensures.ends;
}

pub loop-candidate-preserved : goal.loop-candidate-preserved
loop-candidate-preserved t c =
    let never = subst (IsWalked (field_number c.args.fields.now) (left_of c.in-Open.rest) c.walk.new.chosen.items) c.in-Excluded.is c.in_ok-other-in-Open.ensures.walked in
    let popped = popped_is c.loop-candidate.chosen.items c.walk.new.chosen.items c.pop.new.self.items _ _
    (c.in_ok-other-in-Open.ensures.back c.in-Excluded.is ∙ c.in_ok-push-in-Open.ensures.items) (search rules) c.pop.ensures.rest in
    record {
      tried = tried_more (field_number c.args.fields.now) (left_of c.args.left.now) c.args.chosen.now.items c.loop-candidate.chosen.items
          c.deref-candidate-items.result.now c.loop-candidate.candidate-index c.pop.new.self.items c.loop-candidate.invariant.tried
          (never_on (field_number c.args.fields.now) c.args.terms.now c.len-field.result (length c.args.candidates.now) c.args.left.now _
          c.in_ok-left_with.field-0 c.in_ok-left_with.ensures c.in-Open.rest c.in-Open.is c.args.chosen.now.items (search rules) never) popped;
      taken = λ named names some.
          stepped (field_number c.args.fields.now) named c.args.chosen.now.items c.loop-candidate.chosen.items c.push-in-Open.new.self.items _
          c.loop-candidate.candidate-index (length c.deref-candidate-items.result.now) c.args.steps.now c.loop-candidate.steps c.walk.new.steps
          c.loop-candidate.invariant.tried.same c.in_ok-push-in-Open.ensures.items (c.loop-candidate.invariant.taken named names some)
          (c.in_ok-other-in-Open.ensures.taken named names);
      still = λ none. absurd (omega (arith, none, c.loop-candidate-test.true));
      ends = c.in_ok-keep_in_mind-in-Open.ensures;
    }

pub returns-clause-walked : goal.returns-clause-walked
returns-clause-walked t c =
    all_tried (field_number c.args.fields.now) c.args.terms.now (length c.args.candidates.now) c.args.left.now c.args.candidates.now c.args.chosen.now.items
    c.loop-candidate.chosen.items c.deref-candidate-items.result.now c.index-candidates-field.result c.len-field.result c.loop-candidate.candidate-index
    c.requires.ready c.requires.represented (search rules) (search rules) c.index-candidates-field.is c.deref-candidate-items.ensures.value (omega arith)
    c.loop-candidate.invariant.tried

pub returns-clause-taken : goal.returns-clause-taken
returns-clause-taken t c = λ named names.
    all_stepped (field_number c.args.fields.now) named c.args.candidates.now c.args.chosen.now.items
    c.deref-candidate-items.result.now c.index-candidates-field.result c.len-field.result c.loop-candidate.candidate-index c.args.steps.now c.loop-candidate.steps
    (c.requires.few named names) (search rules) (search rules) c.index-candidates-field.is c.deref-candidate-items.ensures.value
    (omega arith) (c.loop-candidate.invariant.taken named names) c.loop-candidate.invariant.still
