use Rattle.std.proofs.Common.{subst, sym, ◌∙◌, ap}
use Rattle.std.specs.List.{AllZip}
use Rattle.lc_model.specs.Rule.{actions, rules_of}
use Rattle.lc_model.specs.Laws.Tables.{IsReworded}
use Rattle.rule_changes.specs.RuleChanges.{mentions_of}
use Rattle.rule_changes.proofs.Reworded.{they_say_the_same, reached_if_one}
use Rattle.rule_changes.proofs.rewording.say_the_same.Goals as goal

pub returns-clause-same : goal.returns-clause-same
returns-clause-same c = λ is.
    they_say_the_same c.args.old.now c.args.new.now c.as_slice-terms.result.now c.as_slice-others.result.now
    (subst (λ xs. AllZip IsReworded (actions xs) (actions c.args.new.now)) c.as_slice-old.ensures
    (subst (λ ys. AllZip IsReworded (actions (rules_of c.as_slice-old.result.now)) (actions ys)) c.as_slice-new.ensures
    (c.are_reworded.ensures.reworded c.if-not-are_reworded.false)))
    (c.as_slice-terms.ensures.value ∙ c.in_ok-terms.ensures ∙ ap mentions_of c.as_slice-old.ensures)
    (c.as_slice-others.ensures.value ∙ c.in_ok-others.ensures ∙ ap mentions_of c.as_slice-new.ensures) (c.are_reached.ensures.only c.if-not-are_reached.false)
    (c.are_reached-2.ensures.only is)

pub returns-then-not-are_reached-clause-itself : goal.returns-then-not-are_reached-clause-itself
returns-then-not-are_reached-clause-itself c = λ same.
    sym c.if-not-are_reached.true
    ∙ c.are_reached.ensures.all
    (reached_if_one c.as_slice-terms.result.now c.as_slice-others.result.now
    (c.as_slice-terms.ensures.value ∙ c.in_ok-terms.ensures ∙ ap mentions_of (c.as_slice-old.ensures ∙ same ∙ sym c.as_slice-new.ensures)
    ∙ sym c.in_ok-others.ensures ∙ sym c.as_slice-others.ensures.value))

pub returns-clause-itself : goal.returns-clause-itself
returns-clause-itself c = λ same.
    c.are_reached-2.ensures.all
    (reached_if_one c.as_slice-others.result.now c.as_slice-terms.result.now
    (c.as_slice-others.ensures.value ∙ c.in_ok-others.ensures ∙ ap mentions_of (c.as_slice-new.ensures ∙ sym same ∙ sym c.as_slice-old.ensures)
    ∙ sym c.in_ok-terms.ensures ∙ sym c.as_slice-terms.ensures.value))
