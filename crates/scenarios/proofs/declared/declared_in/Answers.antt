use Rattle.std.proofs.Common.{◌∙◌, List, sym, subst, ap, map, arith}
use Rattle.std.proofs.lemmas.List.{drop_all}
use Rattle.rpn_compiler.specs.declared.rule_text.RuleText.{RuleText}
use Rattle.rpn_compiler.specs.TextParts.{items_in}
use Rattle.scenarios.specs.Declarations.{AreDeclared, nothing_declared}
use Rattle.scenarios.proofs.TextsDeclare.{all_declared, are_declared}
use Rattle.scenarios.proofs.declared.declared_in.Goals as goal

pub returns : goal.returns
returns c sources are =
    let none = drop_all c.loop-number.number c.args.texts.now (omega (arith, c.loop-number-test.false)) in
    subst (AreDeclared sources nothing_declared)
    (sym c.loop-number.invariant ∙ ap (λ (left : List RuleText). all_declared c.loop-number.number (map items_in left) c.loop-number.declared) none)
    (are_declared 0 sources c.args.texts.now nothing_declared are)
