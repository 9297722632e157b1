use Rattle.std.proofs.Common.{sym, ◌∙◌, arith, refl}
use Rattle.rule_changes.proofs.Numbers.{number_here, number_on, number_none}
use Rattle.rule_changes.proofs.known.known_number.Goals as goal

pub returns-then-are_known_alike-clause-exact : goal.returns-then-are_known_alike-clause-exact
returns-then-are_known_alike-clause-exact c =
    number_here c.args.terms.now c.args.term.now c.loop-i.i _ _ c.loop-i-test.true refl (sym c.are_known_alike.ensures ∙ c.if-are_known_alike.true)
    c.loop-i.invariant

pub loop-i-preserved : goal.loop-i-preserved
loop-i-preserved c =
    number_on c.args.terms.now c.args.term.now c.loop-i.i _ _ c.loop-i-test.true refl (sym c.are_known_alike.ensures ∙ c.if-are_known_alike.false)
    c.loop-i.invariant

pub returns-clause-exact : goal.returns-clause-exact
returns-clause-exact c = number_none c.args.terms.now c.args.term.now c.loop-i.i c.loop-i-test.false (omega arith) c.loop-i.invariant
