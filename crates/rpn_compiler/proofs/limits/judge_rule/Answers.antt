use Rattle.std.proofs.Common.{refl, arith}
use Rattle.lc_model.specs.Rule.{rule_of}
use Rattle.lc_model.specs.Text.Reading.{ForRule}
use Rattle.rpn_compiler.proofs.Judging.{too_long, fits}
use Rattle.rpn_compiler.proofs.limits.judge_rule.Goals as goal

pub returns-then-size-ge-EQUATION_WORDS-clause-judged : goal.returns-then-size-ge-EQUATION_WORDS-clause-judged
returns-then-size-ge-EQUATION_WORDS-clause-judged c =
    (ForRule 42 c.args.number, refl, too_long c.args.number (rule_of c.args.rule.now) (omega (arith, c.if-size-ge-EQUATION_WORDS.true, c.size.ensures)))

pub returns-clause-judged : goal.returns-clause-judged
returns-clause-judged c = fits c.args.number (rule_of c.args.rule.now) (omega (arith, c.if-size-ge-EQUATION_WORDS.false, c.size.ensures))
