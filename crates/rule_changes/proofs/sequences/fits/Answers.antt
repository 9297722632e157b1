use Rattle.std.proofs.Common.{arith, rules}
use Rattle.lc_model.specs.Rule.{rules_of}
use Rattle.rule_changes.specs.Sequences.{is_sequence}
use Rattle.rule_changes.proofs.Fitting.{all_fit, one_more_fits}
use Rattle.rule_changes.proofs.sequences.fits.Goals as goal

pub loop-number-preserved : goal.loop-number-preserved
loop-number-preserved c =
    one_more_fits c.args.claim (is_sequence c.args.sequence) (rules_of c.args.old.now) (rules_of c.args.new.now) c.loop-number.number
    c.loop-number.invariant (c.fit_at.ensures (search rules))

pub returns : goal.returns
returns c = λ is.
    all_fit c.args.claim c.args.sequence c.args.old.now c.args.new.now c.loop-number.number (omega (arith, c.loop-number-test.false, c.max-number-end.ensures))
    (omega (arith, c.loop-number-test.false, c.max-number-end.ensures)) c.loop-number.invariant
