use Rattle.std.proofs.Common.{◌≡◌, refl}
use Rattle.lc_model.specs.declared.field.Term.{Term}
use Rattle.rule_analysis.specs.declared.finding.ComparisonJudgement.{ComparisonJudgement}
use Rattle.rule_analysis.specs.Findings.{IsConstancy}
use Rattle.rule_analysis.proofs.Each.{one_pair_more, all_pairs}
use Rattle.rule_analysis.proofs.judging.comparisons.Goals as goal

abbrev IsJudged : Term → ComparisonJudgement → Type 0
IsJudged t j = (j.term ≡ t) × IsConstancy t j.says

pub loop-term-preserved : goal.loop-term-preserved
loop-term-preserved c =
    one_pair_more IsJudged c.args.terms.now c.loop-term.term-index _ c.loop-term.judged.items c.push.new.self.items _ c.loop-term-test.true c.loop-term.invariant
    (refl, c.in_ok-says.ensures) c.in_ok-push.ensures.items

pub returns : goal.returns
returns c =
    all_pairs IsJudged c.args.terms.now c.loop-term.term-index c.loop-term.judged.items c.loop-term-test.false c.loop-term.invariant
