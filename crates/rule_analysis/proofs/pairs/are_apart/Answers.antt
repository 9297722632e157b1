use Rattle.std.proofs.Common.{◌≡◌, None, Some, false, true, subst}
use Rattle.std.specs.Prelude.{IfOk}
use Rattle.rule_analysis.specs.Judgement.{HoldsForSome, NeverFails}
use Rattle.rule_analysis.specs.Findings.{least_pair_steps}
use Rattle.rule_analysis.specs.Steps.{AreFewByNames}
use Rattle.rule_analysis.proofs.pairs.are_apart.Goals as goal

pub returns : goal.returns
returns c = record {
  some = subst (λ apart. IfOk c.ask.result (λ some. some ≡ Some true → HoldsForSome apart)) c.in_ok-apart.ensures c.ask.ensures.some;
  never = subst (λ apart. IfOk c.ask.result (λ some. some ≡ Some false → NeverFails apart)) c.in_ok-apart.ensures c.ask.ensures.never;
  none = subst (λ apart. IfOk c.ask.result (λ some. some ≡ None → AreFewByNames apart least_pair_steps)) c.in_ok-apart.ensures c.ask.ensures.none;
}
