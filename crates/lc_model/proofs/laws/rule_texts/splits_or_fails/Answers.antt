use Rattle.lc_model.proofs.Texts.HasTokens.{has_tokens}
use Rattle.lc_model.proofs.laws.rule_texts.splits_or_fails.Goals as goal

pub returns : goal.returns
returns c = has_tokens
