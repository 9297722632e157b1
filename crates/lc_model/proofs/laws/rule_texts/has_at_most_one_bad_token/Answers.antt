use Rattle.lc_model.proofs.Texts.OneBadToken.{one_bad_token, splits_has_no_bad_token}
use Rattle.lc_model.proofs.laws.rule_texts.has_at_most_one_bad_token.Goals as goal

pub returns : goal.returns
returns c = λ text. record {
  one_bad_token = λ code at other place. one_bad_token text code at other place;
  not_both = splits_has_no_bad_token text;
}
