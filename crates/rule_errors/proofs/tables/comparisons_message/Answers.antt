use Rattle.std.proofs.Common.{◌∙◌, ap, Some}
use Rattle.rule_errors.proofs.tables.comparisons_message.Goals as goal

pub returns : goal.returns
returns c = (c.at.ensures.0, (c.in_ok-found.found.at, c.at.ensures.1 ∙ ap Some c.comparison_mark.ensures, c.in_ok-found.ensures))
