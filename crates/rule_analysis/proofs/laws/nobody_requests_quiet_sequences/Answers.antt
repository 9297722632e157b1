use Rattle.lc_model.specs.Tables.HalvesAndBytes.{as_bytes, as_halves}
use Rattle.rule_analysis.proofs.QuietSteps.{starts_quiet, nobody_requests}
use Rattle.rule_analysis.proofs.laws.nobody_requests_quiet_sequences.Goals as goal

pub returns-clause-start_by_texts : goal.returns-clause-start_by_texts
returns-clause-start_by_texts c = λ layouts. starts_quiet (as_halves layouts)

pub returns-clause-start_by_bytes : goal.returns-clause-start_by_bytes
returns-clause-start_by_bytes c = λ layouts. starts_quiet (as_bytes layouts)

pub returns-clause-texts : goal.returns-clause-texts
returns-clause-texts c = λ layouts. nobody_requests (as_halves layouts)

pub returns-clause-bytes : goal.returns-clause-bytes
returns-clause-bytes c = λ layouts. nobody_requests (as_bytes layouts)
