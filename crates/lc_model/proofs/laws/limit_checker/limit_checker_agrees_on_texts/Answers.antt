use Rattle.lc_model.specs.Tables.HalvesAndBytes.{as_halves}
use Rattle.lc_model.proofs.LimitChecker.StepLaws.{same_packet_step, same_start, stays_settled, starts_settled}
use Rattle.lc_model.proofs.Host.UnheardLaws.{unheard_packet}
use Rattle.lc_model.proofs.laws.limit_checker.limit_checker_agrees_on_texts.Goals as goal

pub returns-clause-packet : goal.returns-clause-packet
returns-clause-packet c layouts = same_packet_step (as_halves layouts)

pub returns-clause-start : goal.returns-clause-start
returns-clause-start c layouts = same_start (as_halves layouts)

pub returns-clause-settled : goal.returns-clause-settled
returns-clause-settled c layouts = stays_settled (as_halves layouts)

pub returns-clause-starts : goal.returns-clause-starts
returns-clause-starts c layouts = starts_settled (as_halves layouts)

pub returns-clause-unheard : goal.returns-clause-unheard
returns-clause-unheard c layouts = unheard_packet (as_halves layouts)
