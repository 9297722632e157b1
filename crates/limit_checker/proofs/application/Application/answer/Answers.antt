use Rattle.limit_checker.proofs.Dispatching.{not_answered}
use Rattle.limit_checker.proofs.application.Application.answer.Goals as goal

pub returns-else-mid-eq-SAMPLE-clause-answers : goal.returns-else-mid-eq-SAMPLE-clause-answers
returns-else-mid-eq-SAMPLE-clause-answers c =
    not_answered c.args.self.now.seat c.args.self.now.engine c.args.packet.now c.args.services.now c.message_id-mid.result
    c.seats_are_kept_by_the_rules.ensures.telling_answers c.seats_are_kept_by_the_rules.ensures.telling_leaves c.seats_are_kept_by_the_rules.ensures.telling_settles
    c.telling_goes_on.ensures.nothing c.requires.home c.requires.given c.message_id-mid.ensures c.if-mid-eq-LC_COMMAND.false c.if-mid-eq-LC_HOUSEKEEPING_REQUEST.false c.if-mid-eq-SAMPLE.false
    c.if-is_telemetry.ensures
