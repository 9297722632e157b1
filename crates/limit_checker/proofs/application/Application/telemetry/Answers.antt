use Rattle.std.proofs.Common.{sym, ◌∙◌, ap, [], ◌∷◌}
use Rattle.lc_model.specs.declared.rule.EventKind.TheVariants.{Error}
use Rattle.lc_model.specs.Name.{lc_name}
use Rattle.lc_model.specs.Events.Request.{Event, short_packet}
use Rattle.limit_checker.proofs.Answering.{told_by_name}
use Rattle.limit_checker.proofs.Commanding.{telemetry_short, telemetry_long}
use Rattle.limit_checker.proofs.application.Application.telemetry.Goals as goal

pub returns-then-telemetry-clause-answers : goal.returns-then-telemetry-clause-answers
returns-then-telemetry-clause-answers c =
    telemetry_short c.args.self.now.seat c.args.self.now.engine c.telemetry.new.self c.args.packet.now c.args.services.now c.tell.new.self
    c.seats_are_kept_by_the_rules.ensures.telling_answers c.seats_are_kept_by_the_rules.ensures.telling_leaves c.seats_are_kept_by_the_rules.ensures.telling_settles
    c.requires.home c.requires.given c.requires.kind c.telemetry.ensures.after (sym c.if-telemetry.true ∙ c.telemetry.ensures.short)
    (Event lc_name 7 Error c.as_bytes.result.now) (ap (Event lc_name 7 Error) c.as_bytes.ensures.bytes ∙ c.short_packet-text.ensures ∙ ap short_packet c.message_id.ensures)
    (told_by_name c.seats_are_kept_by_the_rules.ensures.telling_is_by_name c.args.self.now.seat c.args.self.now.engine (λ name. Event name 7 Error c.as_bytes.result.now ∷ []) c.args.services.now c.tell.new.self c.requires.home c.tell.ensures.told)
    c.tell.ensures.size

pub returns-else-telemetry-clause-answers : goal.returns-else-telemetry-clause-answers
returns-else-telemetry-clause-answers c =
    telemetry_long c.args.self.now.seat c.args.self.now.engine c.telemetry.new.self c.args.packet.now c.args.services.now
    c.seats_are_kept_by_the_rules.ensures.telling_answers c.seats_are_kept_by_the_rules.ensures.telling_leaves c.seats_are_kept_by_the_rules.ensures.telling_settles
    c.telling_goes_on.ensures.nothing c.requires.home c.requires.given c.requires.kind c.telemetry.ensures.after (sym c.if-telemetry.false ∙ c.telemetry.ensures.short)
