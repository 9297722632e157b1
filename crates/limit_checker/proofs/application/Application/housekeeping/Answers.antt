use Rattle.std.proofs.Common.{◌∙◌, ap, [], ◌∷◌}
use Rattle.lc_model.specs.declared.rule.EventKind.TheVariants.{Error}
use Rattle.lc_model.specs.Command.{refusal_number}
use Rattle.lc_model.specs.Events.Request.{Event, lc_command_refused}
use Rattle.lc_model.specs.Name.{lc_name}
use Rattle.limit_checker.proofs.Answering.{told_by_name}
use Rattle.limit_checker.proofs.Attending.{attended_there, may_renew_there, refused_there, sends_still}
use Rattle.lc_model.proofs.Services.TableNames.{changing_tables, tables_are_found}
use Rattle.lc_model.proofs.Services.TableServiceLaws.{changes_stay_sound}
use Rattle.limit_checker.proofs.application.Application.housekeeping.Goals as goal

pub renew-renewal-requires : goal.renew-renewal-requires
renew-renewal-requires c =
    may_renew_there c.args.self.now.seat c.unwrap-seat.result c.args.self.now.engine c.args.services.now tables_are_found c.unwrap-seat.ensures c.requires.home c.is_service.ensures

pub report-requires-clause-sends : goal.report-requires-clause-sends
report-requires-clause-sends c =
    sends_still c.args.self.now.seat c.args.self.now.engine c.renew-renewal.new.engine c.renew-renewal.result c.args.services.now c.renew-renewal.new.services c.unwrap-seat.result c.unwrap-seat.ensures
    c.requires.home c.renew-renewal.ensures

pub returns-in-Ok-clause-answers : goal.returns-in-Ok-clause-answers
returns-in-Ok-clause-answers c =
    attended_there c.args.self.now.seat c.unwrap-seat.result c.args.self.now.engine c.renew-renewal.new.engine c.args.packet.now c.renew-renewal.result c.args.services.now c.renew-renewal.new.services
    c.report.new.services changing_tables changes_stay_sound tables_are_found c.unwrap-seat.ensures c.requires.home c.requires.given
    c.is_service.ensures c.requires.kind c.in-Ok.ensures c.renew-renewal.ensures c.report.ensures.told c.report.ensures.size

pub returns-in-Err-clause-answers : goal.returns-in-Err-clause-answers
returns-in-Err-clause-answers c =
    refused_there c.args.self.now.seat c.args.self.now.engine c.args.packet.now c.args.services.now c.tell.new.services (refusal_number c.in-Err.refusal ∷ []) (Event lc_name 9 Error c.as_bytes.result.now)
    c.seats_are_kept_by_the_rules.ensures.telling_answers c.seats_are_kept_by_the_rules.ensures.telling_leaves c.seats_are_kept_by_the_rules.ensures.telling_settles
    c.requires.home c.requires.given c.requires.kind c.in-Err.ensures
    (ap (Event lc_name 9 Error) c.as_bytes.ensures.bytes ∙ c.command_refused-text.ensures ∙ ap (λ number. lc_command_refused (number ∷ [])) (c.from.ensures ∙ c.code.ensures))
    (told_by_name c.seats_are_kept_by_the_rules.ensures.telling_is_by_name c.args.self.now.seat c.args.self.now.engine (λ name. Event name 9 Error c.as_bytes.result.now ∷ []) c.args.services.now c.tell.new.services c.requires.home c.tell.ensures.told)
    c.tell.ensures.size
