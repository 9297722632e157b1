use Rattle.std.proofs.Common.{sym, ◌∙◌, ap, [], ◌∷◌}
use Rattle.lc_model.specs.declared.rule.EventKind.TheVariants.{Information, Error}
use Rattle.lc_model.specs.Name.{lc_name}
use Rattle.lc_model.specs.Events.Request.{Event, lc_command_done, lc_command_refused}
use Rattle.limit_checker.specs.Commands.{answered, refusal_number}
use Rattle.limit_checker.proofs.Answering.{told_by_name}
use Rattle.limit_checker.proofs.Commanding.{command_done, command_refused}
use Rattle.limit_checker.proofs.application.Application.command.Goals as goal

pub returns-in-Ok-clause-answers : goal.returns-in-Ok-clause-answers
returns-in-Ok-clause-answers c =
    command_done c.args.self.now.seat c.args.self.now.engine c.obey.new.engine c.args.packet.now c.args.services.now c.tell.new.services (Event lc_name 8 Information c.as_bytes.result.now)
    c.seats_are_kept_by_the_rules.ensures.telling_answers c.seats_are_kept_by_the_rules.ensures.telling_leaves c.seats_are_kept_by_the_rules.ensures.telling_settles
    c.requires.home c.requires.given c.requires.kind c.obey.ensures.after
    (told_by_name c.seats_are_kept_by_the_rules.ensures.telling_is_by_name c.args.self.now.seat c.args.self.now.engine (λ name. Event name 8 Information c.as_bytes.result.now ∷ []) c.args.services.now c.tell.new.services c.requires.home c.tell.ensures.told)
    c.tell.ensures.size (sym (ap answered c.in-Ok.is) ∙ c.obey.ensures.answer)
    (ap (Event lc_name 8 Information) c.as_bytes.ensures.bytes ∙ c.command_done-text.ensures ∙ ap lc_command_done c.function_code.ensures)

pub returns-in-Err-clause-answers : goal.returns-in-Err-clause-answers
returns-in-Err-clause-answers c =
    command_refused c.args.self.now.seat c.args.self.now.engine c.obey.new.engine c.args.packet.now c.args.services.now c.tell-in-Err.new.services (Event lc_name 9 Error c.as_bytes-in-Err.result.now)
    c.seats_are_kept_by_the_rules.ensures.telling_answers c.seats_are_kept_by_the_rules.ensures.telling_leaves c.seats_are_kept_by_the_rules.ensures.telling_settles
    c.requires.home c.requires.given c.requires.kind c.obey.ensures.after
    (told_by_name c.seats_are_kept_by_the_rules.ensures.telling_is_by_name c.args.self.now.seat c.args.self.now.engine (λ name. Event name 9 Error c.as_bytes-in-Err.result.now ∷ []) c.args.services.now c.tell-in-Err.new.services c.requires.home c.tell-in-Err.ensures.told)
    c.tell-in-Err.ensures.size (refusal_number c.in-Err.refused ∷ []) (sym (ap answered c.in-Err.is) ∙ c.obey.ensures.answer)
    (ap (Event lc_name 9 Error) c.as_bytes-in-Err.ensures.bytes ∙ c.command_refused-text.ensures ∙ ap (λ number. lc_command_refused (number ∷ [])) (c.from.ensures ∙ c.code.ensures))
