use Rattle.std.proofs.Common.{refl, sym, ◌∙◌, ap, [], ◌∷◌, arith}
use Rattle.lc_model.specs.declared.rule.EventKind.TheVariants.{Error}
use Rattle.lc_model.specs.Name.{lc_name}
use Rattle.lc_model.specs.Command.{answer_of, refusal_number}
use Rattle.lc_model.specs.Events.Request.{Event, lc_command_refused}
use Rattle.limit_engine.specs.Reactions.{requests_in}
use Rattle.limit_checker.proofs.Answering.{told_by_name}
use Rattle.limit_checker.proofs.Requesting.{may_send}
use Rattle.limit_checker.proofs.SampleTaken.{sample_taken_is, sample_refused_is, requested_is, sample_fits, from_there}
use Rattle.limit_checker.proofs.application.Application.sample.Goals as goal

pub returns-in-Err-clause-answers : goal.returns-in-Err-clause-answers
returns-in-Err-clause-answers c =
    sample_refused_is c.args.self.now.seat c.args.self.now.engine c.args.self.now.engine c.args.packet.now c.args.services.now c.tell.new.services
    c.seats_are_kept_by_the_rules.ensures.telling_answers c.seats_are_kept_by_the_rules.ensures.telling_leaves c.seats_are_kept_by_the_rules.ensures.telling_settles
    c.requires.home c.requires.given c.requires.kind (refusal_number c.in-Err.refusal ∷ []) (sym (ap answer_of c.in-Err.is) ∙ c.sample_request.ensures) refl
    (Event lc_name 9 Error c.as_bytes.result.now)
    (ap (Event lc_name 9 Error) c.as_bytes.ensures.bytes ∙ c.command_refused-text.ensures ∙ ap (λ number. lc_command_refused (number ∷ [])) (c.from.ensures ∙ c.code.ensures))
    (told_by_name c.seats_are_kept_by_the_rules.ensures.telling_is_by_name c.args.self.now.seat c.args.self.now.engine (λ name. Event name 9 Error c.as_bytes.result.now ∷ []) c.args.services.now c.tell.new.services c.requires.home c.tell.ensures.told)
    c.tell.ensures.size

pub tell_all-requires-clause-sends : goal.tell_all-requires-clause-sends
tell_all-requires-clause-sends c = may_send c.args.self.now.seat c.args.self.now.engine c.args.services.now c.requires.home

pub tell_all-requires-clause-room : goal.tell_all-requires-clause-room
tell_all-requires-clause-room c =
    sample_fits c.args.self.now.seat c.args.self.now.engine c.sample.new.engine c.args.packet.now c.args.services.now c.requires.home c.requires.given c.in-Ok.request _ c.sample.ensures.after
    (ap (requests_in c.args.self.now.engine.rules) c.as_slice.ensures ∙ c.sample.ensures.asked) c.rule_count-rules.result c.rule_count-rules.ensures.count c.rule_count-rules.ensures.few

pub returns-in-Ok-clause-answers : goal.returns-in-Ok-clause-answers
returns-in-Ok-clause-answers c =
    sample_taken_is c.args.self.now.seat c.args.self.now.engine c.sample.new.engine c.args.packet.now c.args.services.now c.tell_all.new.services
    c.seats_are_kept_by_the_rules.ensures.telling_answers c.seats_are_kept_by_the_rules.ensures.telling_leaves c.seats_are_kept_by_the_rules.ensures.telling_settles
    c.requires.home c.requires.given c.requires.kind c.in-Ok.request (sym (ap answer_of c.in-Ok.is) ∙ c.sample_request.ensures) c.sample.ensures.after
    (requests_in c.sample.new.engine.rules c.as_slice.result.now)
    (requested_is c.args.self.now.engine c.sample.new.engine c.in-Ok.request c.as_slice.result.now c.sample.ensures.after (ap (requests_in c.args.self.now.engine.rules) c.as_slice.ensures ∙ c.sample.ensures.asked))
    (from_there c.args.self.now.seat (requests_in c.sample.new.engine.rules c.as_slice.result.now) c.args.services.now c.tell_all.new.services c.tell_all.ensures.told)
    (let size = c.tell_all.ensures.size in
    let room = sample_fits c.args.self.now.seat c.args.self.now.engine c.sample.new.engine c.args.packet.now c.args.services.now c.requires.home c.requires.given c.in-Ok.request c.as_slice.result.now c.sample.ensures.after
    (ap (requests_in c.args.self.now.engine.rules) c.as_slice.ensures ∙ c.sample.ensures.asked) c.rule_count-rules.result c.rule_count-rules.ensures.count c.rule_count-rules.ensures.few in
    omega (arith, size, room))
