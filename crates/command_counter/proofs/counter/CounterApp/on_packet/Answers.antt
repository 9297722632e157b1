use Rattle.std.proofs.Common.{sym, ◌∙◌, ap, [], ◌∷◌}
use Rattle.command_counter.proofs.counter.CounterApp.on_packet.Goals as goal
use Rattle.lc_model.specs.declared.rule.EventKind.TheVariants.{Information, Error}
use Rattle.lc_model.specs.Name.{counter_name}
use Rattle.lc_model.specs.Events.Request.{Event, counter_refused}
use Rattle.lc_model.specs.Packet.{message_id, counter_mid}
use Rattle.lc_model.specs.Command.{answer_of, refusal_number}
use Rattle.lc_model.proofs.Facts.{test_equal}
use Rattle.command_counter.proofs.Counting.{another_id, silent_exact, answer_exact, is_counted, is_refused}

pub returns-then-message_id-ne-COUNTER-clause-exact : goal.returns-then-message_id-ne-COUNTER-clause-exact
returns-then-message_id-ne-COUNTER-clause-exact c =
    silent_exact c.seats_are_kept_by_the_rules.ensures.silence_leaves c.args.self.now.seat c.args.self.now.count c.args.services.now c.args.packet.now
    (another_id _ _ c.message_id.ensures c.if-message_id-ne-COUNTER.true) c.requires.home c.requires.given

pub returns-in-Ok-clause-exact : goal.returns-in-Ok-clause-exact
returns-in-Ok-clause-exact c =
    answer_exact c.args.self.now.seat c.args.self.now.count _ c.args.packet.now 1 Information c.as_bytes.result.now c.args.services.now c.tell.new.self
    c.requires.home c.requires.given c.tell.ensures.told c.seats_are_kept_by_the_rules.ensures.telling_is_by_name c.seats_are_kept_by_the_rules.ensures.telling_leaves (test_equal (message_id c.args.packet.now) counter_mid (sym c.message_id.ensures ∙ c.if-message_id-ne-COUNTER.false))
    (is_counted c.args.packet.now c.args.self.now.count _ (Event counter_name 1 Information c.as_bytes.result.now) (sym (ap answer_of c.in-Ok.is) ∙ c.check_command.ensures) c.saturating_add-self.ensures (ap (Event counter_name 1 Information) c.as_bytes.ensures.bytes ∙ c.command_count-text.ensures))

pub returns-in-Err-clause-exact : goal.returns-in-Err-clause-exact
returns-in-Err-clause-exact c =
    answer_exact c.args.self.now.seat c.args.self.now.count c.args.self.now.count c.args.packet.now 2 Error c.as_bytes-in-Err.result.now c.args.services.now c.tell-in-Err.new.self
    c.requires.home c.requires.given c.tell-in-Err.ensures.told c.seats_are_kept_by_the_rules.ensures.telling_is_by_name c.seats_are_kept_by_the_rules.ensures.telling_leaves (test_equal (message_id c.args.packet.now) counter_mid (sym c.message_id.ensures ∙ c.if-message_id-ne-COUNTER.false))
    (is_refused c.args.packet.now c.args.self.now.count (refusal_number c.in-Err.refusal ∷ []) (Event counter_name 2 Error c.as_bytes-in-Err.result.now) (sym (ap answer_of c.in-Err.is) ∙ c.check_command.ensures)
    (ap (Event counter_name 2 Error) c.as_bytes-in-Err.ensures.bytes ∙ c.command_refused-text.ensures ∙ ap (λ number. counter_refused (number ∷ [])) (c.from.ensures ∙ c.code.ensures)))
