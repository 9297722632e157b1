use Rattle.std.proofs.Common.{sym, ◌∙◌, ap}
use Rattle.lc_model.specs.Kept.Summary.{SchState}
use Rattle.lc_model.specs.Packet.{message_id, tick_mid}
use Rattle.lc_model.proofs.Facts.{test_equal}
use Rattle.tick_scheduler.specs.Turn.{Turn}
use Rattle.tick_scheduler.proofs.Publishing.{another_id, silent_exact, has_room, may_publish, tick_rules, tick_exact, tick_settles}
use Rattle.tick_scheduler.proofs.scheduler.SchedulerApp.on_packet.Goals as goal

pub returns-then-message_id-ne-TICK-clause-exact : goal.returns-then-message_id-ne-TICK-clause-exact
returns-then-message_id-ne-TICK-clause-exact c =
    silent_exact c.args.self.now.schedule c.seats_are_kept_by_the_rules.ensures.silence_leaves c.args.self.now.seat c.args.self.now.slot c.args.services.now c.args.packet.now
    (another_id _ _ c.message_id.ensures c.if-message_id-ne-TICK.true) c.requires.home c.requires.given

pub publish_all-requires-clause-room : goal.publish_all-requires-clause-room
publish_all-requires-clause-room c =
    has_room c.args.self.now.schedule c.publishing_is_by_the_rules.ensures.ticks_have_room c.args.self.now.seat c.args.self.now.slot c.args.services.now c.args.packet.now
    (sym c.message_id.ensures ∙ c.if-message_id-ne-TICK.false) c.requires.home c.requires.given

pub returns-clause-rules : goal.returns-clause-rules
returns-clause-rules c =
    tick_rules c.args.self.now.schedule c.args.self.now.seat c.args.self.now.slot c.args.packet.now _ c.args.services.now c.publish_all.new.services c.requires.home c.requires.given c.publish_all.ensures
    c.publishing_is_by_the_rules.ensures.answers (may_publish c.args.packet.now _ c.entries.ensures.few (sym c.message_id.ensures ∙ c.if-message_id-ne-TICK.false))

pub returns-clause-exact : goal.returns-clause-exact
returns-clause-exact c =
    tick_exact c.args.self.now.schedule c.args.self.now.seat c.args.self.now.slot c.args.packet.now _ c.args.services.now c.publish_all.new.services c.requires.home c.requires.given c.publish_all.ensures
    c.publishing_is_by_the_rules.ensures.leaves (test_equal (message_id c.args.packet.now) tick_mid (sym c.message_id.ensures ∙ c.if-message_id-ne-TICK.false)) c.entries.ensures.packets
    _ (ap (λ (t : Turn). SchState t.schedule t.slot) c.move_on.ensures)

pub returns-clause-settled : goal.returns-clause-settled
returns-clause-settled c =
    tick_settles c.args.self.now.schedule c.args.self.now.seat c.args.self.now.slot c.args.packet.now _ c.args.services.now c.publish_all.new.services c.requires.home c.requires.given c.publish_all.ensures
    c.publishing_is_by_the_rules.ensures.settles _ _
