use Rattle.app_host_tests.proofs.Names.{has_room, answers}
use Rattle.app_host_tests.proofs.named.LetterAppApp.on_packet.Goals as goal

pub publish-requires-clause-room : goal.publish-requires-clause-room
publish-requires-clause-room c =
    has_room c.publishing_is_by_the_rules.ensures.ticks_have_room c.args.self.now.seat c.args.self.now.name c.args.packet.now c.args.services.now c.requires.home c.requires.given

pub returns-clause-rules : goal.returns-clause-rules
returns-clause-rules c =
    answers c.publishing_is_by_the_rules.ensures.answers c.args.self.now.seat c.args.self.now.name c.args.packet.now c.publish.result c.args.services.now c.publish.new.services c.append.new.self
    c.requires.home c.requires.given c.publish.ensures.published c.publish.ensures.may c.args.self.now.one c.append.ensures
