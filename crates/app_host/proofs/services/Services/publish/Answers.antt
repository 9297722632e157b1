use Rattle.std.proofs.Common.{refl, ◌∙◌}
use Rattle.lc_model.specs.Services.Bus.{seen}
use Rattle.app_host.proofs.Seats.{is_taken}
use Rattle.app_host.proofs.Published.{not_refused, one_published, where_taken}
use Rattle.lc_model.proofs.Services.BusLaws.{publication_is_seen, fills_by_one}
use Rattle.app_host.proofs.services.Services.publish.Goals as goal

pub unwrap-requires : goal.unwrap-requires
unwrap-requires c = is_taken c.publish_judged.result (c.publish_judged.ensures.answer ∙ not_refused c.args.packet.now c.args.self.now.bus c.requires.good c.requires.room)

pub returns-clause-published : goal.returns-clause-published
returns-clause-published c =
    let is = where_taken _ c.publish_judged.result (c.publish_judged.ensures.answer ∙ not_refused c.args.packet.now c.args.self.now.bus c.requires.good c.requires.room) c.publish_judged.ensures.published in
    record {
      pipes = publication_is_seen c.args.packet.now c.args.self.now.bus c.publish_judged.new.self is ∙ one_published (seen c.args.self.now.bus) c.args.packet.now;
      events = refl;
      tables = refl;
      counts = refl;
      moment = refl;
      outgoing = refl;
    }

pub returns-clause-fills : goal.returns-clause-fills
returns-clause-fills c =
    let is = where_taken _ c.publish_judged.result (c.publish_judged.ensures.answer ∙ not_refused c.args.packet.now c.args.self.now.bus c.requires.good c.requires.room) c.publish_judged.ensures.published in
    λ n short. fills_by_one n c.args.packet.now c.args.self.now.bus c.publish_judged.new.self short is
