use Rattle.std.proofs.Common.{◌≡◌, ◌∙◌, ap, sym, List, Bool, count_by, rules}
use Rattle.packet_bus.specs.Seats.{is_in}
use Rattle.packet_bus.specs.Inside.{delivered}
use Rattle.packet_bus.proofs.Published.{published_together, is_published, unheard}
use Rattle.packet_bus.proofs.Publishing.{some_in, none_in, answer_if, hearers_are, blocked, with_room, some_slot}
use Rattle.packet_bus.proofs.bus.Bus.publish_as.Goals as goal

pub returns-then-meets-clause-answer : goal.returns-then-meets-clause-answer
returns-then-meets-clause-answer c =
    sym
    (answer_if c.args.packet.now c.args.self.now _ (sym c.requires.good)
    (sym (blocked _ _ _ _ _ c.self.invariant.0 c.args.packet.now c.args.mid c.index.result.now c.copy-hearers.result (sym c.requires.good) c.requires.own c.index.ensures
    c.copy-hearers.ensures c.args.self.now c.self.view_is)
    ∙ sym c.if-meets.ensures))

pub deliver-requires-clause-left : goal.deliver-requires-clause-left
deliver-requires-clause-left c =
    some_slot _ _ _ _ _ c.self.invariant.0 c.args.packet.now c.args.mid c.index.result.now c.copy-hearers.result (sym c.requires.good) c.requires.own c.index.ensures c.copy-hearers.ensures
    (sym c.if-meets.ensures) (some_in _ (sym c.if-not-is_empty.ensures))

pub deliver-requires-clause-room : goal.deliver-requires-clause-room
deliver-requires-clause-room c =
    let hearers = hearers_are _ _ _ _ _ c.self.invariant.0 c.args.packet.now c.args.mid c.index.result.now c.copy-hearers.result (sym c.requires.good) c.requires.own c.index.ensures c.copy-hearers.ensures in
    rw hearers
    (with_room _ _ _ _ _ c.self.invariant.0 c.args.packet.now c.args.mid c.index.result.now c.copy-hearers.result (sym c.requires.good) c.requires.own c.index.ensures c.copy-hearers.ensures
    (sym c.if-meets.ensures))

pub invariant_of-self : goal.invariant_of-self
invariant_of-self c =
    let hearers = hearers_are _ _ _ _ _ c.self.invariant.0 c.args.packet.now c.args.mid c.index.result.now c.copy-hearers.result (sym c.requires.good) c.requires.own c.index.ensures c.copy-hearers.ensures in
    let room = with_room _ _ _ _ _ c.self.invariant.0 c.args.packet.now c.args.mid c.index.result.now c.copy-hearers.result (sym c.requires.good) c.requires.own c.index.ensures c.copy-hearers.ensures (sym c.if-meets.ensures) in (
      rw c.deliver.ensures.pool
          (published_together _ _ _ _ _ c.self.invariant.0 c.deliver.result c.args.packet.now (count_by is_in c.copy-hearers.result) c.deliver.ensures.within c.deliver.ensures.free (sym (sym c.requires.good)) c.deliver.new.places.items
          c.deliver.new.ready c.deliver.new.full (c.deliver.ensures.places ∙ ap (λ (seats : List Bool). delivered c.deliver.result seats c.self.inside.places.items) hearers)
          (ap (count_by is_in) hearers) room c.deliver.ensures.ready c.deliver.ensures.full),
      search rules,
      search rules,
    )

pub returns-then-not-is_empty-clause-answer : goal.returns-then-not-is_empty-clause-answer
returns-then-not-is_empty-clause-answer c =
    sym
    (answer_if c.args.packet.now c.args.self.now _ (sym c.requires.good)
    (sym (blocked _ _ _ _ _ c.self.invariant.0 c.args.packet.now c.args.mid c.index.result.now c.copy-hearers.result (sym c.requires.good) c.requires.own c.index.ensures
    c.copy-hearers.ensures c.args.self.now c.self.view_is)
    ∙ sym c.if-meets.ensures))

pub returns-then-not-is_empty-clause-published : goal.returns-then-not-is_empty-clause-published
returns-then-not-is_empty-clause-published c =
    let hearers = hearers_are _ _ _ _ _ c.self.invariant.0 c.args.packet.now c.args.mid c.index.result.now c.copy-hearers.result (sym c.requires.good) c.requires.own c.index.ensures c.copy-hearers.ensures in
    rw c.deliver.ensures.pool
    (is_published _ _ _ _ _ c.self.invariant.0 c.deliver.result c.args.packet.now (count_by is_in c.copy-hearers.result) c.deliver.ensures.within c.deliver.ensures.free c.deliver.new.places.items
    c.args.self.now (c.deliver.ensures.places ∙ ap (λ (seats : List Bool). delivered c.deliver.result seats c.self.inside.places.items) hearers) c.self.view_is)

pub returns-else-not-is_empty-clause-answer : goal.returns-else-not-is_empty-clause-answer
returns-else-not-is_empty-clause-answer c =
    sym
    (answer_if c.args.packet.now c.args.self.now _ (sym c.requires.good)
    (sym (blocked _ _ _ _ _ c.self.invariant.0 c.args.packet.now c.args.mid c.index.result.now c.copy-hearers.result (sym c.requires.good) c.requires.own c.index.ensures
    c.copy-hearers.ensures c.args.self.now c.self.view_is)
    ∙ sym c.if-meets.ensures))

pub returns-else-not-is_empty-clause-published : goal.returns-else-not-is_empty-clause-published
returns-else-not-is_empty-clause-published c =
    let hearers = hearers_are _ _ _ _ _ c.self.invariant.0 c.args.packet.now c.args.mid c.index.result.now c.copy-hearers.result (sym c.requires.good) c.requires.own c.index.ensures c.copy-hearers.ensures in
    let none : count_by is_in c.copy-hearers.result ≡ 0 = none_in _ (sym c.if-not-is_empty.ensures) in
    unheard c.self.inside.places.items c.self.inside.pool c.args.packet.now c.args.self.now c.self.invariant.0.readers (ap (count_by is_in) (sym hearers) ∙ none) c.self.view_is
