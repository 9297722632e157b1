use Rattle.std.proofs.Common.{ap, ◌∙◌, length}
use Rattle.lc_model.specs.declared.rule.EventKind.TheVariants.{Information}
use Rattle.lc_model.specs.Name.{lc_name}
use Rattle.lc_model.specs.Events.Request.{Event}
use Rattle.limit_checker.proofs.SeatTaken.{Taken, room_for, both_there, taken}
use Rattle.limit_checker.proofs.starting.take_seat.Goals as goal

pub begin-has_tables-requires : goal.begin-has_tables-requires
begin-has_tables-requires c = both_there c.args.seat c.args.services.now c.open.new.self c.requires c.is_service.ensures c.open.ensures c.register_both.new.tables c.register_both.ensures

pub subscribe_to-requires : goal.subscribe_to-requires
subscribe_to-requires c = room_for c.args.seat c.args.services.now c.open.new.self c.requires c.is_service.ensures c.open.ensures (length c.watchpoints.result.now) c.watchpoints.ensures.few

all : (c : goal.After-tell) → Taken c.args.seat c.args.engine.now c.begin-has_tables.new.engine c.args.services.now c.tell.new.services
all c =
    taken c.args.seat c.args.services.now c.open.new.self c.requires c.is_service.ensures c.open.ensures c.register_both.new.tables c.register_both.ensures c.begin-has_tables.new.tables
    c.begin-has_tables.ensures.tables c.begin-has_tables.new.engine c.begin-has_tables.ensures.engine c.watchpoints.result.now c.watchpoints.ensures.watchpoints c.subscribe_to.new.bus c.subscribe_to.ensures
    c.seats_are_kept_by_the_rules.ensures.telling_is_by_name c.tell.new.services c.begin-has_tables.result c.as_bytes.result.now c.begin-has_tables.ensures.answer
    (ap (Event lc_name 1 Information) c.as_bytes.ensures.bytes ∙ c.application_started-text.ensures) c.tell.ensures.told
    c.seats_are_kept_by_the_rules.ensures.opening_starts c.seats_are_kept_by_the_rules.ensures.opening_leaves c.tell.ensures.size c.args.engine.now

pub returns-clause-rules : goal.returns-clause-rules
returns-clause-rules c = (all c).rules

pub returns-clause-exact : goal.returns-clause-exact
returns-clause-exact c = (all c).exact

pub returns-clause-settled : goal.returns-clause-settled
returns-clause-settled c = (all c).settled
