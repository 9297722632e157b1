-- The meaning of an application of this profile.
use Rattle.std.specs.Global.{Global}
use Rattle.std.specs.declared.boxed.Box.{Box}
use Rattle.lc_model.specs.Name.{lc_name, sch_name, counter_name}
use Rattle.lc_model.specs.Kept.Summary.{LcState, SchState, CounterState}
use Rattle.app_host.specs.Hosted.{Hosted}
use Rattle.app_host.specs.Left.{WasClosed}
use Rattle.app_host.specs.Object.{Object}
use Rattle.flight_profile.specs.declared.members.Member.{Member}
use Rattle.flight_profile.specs.declared.members.Member.TheVariants as member

-- The object that an application means: its name, its state and its seat.
abbrev pub member_meaning : Member → Object
member_meaning (member.Checker it) = record { called = lc_name; state = LcState it.engine; seat = it.seat }
member_meaning (member.Scheduler it) = record { called = sch_name; state = SchState it.schedule it.slot; seat = it.seat }
member_meaning (member.Counter it) = record { called = counter_name; state = CounterState it.count; seat = it.seat }

-- The meaning of an application in a box.
abbrev pub meaning_of : Box Member Global → Object
meaning_of b = member_meaning b.value

-- A host of such boxes was closed.
abbrev pub OwnWasClosed : Hosted → Type 0
OwnWasClosed = WasClosed meaning_of
