-- How an executive command is executed: what each part needs, and what it leaves.
use Rattle.std.specs.Prelude.{◌≡◌, ◌⊎◌, ℕ, ◌*◌, ◌<◌, ◌≤◌, ⊤, true, false, List, [], length, take, ◌++◌, Option, Some, None, option_to_list, Result, Ok, Err, IfSome, IsSomeAnd, slice_set}
use Rattle.std.specs.List.{concat}
use Rattle.std.specs.Io.KnownBytes.{Appends}
use Rattle.lc_model.specs.declared.record.Moment.{Moment}
use Rattle.lc_model.specs.Device.{Sink, NoWriteRetried}
use Rattle.lc_model.specs.Packet.{payload}
use Rattle.lc_model.specs.Name.{Name, is_named}
use Rattle.lc_model.specs.Refusal.{Refusal}
use Rattle.lc_model.specs.Command as model
use Rattle.lc_model.specs.Events.Request.{executive_services}
use Rattle.lc_model.specs.Kept.Executive.{Executive, Written, spare_at, begun_on, without_spare, ordered_now, answered_now, executive_service_now}
use Rattle.lc_model.specs.Kept.Stations.{order_stations}
use Rattle.lc_model.specs.Services.Interface.{outgoing_room}
use Rattle.app_host.specs.declared.services.Services.{Services}
use Rattle.app_host.specs.declared.orders.Order.{Order}
use Rattle.app_host.specs.declared.orders.Order.TheVariants as given
use Rattle.app_host.specs.declared.succession.Successor.{Successor}
use Rattle.app_host.specs.declared.succession.Successor.TheVariants as successor
use Rattle.app_host.specs.declared.error.HostError.{HostError}
use Rattle.app_host.specs.declared.error.WriteFault.{WriteFault}
use Rattle.app_host.specs.Error.{error_code}
use Rattle.app_host.specs.Shared.{on_board}
use Rattle.app_host.specs.Hosted.{Object, Hosted, object_at, spare_in, member_of}
use Rattle.app_host.specs.Whole.{AreSeated, AreSpares, IsKnown, AreKnown, IsWhole, IsQuiet}
use Rattle.app_host.specs.Party.{Party, party_by, AreKnownIn}
use Rattle.app_host.specs.Delivered.{executive_in, Becomes}
use Rattle.app_host.specs.Objects.{HasRetired}
use Rattle.app_host.specs.Left.{HasGone, LeavesExactly}
use Rattle.app_host.specs.Roster.{Roster, roster_of, with_seat, with_spare, Comer, NobodyComes, FromStock, Again, Succession, ComesTo}
use Rattle.app_host.specs.Turn.{LeavesAs, seats_without, HasTaken, ComesAs}
use Rattle.app_host.specs.Writing.{written_off, Handles}

-- ---- the object that takes a seat next

-- None, the spare at `place`, or the object that has just given the seat back.
pub data Next : Type 0 where
  Nobody : Next
  Spare : (place seat : ℕ) → Next
  Same : (o : Object) (seat : ℕ) → Next

-- The object that takes a seat next, by its meaning.
abbrev pub next_of : {B : Type 0} → (B → Object) → Successor B → Next
next_of meaning successor.Nobody = Nobody
next_of meaning (successor.Spare place seat) = Spare place seat
next_of meaning (successor.Same app seat) = Same (meaning app) seat

-- Object `o` may be started on `seat`: the seat is free, the object holds no seat, and its name is not in use.
pub record MayBegin (seat : ℕ) (h : Hosted) (o : Object) : Type 0 where
  pub free : object_at seat h.seats ≡ None
  pub spare : o.seat ≡ None
  pub unused : (k : ℕ) → IfSome (object_at k h.seats) (λ (there : Object). is_named o.called there.called ≡ false)

-- The next object may be started.
abbrev pub MayFollow : Hosted → Next → Type 0
MayFollow h Nobody = ⊤
MayFollow h (Spare place seat) = (place < length h.stock) × MayBegin seat h (spare_in h.stock place)
MayFollow h (Same o seat) = MayBegin seat h o

-- The next object is of this profile.
abbrev pub IsKnownNext : List Object → Next → Type 0
IsKnownNext stock Nobody = ⊤
IsKnownNext stock (Spare place seat) = IsKnown (spare_in stock place)
IsKnownNext stock (Same o seat) = IsKnown o

-- The model's step that starts the next object.
abbrev pub followed_by : Moment → Next → Executive (List ℕ) → Written (List ℕ)
followed_by moment Nobody e = (e, [])
followed_by moment (Spare place seat) e = begun_on on_board moment seat (spare_at e.stock place) (without_spare place e)
followed_by moment (Same o seat) e = begun_on on_board moment seat (member_of o) e

-- ---- what each part keeps

-- No call and no write is counted, the seats stay consistent, and if no packet waited none does.
pub record StaysWhole (old new : Hosted) : Type 0 where
  pub is_closed : new.is_closed ≡ old.is_closed
  pub calls : new.calls ≡ old.calls
  pub moment : new.services.moment ≡ old.services.moment
  pub seated : AreSeated new.seats new.services
  pub quiet : IsQuiet old → IsQuiet new
  pub fits : length new.services.outgoing ≤ outgoing_room

-- ---- the roster

-- The roster with the next object on its seat.
abbrev pub seated_next : Next → Roster → Roster
seated_next Nobody r = r
seated_next (Spare place seat) r = with_spare place seat r
seated_next (Same o seat) r = with_seat seat (Some o.called) r

-- The next object as a `Comer`.
abbrev pub comer_of : Next → Comer
comer_of Nobody = NobodyComes
comer_of (Spare place seat) = FromStock place seat
comer_of (Same o seat) = Again seat

-- The object that gave the seat back and takes it again, if it is the next one.
abbrev pub gone_in : Next → Option Object
gone_in Nobody = None
gone_in (Spare place seat) = None
gone_in (Same o seat) = Some o

-- ---- an object starts, or retires

-- Object `o` was started on `seat`. If it is of this profile, the host is exactly what the model gives.
pub record ObjectHasBegun (seat : ℕ) (o : Object) (old new : Hosted) : Type 0 where
  pub whole : StaysWhole old new
  pub stock : new.stock ≡ old.stock
  pub own : ComesTo (with_seat seat (Some o.called) (roster_of old)) old new
  pub known : AreKnown old → IsKnown o → AreKnown new
  pub exact : IsKnown o → Becomes new (begun_on on_board old.services.moment seat (member_of o) (executive_in old))
  pub taken : HasTaken seat old.services new.services o old.seats new.seats

-- The next object was started on its seat.
pub record HasFollowed (next : Next) (old new : Hosted) : Type 0 where
  pub whole : StaysWhole old new
  pub spares : AreSpares new.stock
  pub own : ComesTo (seated_next next (roster_of old)) old new
  pub known : AreKnown old → IsKnownNext old.stock next → AreKnown new
  pub exact : IsKnownNext old.stock next → Becomes new (followed_by old.services.moment next (executive_in old))
  pub came : ComesAs (comer_of next) old.stock (gone_in next) old.services new.services old.seats new.seats

-- Object `o` was retired from `seat`, and holds no seat.
pub record HasWithdrawn (seat : ℕ) (old new : Hosted) (o : Object) : Type 0 where
  pub whole : StaysWhole old new
  pub stock : new.stock ≡ old.stock
  pub seats : new.seats ≡ slice_set old.seats seat None
  pub spare : o.seat ≡ None
  pub was : IfSome (object_at seat old.seats) (λ (there : Object). member_of there ≡ member_of o)
  pub retired : IsSomeAnd (object_at seat old.seats) (λ (there : Object). HasRetired seat old.services new.services there o)
  pub exact : IsKnown o → LeavesExactly seat old new

-- ---- the command

-- The model's step for the command, or its refusal.
abbrev pub outcome_of : model.Order → Name → Hosted → Result (Written (List ℕ)) Refusal
outcome_of order name h = ordered_now on_board h.services.moment order name (executive_in h)

-- The program's order as the model's.
abbrev pub order_of : Order → model.Order
order_of given.Start = model.Start
order_of given.Stop = model.Stop
order_of given.Restart = model.Restart
order_of given.Reload = model.Reload

-- The order, with the application's name from the payload.
abbrev pub named_by : Order → List ℕ → Result (model.Order × Name) Refusal
named_by order payload = model.order_named (order_of order) payload

-- The refusal of an error.
abbrev pub refusal_of : HostError → Refusal
refusal_of error = option_to_list (error_code error)

-- The object that leaves was retired without output, and starting the next one gives the wanted step.
pub record LeadsTo (wanted : Result (Written (List ℕ)) Refusal) (h : Hosted) (next : Next) : Type 0 where
  pub next_known : IsKnownNext h.stock next
  pub outgoing : h.services.outgoing ≡ []
  pub step : wanted ≡ Ok (followed_by h.services.moment next (executive_in h))

-- The seat is free for the next object.
pub record IsPrepared (party : Party) (wanted : Result (Written (List ℕ)) Refusal) (old new : Hosted) (next : Next) : Type 0 where
  pub whole : StaysWhole old new
  pub stock : new.stock ≡ old.stock
  pub may : MayFollow new next
  pub known : AreKnown old → AreKnown new
  pub exact : AreKnownIn party old → LeadsTo wanted new next

-- The seat is prepared, or the command is refused and nothing has changed.
abbrev pub Prepares : {B : Type 0} → (B → Object) →
    Party → Result (Written (List ℕ)) Refusal → Hosted → Hosted → Result (Successor B) HostError → Type 0
Prepares meaning party wanted old new (Ok next) = IsPrepared party wanted old new (next_of meaning next)
Prepares meaning party wanted old new (Err error) = (wanted ≡ Err (refusal_of error)) × (new ≡ old)

-- `IsPrepared`, or a refusal, which may also be for the code or length of the command (151, 152); then nothing has changed.
abbrev pub PreparesFor : {B : Type 0} → (B → Object) →
    Party → Result (Written (List ℕ)) Refusal → Hosted → Hosted → Result (Successor B) Refusal → Type 0
PreparesFor meaning party wanted old new (Ok next) = IsPrepared party wanted old new (next_of meaning next)
PreparesFor meaning party wanted old new (Err numbers) = (wanted ≡ Err numbers) × (new ≡ old)

-- ---- the roster while the command is executed, for any applications

-- If the next object is the one that has left, it is `gone`.
abbrev pub IsAgain : Next → Option Object → Type 0
IsAgain (Same o seat) gone = gone ≡ Some o
IsAgain other _ = ⊤

-- The object that leaves was retired and its box is gone; with the next object the roster becomes the wanted one.
pub record HasMadeWay (Gone : ℕ → Type 0) (wanted : Result Succession Refusal) (old new : Hosted) (next : Next) : Type 0 where
  pub succession : Succession
  pub is : wanted ≡ Ok succession
  pub left : ComesTo succession.left old new
  pub come : seated_next next (roster_of new) ≡ succession.come
  pub gone : IfSome succession.leaves (λ seat. HasGone seat old.seats old.services)
  pub box : IfSome succession.leaves Gone
  pub comes : comer_of next ≡ succession.comes
  pub object : Option Object
  pub left_as : LeavesAs succession.leaves old.seats old.services new.services object
  pub again : IsAgain next object
  pub stock : new.stock ≡ old.stock
  pub seats : new.seats ≡ seats_without succession.leaves old.seats

-- The way is made, or the command is refused and nothing has changed.
abbrev pub MakesWay : {B : Type 0} → (B → Object) → (ℕ → Type 0) →
    Result Succession Refusal → Hosted → Hosted → Result (Successor B) HostError → Type 0
MakesWay meaning Gone wanted old new (Ok next) = HasMadeWay Gone wanted old new (next_of meaning next)
MakesWay meaning Gone wanted old new (Err error) = (wanted ≡ Err (refusal_of error)) × (new ≡ old)

-- `HasMadeWay`, or a refusal, which may also be for the code or length of the command (151, 152); then nothing has changed.
abbrev pub MakesWayFor : {B : Type 0} → (B → Object) → (ℕ → Type 0) →
    Result Succession Refusal → Hosted → Hosted → Result (Successor B) Refusal → Type 0
MakesWayFor meaning Gone wanted old new (Ok next) = HasMadeWay Gone wanted old new (next_of meaning next)
MakesWayFor meaning Gone wanted old new (Err numbers) = (wanted ≡ Err numbers) × (new ≡ old)

-- ---- output

-- All packets of the step were written; they have `sent` bytes.
pub record IsWritten (step : Written (List ℕ)) (sent : ℕ) (new : Hosted) (before now : Option (List ℕ)) : Type 0 where
  pub executive : executive_in new ≡ step.0
  pub count : sent ≡ length (concat step.1)
  pub gains : Appends before now (concat step.1)

-- Only the first `sent` bytes of the step's packets were written.
pub record IsBroken (step : Written (List ℕ)) (sent : ℕ) (new : Hosted) (before now : Option (List ℕ)) : Type 0 where
  pub executive : executive_in new ≡ step.0
  pub fewer : sent < length (concat step.1)
  pub gains : Appends before now (take sent (concat step.1))

-- `P`, if the next object is of this profile and no output waits.
abbrev pub IfExact : Hosted → Next → Type 0 → Type 0
IfExact h next P = IsKnownNext h.stock next → h.services.outgoing ≡ [] → P

-- The next object was started, and all waiting output was written.
pub record HasComeIn (next : Next) (sent : ℕ) (old new : Hosted) (before now : Sink) : Type 0 where
  pub whole : StaysWhole old new
  pub spares : AreSpares new.stock
  pub idle : new.services.outgoing ≡ []
  pub small : sent ≤ 2 * outgoing_room
  pub fine : now.failed ≡ before.failed
  pub not_retried : NoWriteRetried before now
  pub known : AreKnown old → IsKnownNext old.stock next → AreKnown new
  pub exact : IfExact old next (IsWritten (followed_by old.services.moment next (executive_in old)) sent new before.gained now.gained)

-- A write failed, and the host is closed.
pub record HasFailed (next : Next) (sent : ℕ) (old new : Hosted) (before now : Sink) : Type 0 where
  pub whole : IsWhole new
  pub is_closed : new.is_closed ≡ true
  pub calls : new.calls ≡ old.calls
  pub failed : now.failed ≡ true
  pub not_retried : NoWriteRetried before now
  pub known : AreKnown old → IsKnownNext old.stock next → AreKnown new
  pub exact : IfExact old next (IsBroken (followed_by old.services.moment next (executive_in old)) sent new before.gained now.gained)

-- `HasComeIn` if no write failed, else `HasFailed`.
abbrev pub ComesIn : Next → Hosted → Hosted → Sink → Sink → Result ℕ WriteFault → Type 0
ComesIn next old new before now (Ok sent) = HasComeIn next sent old new before now
ComesIn next old new before now (Err fault) = HasFailed next fault.sent old new before now

-- The next object was started after the waiting output was taken; `theirs` are the bytes of both.
pub record HasCome (next : Next) (old new : Hosted) (theirs : List ℕ) : Type 0 where
  pub later : Services
  pub came : ComesAs (comer_of next) old.stock (gone_in next) (written_off old.services) later old.seats new.seats
  pub sent : theirs ≡ old.services.outgoing ++ later.outgoing
  pub services : new.services ≡ written_off later

-- No object was started; `theirs` is the waiting output.
pub record HasStayed (old new : Hosted) (theirs : List ℕ) : Type 0 where
  pub seats : new.seats ≡ old.seats
  pub sent : theirs ≡ old.services.outgoing
  pub services : new.services ≡ written_off old.services

-- All waiting output was written, `sent` bytes, and the next object is on its seat.
pub record HasEntered (next : Next) (sent : ℕ) (old new : Hosted) (before now : Option (List ℕ)) : Type 0 where
  pub theirs : List ℕ
  pub count : sent ≡ length theirs
  pub gains : Appends before now theirs
  pub own : ComesTo (seated_next next (roster_of old)) old new
  pub come : HasCome next old new theirs

-- Only the first `sent` bytes were written; the next object is on its seat, or was not started.
pub record HasNotEntered (next : Next) (sent : ℕ) (old new : Hosted) (before now : Option (List ℕ)) : Type 0 where
  pub theirs : List ℕ
  pub small : length theirs ≤ 2 * outgoing_room
  pub fewer : sent < length theirs
  pub gains : Appends before now (take sent theirs)
  pub own : ComesTo (seated_next next (roster_of old)) old new ⊎ ComesTo (roster_of old) old new
  pub come : HasCome next old new theirs ⊎ HasStayed old new theirs

-- `HasEntered` if no write failed, else `HasNotEntered`.
abbrev pub Enters : Next → Hosted → Hosted → Option (List ℕ) → Option (List ℕ) → Result ℕ WriteFault → Type 0
Enters next old new before now (Ok sent) = HasEntered next sent old new before now
Enters next old new before now (Err fault) = HasNotEntered next fault.sent old new before now

-- A packet 0x1806 is executed or refused, and the output of the applications and of `HOST` is written.
abbrev pub ObeysOrders : List ℕ → Hosted → Hosted → Sink → Sink → Result ℕ WriteFault → Type 0
ObeysOrders packet old new before now result =
    let e : Executive (List ℕ) = executive_in old in
    let answer : Result (Written (List ℕ)) Refusal = executive_service_now on_board old.services.moment packet e in
    Handles (party_by (model.order_in packet)) (order_stations on_board old.services.moment packet e answer) (answered_now on_board old.services.moment executive_services packet e answer) 0 old new before now result
