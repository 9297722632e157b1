-- Laws: what an application does on its seat keeps the rules between host and applications, and is what the model gives.
use Rattle.std.specs.Prelude.{◌≡◌, ℕ, ◌≤◌, IfSome, List, [], length, Option, Some, None, option_map}
use Rattle.lc_model.specs.Name.{Name}
use Rattle.lc_model.specs.Events.Request.{Request}
use Rattle.lc_model.specs.Kept.Summary.{AppState, Other}
use Rattle.lc_model.specs.Kept.Call.{Called, with_at, registered, silent, told, next_start, next_on_packet}
use Rattle.lc_model.specs.Kept.Executive.{Pipe}
use Rattle.lc_model.specs.Tables.Slot.{Slot}
use Rattle.lc_model.specs.Services.Events.{Origin, Sender, sender_at}
use Rattle.lc_model.specs.Services.Tables.{tables_at, tables_unregistered}
use Rattle.lc_model.specs.Kept.GoesWith.{own_name, subscriptions_of}
use Rattle.lc_model.specs.Services.Settled.{IsSettled, Settled, own_forms}
use Rattle.lc_model.specs.Services.Seen.{slot_among}
use Rattle.lc_model.specs.Services.Interface.{MayBeStarted, IsStarted, IsGiven, IsRetired, BelongsTo, seen_at, outgoing_room}
use Rattle.app_host.specs.declared.services.Services.{Services}
use Rattle.app_host.specs.Shared.{on_board, held_by, shared}
use Rattle.app_host.specs.Telling.{Tells, name_of}
use Rattle.app_host.specs.Seating.{IsOpened, IsClosed}
use Rattle.app_host.specs.Calls.{IsObject, IsAtHome, Leaves, LeavesEmpty}

-- Law: an object that only opens its seat keeps the rules of `start`.
abbrev pub OpeningStarts : Type 0
OpeningStarts = (seat : ℕ) (name : Name) (mids : List ℕ) (before after : Services) → IsOpened seat name mids before after → MayBeStarted seat name (held_by before) →
    IsStarted seat name (held_by before) (held_by after)

-- Law: an object that only opens its seat does what the model gives for a start that sends and publishes nothing.
abbrev pub OpeningLeaves : Type 0
OpeningLeaves = (seat : ℕ) (name : Name) (mids : List ℕ) (before after : Services) → IsOpened seat name mids before after → MayBeStarted seat name (held_by before) →
    (state : AppState) (called : Called (List ℕ)) → state ≡ called.state → called.mids ≡ mids → called.services ≡ registered name (shared before) →
    called.outgoing ≡ [] → called.published ≡ [] → Leaves seat state before after called

-- Law: an object that only opens its seat has there what the model gives for an object without tables.
abbrev pub OpeningSettles : Type 0
OpeningSettles = (seat : ℕ) (name : Name) (mids : List ℕ) (before after : Services) → IsOpened seat name mids before after → MayBeStarted seat name (held_by before) →
    (state : AppState) → own_name state ≡ name → own_forms state ≡ [] → subscriptions_of state ≡ mids → IsSettled state seat (held_by after)

-- Law: sending the requests of the sender on a seat is sending those of its name.
abbrev pub TellingIsByName : Type 0
TellingIsByName = (origin : Origin) (name : Name) (requests : Name → List Request) (before after : Services) → option_map name_of (sender_at origin before.events) ≡ Some name →
    IfSome (sender_at origin before.events) (λ (sender : Sender). Tells origin sender.name (requests sender.name) before after) → Tells origin name (requests name) before after

-- Law: an object that only sends its own events when it handles a packet keeps the rules of `on_packet`.
abbrev pub TellingAnswers : Type 0
TellingAnswers = (seat : ℕ) (name : Name) (requests : List Request) (before after : Services) → Tells (Some seat) name requests before after →
    (packet : List ℕ) → BelongsTo seat name (held_by before) → length after.outgoing ≤ outgoing_room → IsGiven seat name packet (held_by before) (held_by after)

-- Law: such an object does what the model gives for a call that sends these requests.
abbrev pub TellingLeaves : Type 0
TellingLeaves = (seat : ℕ) (name : Name) (requests : List Request) (before after : Services) → Tells (Some seat) name requests before after →
    (state : AppState) (mids : List ℕ) → before.outgoing ≡ [] → option_map (λ (pipe : Pipe). pipe.subscriptions) (seen_at seat (held_by before)) ≡ Some mids →
    Leaves seat state before after (told before.moment name requests state mids (shared before))

-- Law: such an object still has its sender, tables and subscriptions afterwards.
abbrev pub TellingSettles : Type 0
TellingSettles = (seat : ℕ) (name : Name) (requests : List Request) (before after : Services) → Tells (Some seat) name requests before after →
    (old state : AppState) → own_name state ≡ own_name old → own_forms state ≡ own_forms old → subscriptions_of state ≡ subscriptions_of old →
    IsSettled old seat (held_by before) → IsSettled state seat (held_by after)

-- Law: an object that does nothing when it handles a packet keeps the rules of `on_packet`.
abbrev pub SilenceAnswers : Type 0
SilenceAnswers = (seat : ℕ) (name : Name) (s : Services) (packet : List ℕ) → BelongsTo seat name (held_by s) → s.outgoing ≡ [] →
    IsGiven seat name packet (held_by s) (held_by s)

-- Law: such an object does what the model gives for a call that sends and publishes nothing.
abbrev pub SilenceLeaves : Type 0
SilenceLeaves = (seat : ℕ) (s : Services) (state : AppState) (mids : List ℕ) → s.outgoing ≡ [] →
    option_map (λ (pipe : Pipe). pipe.subscriptions) (seen_at seat (held_by s)) ≡ Some mids → Leaves seat state s s (silent state mids [] (shared s))

-- Law: an object that closes its seat keeps the rules of `retire`.
abbrev pub ClosingRetires : Type 0
ClosingRetires = (seat : ℕ) (name : Name) (before after : Services) → IsClosed seat before after → before.outgoing ≡ [] →
    IsRetired seat name (held_by before) (held_by after)

-- Law: an object that closes its seat does what the model gives for `retire`, with the tables that are removed.
abbrev pub ClosingLeaves : Type 0
ClosingLeaves = (seat : ℕ) (name : Name) (before after : Services) → IsClosed seat before after → before.outgoing ≡ [] →
    option_map name_of (sender_at (Some seat) before.events) ≡ Some name → (slots : Name → Option (Slot (List ℕ))) →
    slot_among (tables_unregistered seat before.tables).places ≡ slots →
    LeavesEmpty seat before after (record (shared before) { slots = slots; events = with_at name None (shared before).events })

-- Law: without tables on the seat none are removed.
abbrev pub NoTablesGo : Type 0
NoTablesGo = (seat : ℕ) (s : Services) → tables_at seat s.tables.places ≡ [] → slot_among (tables_unregistered seat s.tables).places ≡ (shared s).slots

-- ---- laws: objects on their seats

-- Law: after `start` the object is at home on its seat.
abbrev pub StartedIsHome : Type 0
StartedIsHome = (seat : ℕ) (name : Name) (old state : AppState) (before after : Services) → IsObject old name →
    IsStarted seat name (held_by before) (held_by after) → IfSome (next_start on_board before.moment old (shared before)) (Leaves seat state before after) →
    Settled state seat (held_by after) → (old ≡ Other → state ≡ Other) → IsAtHome state name seat after

-- Law: after `on_packet` the object is still at home on its seat.
abbrev pub GivenIsHome : Type 0
GivenIsHome = (seat : ℕ) (name : Name) (packet : List ℕ) (old state : AppState) (before after : Services) → IsAtHome old name seat before →
    IsGiven seat name packet (held_by before) (held_by after) → IfSome (next_on_packet on_board before.moment old packet (shared before)) (Leaves seat state before after) →
    Settled state seat (held_by after) → (old ≡ Other → state ≡ Other) → IsAtHome state name seat after
