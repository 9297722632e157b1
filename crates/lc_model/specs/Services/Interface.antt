-- The rules between the host and its applications, of any kind: what a call may rely on, and which parts of the services it may
-- change. From the cFE user's guide, executive services (applications and their resources); seats, and the bounds of one call,
-- are this project's own.
use Rattle.std.specs.Prelude.{◌≡◌, ◌≢◌, ℕ, ◌+◌, ◌<◌, ◌≤◌, ◌⊎◌, Bool, List, [], ◌∷◌, ◌++◌, length, filter, slice_index_or, Option, Some, None, option_map, IsTrue, IsFalse, IfSome, bytes_eq, take, ⊤}
use Rattle.std.specs.List.{AllByRecursion}
use Rattle.lc_model.specs.declared.record.Moment.{Moment}
use Rattle.lc_model.specs.Name.{Name, is_named, host_name, app_name_size}
use Rattle.lc_model.specs.Packet.{message_id, header_fault, tick_mid}
use Rattle.lc_model.specs.Kept.Executive.{Pipe, seat_count, hears}
use Rattle.lc_model.specs.Services.Bus.{Bus, pipe_depth, seen, pipe_at}
use Rattle.lc_model.specs.Services.Events.{EventService, Sender, sender_named, sender_at}
use Rattle.lc_model.specs.Services.Tables.{TableService, Table, tables_at}

-- The services by seats: bus, event senders, files and tables, the record's moment, and the output of the call. Of the sequence
-- counts only that of event packets is here. Of the others these definitions say nothing.
pub record Held : Type 0 where
  pub bus : Bus
  pub events : EventService
  pub tables : TableService
  pub moment : Moment
  pub outgoing : List ℕ

-- ---- names

-- The byte `.`, which ends the application's name in a table's name.
abbrev pub dot : ℕ
dot = 46

-- A valid application name: 1 to 20 bytes, without zero bytes and dots, and not `HOST`.
pub record IsApplicationName (name : Name) : Type 0 where
  pub some : 1 ≤ length name
  pub few : length name ≤ app_name_size
  pub bytes : AllByRecursion (λ byte. (byte ≢ 0) × (byte ≢ dot)) name
  pub own : IsFalse (is_named name host_name)

-- Whether a table's name begins with the application's name and a dot, as `LC.LC_WDT` does.
abbrev pub is_table_of : Name → Name → Bool
is_table_of application table = bytes_eq (take (length application + 1) table) (application ++ dot ∷ [])

-- ---- seats

-- The seat has no pipe, no event sender and no table.
pub record IsFreeSeat (seat : ℕ) (held : Held) : Type 0 where
  pub pipe : pipe_at seat held.bus ≡ None
  pub sender : sender_at (Some seat) held.events ≡ None
  pub tables : tables_at seat held.tables.places ≡ []

-- No event sender has this name, and no table has a name that begins with it and a dot.
pub record IsUnusedName (name : Name) (held : Held) : Type 0 where
  pub sender : sender_named held.events name ≡ None
  pub tables : AllByRecursion (λ (tables : List Table). AllByRecursion (λ (table : Table). IsFalse (is_table_of name table.name)) tables) held.tables.places

-- The seat's event sender, if any, has this name, and its tables' names begin with it and a dot.
pub record BelongsTo (seat : ℕ) (name : Name) (held : Held) : Type 0 where
  pub sender : IfSome (sender_at (Some seat) held.events) (λ (sender : Sender). sender.name ≡ name)
  pub tables : AllByRecursion (λ (table : Table). IsTrue (is_table_of name table.name)) (tables_at seat held.tables.places)

-- ---- what a call does not change

-- A call of the object on `seat` does not change `HOST`'s or another seat's event sender, another seat's tables, stored files or
-- the moment.
pub record LeavesOthersAlone (seat : ℕ) (before after : Held) : Type 0 where
  pub host : after.events.host ≡ before.events.host
  pub senders : (other : ℕ) → other ≢ seat → sender_at (Some other) after.events ≡ sender_at (Some other) before.events
  pub tables : (other : ℕ) → other ≢ seat → tables_at other after.tables.places ≡ tables_at other before.tables.places
  pub files : after.tables.files ≡ before.tables.files
  pub moment : after.moment ≡ before.moment

-- The pipe of a seat, as packets without publication numbers.
abbrev pub seen_at : ℕ → Held → Option Pipe
seen_at seat held = slice_index_or (seen held.bus) seat None

-- Every other pipe has the same subscriptions, and has gained those published packets that it is subscribed to.
abbrev pub PipesHear : ℕ → List (List ℕ) → Held → Held → Type 0
PipesHear seat published before after = (other : ℕ) → other ≢ seat →
    seen_at other after ≡ option_map (λ (pipe : Pipe). record pipe { waiting = pipe.waiting ++ filter (λ packet. hears packet pipe) published }) (seen_at other before)

-- The most bytes of output of one call.
abbrev pub outgoing_room : ℕ
outgoing_room = 65536

-- The most packets that one call publishes.
abbrev pub most_published : ℕ
most_published = 8

-- ---- the calls

-- A call of the object on `seat`: others are unchanged, `published` reaches its subscribers, and its output has at most 65,536
-- bytes.
pub record IsCallOf (seat : ℕ) (name : Name) (published : List (List ℕ)) (before after : Held) : Type 0 where
  pub others : LeavesOthersAlone seat before after
  pub pipes : PipesHear seat published before after
  pub outgoing : length after.outgoing ≤ outgoing_room

-- `start` needs a free seat, a name that no sender or table uses, and no waiting output.
pub record MayBeStarted (seat : ℕ) (name : Name) (held : Held) : Type 0 where
  pub seat_exists : seat < seat_count
  pub free : IsFreeSeat seat held
  pub unused : IsUnusedName name held
  pub idle : held.outgoing ≡ []

-- `start` publishes nothing, and leaves an empty pipe and a registered event sender; the seat's sender and tables are under the
-- object's name.
pub record IsStarted (seat : ℕ) (name : Name) (before after : Held) : Type 0 where
  pub call : IsCallOf seat name [] before after
  pub pipe : IfSome (seen_at seat after) (λ (pipe : Pipe). pipe.waiting ≡ [])
  pub has_pipe : seen_at seat after ≢ None
  pub sender : sender_at (Some seat) after.events ≢ None
  pub belongs : BelongsTo seat name after

-- The packets that wait in a pipe; none without a pipe.
abbrev pub waiting_in : Option Pipe → List (List ℕ)
waiting_in None = []
waiting_in (Some pipe) = pipe.waiting

-- `on_packet` needs a packet without a header fault and no waiting output; for a tick each pipe needs room for 8 packets.
pub record MayBeGiven (seat : ℕ) (name : Name) (packet : List ℕ) (held : Held) : Type 0 where
  pub belongs : BelongsTo seat name held
  pub good : header_fault packet ≡ None
  pub idle : held.outgoing ≡ []
  pub room : message_id packet ≡ tick_mid → AllByRecursion (λ (pipe : Option Pipe). length (waiting_in pipe) + most_published ≤ pipe_depth) (seen held.bus)

-- A call publishes at most 8 packets, only for a tick, and no tick.
pub record MayPublish (packet : List ℕ) (published : List (List ℕ)) : Type 0 where
  pub few : length published ≤ most_published
  pub for_ticks : published ≢ [] → message_id packet ≡ tick_mid
  pub no_ticks : AllByRecursion (λ (other : List ℕ). message_id other ≢ tick_mid) published

-- The first list is part of the second, in the same order.
abbrev pub IsPartOf : {A : Type 0} → List A → List A → Type 0
IsPartOf [] all = ⊤
IsPartOf (x ∷ part) [] = ⊥
IsPartOf (x ∷ part) (y ∷ all) = ((x ≡ y) × IsPartOf part all) ⊎ IsPartOf (x ∷ part) all

-- The object's own pipe after the call: the packets that waited (none if the pipe is a new one), then published packets to which
-- the pipe is subscribed, in order. (An object that changes its subscriptions while it publishes misses some of them.)
pub record IsOwnPipe (old : Option Pipe) (published : List (List ℕ)) (new : Pipe) : Type 0 where
  pub stayed : List (List ℕ)
  pub heard : List (List ℕ)
  pub waiting : new.waiting ≡ stayed ++ heard
  pub old_or_new : (stayed ≡ waiting_in old) ⊎ (stayed ≡ [])
  pub heard_of : IsPartOf heard (filter (λ packet. hears packet new) published)

-- `on_packet`: what it publishes reaches the other pipes, and the seat's sender and tables stay under the object's name.
pub record IsGiven (seat : ℕ) (name : Name) (packet : List ℕ) (before after : Held) : Type 0 where
  pub published : List (List ℕ)
  pub may : MayPublish packet published
  pub call : IsCallOf seat name published before after
  pub own : IfSome (seen_at seat after) (IsOwnPipe (seen_at seat before) published)
  pub belongs : BelongsTo seat name after

-- `retire` publishes nothing, and leaves the seat free.
pub record IsRetired (seat : ℕ) (name : Name) (before after : Held) : Type 0 where
  pub call : IsCallOf seat name [] before after
  pub free : IsFreeSeat seat after
