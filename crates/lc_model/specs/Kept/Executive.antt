-- The host in numbers: spares, seats, pipes and services, and what one record does to them. Services and executive commands
-- follow the cFE user's guide (executive services, software bus); the order of calls and the refusals are this project's own.
-- Of what an object that is `Other` does nothing is promised: for its calls these definitions only remove its packet from its pipe. A
-- start removes it from the stock, and when it leaves, its seat and pipe are free.
use Rattle.std.specs.Prelude.{ℕ, zero, suc, ◌==◌, Bool, true, false, not, List, [], ◌∷◌, ◌++◌, map, remove, replicate, slice_index_or, slice_set, if◌then◌else◌, Option, Some, None, is_none, option_map, unwrap_or, Result, Ok, Err}
use Rattle.std.specs.Option.{option_map_or}
use Rattle.std.specs.List.{list_any, position_from}
use Rattle.lc_model.specs.declared.record.Moment.{Moment}
use Rattle.lc_model.specs.Name.{Name, is_named, host_name, value_under}
use Rattle.lc_model.specs.Packet.{stream_fault, function_code, message_id, tick_mid, command, by_service}
use Rattle.lc_model.specs.Refusal.{Refusal, ◌>>=◌, refused, found, provided, not_registered, filters_full, no_file, unknown_table, wrong_image_size, not_running, no_spare, already_running, no_free_seat}
use Rattle.lc_model.specs.Tables.Slot.{loaded, moved}
use Rattle.lc_model.specs.Tables.Interpretation.{FileMeaning, Interpretation, FileMeanings, kind_named}
use Rattle.lc_model.specs.Events.Request.{Request, Service, event_services, table_services, executive_services, command_done, command_refused, bad_packet, file_stored, file_refused}
use Rattle.lc_model.specs.Events.Log.{LogItem, FilterSet}
use Rattle.lc_model.specs.Command.{TableCommand, Load, Manage, Order, Start, Stop, Restart, Reload, event_command_in, table_command_in, order_in}
use Rattle.lc_model.specs.Host.Stream.{StreamEntry}
use Rattle.lc_model.specs.Host.React.{Input, Packet, Tick, File, stored, opened_file}
use Rattle.lc_model.specs.Host.Run.{input_of}
use Rattle.lc_model.specs.Kept.Summary.{EventState, AppState, Other}
use Rattle.lc_model.specs.Kept.Next.{events_after, next_is_full}
use Rattle.lc_model.specs.Kept.Call.{with_at, ServicesNow, Called, new_sender, sent_by, next_start, next_on_packet, next_retire}

-- ---- the host's parts

-- An application object: its name and its present state.
pub record Member : Type 0 where
  pub called : Name
  pub state : AppState

-- A pipe: its subscribed message ids, and its waiting packets, oldest first.
pub record Pipe : Type 0 where
  pub subscriptions : List ℕ
  pub waiting : List (List ℕ)

-- The host: spares in stock order, eight seats, the pipe of each seat, and the services.
pub record Executive (Image : Type 0) : Type 0 where
  pub stock : List Member
  pub seats : List (Option Member)
  pub pipes : List (Option Pipe)
  pub services : ServicesNow Image

-- The number of seats.
abbrev pub seat_count : ℕ
seat_count = 8

-- The executive after a step, and the packets that the step wrote, in order.
abbrev pub Written : Type 0 → Type 0
Written Image = Executive Image × List (List ℕ)

-- A placeholder, used where a list has no object at a place.
abbrev pub no_member : Member
no_member = record { called = []; state = Other }

-- ---- the pipes

-- Whether a pipe is subscribed to the packet's message id.
abbrev pub hears : List ℕ → Pipe → Bool
hears packet pipe = list_any (λ mid. message_id packet == mid) pipe.subscriptions

-- A pipe after `packet` was published: the packet is appended if the pipe is subscribed to it.
abbrev pub offered : List ℕ → Pipe → Pipe
offered packet pipe = if hears packet pipe then record pipe { waiting = pipe.waiting ++ packet ∷ [] } else pipe

-- All pipes after `packet` was published: each subscriber has it once.
abbrev pub published_to : List (Option Pipe) → List ℕ → List (Option Pipe)
published_to pipes packet = map (option_map (offered packet)) pipes

-- All pipes after these packets were published, in order.
unfoldable pub all_published_to : List (Option Pipe) → List (List ℕ) → List (Option Pipe)
all_published_to pipes [] = pipes
all_published_to pipes (packet ∷ packets) = all_published_to (published_to pipes packet) packets

-- Whether the list is not empty.
abbrev pub has_some : List (List ℕ) → Bool
has_some [] = false
has_some (packet ∷ packets) = true

-- Whether a packet waits in this seat's pipe.
abbrev pub is_ready : Option Pipe → Bool
is_ready None = false
is_ready (Some pipe) = has_some pipe.waiting

-- The least seat number with a waiting packet.
abbrev pub ready_seat : List (Option Pipe) → Option ℕ
ready_seat pipes = position_from is_ready 0 pipes

-- ---- seats and stock

-- Whether the object has this name.
abbrev pub is_called : Name → Member → Bool
is_called name member = is_named name member.called

-- Whether the seat has an object of this name.
abbrev pub is_seated : Name → Option Member → Bool
is_seated name None = false
is_seated name (Some member) = is_called name member

-- The seat of the running application of this name.
abbrev pub seat_of : Name → List (Option Member) → Option ℕ
seat_of name seats = position_from (is_seated name) 0 seats

-- The place in stock of the first spare of this name.
abbrev pub spare_of : Name → List Member → Option ℕ
spare_of name stock = position_from (is_called name) 0 stock

-- The least free seat.
abbrev pub free_seat : List (Option Member) → Option ℕ
free_seat seats = position_from is_none 0 seats

-- The object on seat `k`, and the spare at place `i`.
abbrev pub seated : List (Option Member) → ℕ → Member
seated seats k = unwrap_or (slice_index_or seats k None) no_member

abbrev pub spare_at : List Member → ℕ → Member
spare_at stock i = slice_index_or stock i no_member

-- ---- one call

-- A sender's filters and types after an event command; setting a filter is refused (102) if the sender already has 16 other
-- filters.
abbrev pub joined_now : LogItem → EventState → Result EventState Refusal
joined_now (FilterSet id mask) events =
    if next_is_full id events then refused filters_full else Ok (events_after (FilterSet id mask) events)
joined_now item events = Ok (events_after item events)

-- The packet 0x18C0 that a tick publishes inside the host.
abbrev pub tick_packet : List ℕ
tick_packet = command tick_mid 0 0 []

-- The most deliveries for one record: a tick in each of 8 pipes, and for each of these ticks 8 packets in each of 8 pipes. That
-- makes 520 (8 + 8 * 8 * 8).
abbrev pub most_deliveries : ℕ
most_deliveries = 520

module _ {Image : Type 0} where
  -- One step, then another: their packets are joined.
  abbrev pub followed : Written Image → (Executive Image → Written Image) → Written Image
  followed first next = let others : Written Image = next first.0 in (others.0, first.1 ++ others.1)

  -- The services become `sent.0`, and the packets `sent.1` are written.
  abbrev pub serviced : Executive Image → ServicesNow Image × List (List ℕ) → Written Image
  serviced e sent = (record e { services = sent.0 }, sent.1)

  -- The executive with the changed services, and no packet written; or the refusal.
  abbrev pub with_services : Executive Image → Result (ServicesNow Image) Refusal → Result (Written Image) Refusal
  with_services e (Ok services) = Ok (record e { services = services }, [])
  with_services e (Err refusal) = Err refusal

  -- `HOST` sends these event requests.
  abbrev pub told_by_host : Moment → List Request → Executive Image → Written Image
  told_by_host moment requests e = serviced e (sent_by moment host_name requests e.services)

  -- The executive after a call of the object on seat `k`: its new state, its subscriptions, the packets `waiting` in its pipe,
  -- then what it published, and the services.
  abbrev pub after_call : ℕ → Name → List (List ℕ) → Executive Image → Called Image → Written Image
  after_call k name waiting e call = (
    record {
      stock = e.stock;
      seats = slice_set e.seats k (Some (record { called = name; state = call.state }));
      pipes = all_published_to (slice_set e.pipes k (Some (record { subscriptions = call.mids; waiting = waiting }))) call.published;
      services = call.services;
    },
    call.outgoing,
  )

  -- The first packet is removed from the pipe of seat `k`; nothing else changes.
  abbrev pub after_taking : ℕ → Pipe → List (List ℕ) → Executive Image → Written Image
  after_taking k pipe waiting e = (record e { pipes = slice_set e.pipes k (Some (record pipe { waiting = waiting })) }, [])

  -- The object on seat `k` is retired: its seat is free, and its pipe, tables and event sender are removed.
  abbrev pub left_from : ℕ → Executive Image → Executive Image
  left_from k e = record {
    stock = e.stock;
    seats = slice_set e.seats k None;
    pipes = slice_set e.pipes k None;
    services = unwrap_or (next_retire (seated e.seats k).state e.services) e.services;
  }

  -- The spare at place `i` is removed from the stock.
  abbrev pub without_spare : ℕ → Executive Image → Executive Image
  without_spare i e = record e { stock = remove e.stock i }

  module _ (images : Interpretation Image) (moment : Moment) where
    -- Object `member` is started on seat `k`.
    abbrev pub begun_on : ℕ → Member → Executive Image → Written Image
    begun_on k member e = option_map_or (after_call k member.called [] e) (next_start images moment member.state e.services) (e, [])

    -- The object on seat `k` handles the first packet of its pipe; `waiting` are the packets after it.
    abbrev pub handed : ℕ → Member → Pipe → List (List ℕ) → Executive Image → Written Image
    handed k member pipe [] e = (e, [])
    handed k member pipe (packet ∷ waiting) e =
        option_map_or (after_call k member.called waiting e) (next_on_packet images moment member.state packet e.services)
        (after_taking k pipe waiting e)

    -- One delivery: the object on seat `k` handles the oldest packet of its pipe.
    abbrev pub delivered_at : ℕ → Executive Image → Written Image
    delivered_at k e =
        option_map_or (λ (pipe : Pipe). handed k (seated e.seats k) pipe pipe.waiting e) (slice_index_or e.pipes k None) (e, [])

    -- Deliveries, each at the least seat with a waiting packet, until no packet waits; at most `most`.
    unfoldable pub drained : ℕ → Executive Image → Written Image
    drained zero e = (e, [])
    drained (suc most) e =
        option_map_or (λ k. followed (delivered_at k e) (λ after. drained most after)) (ready_seat e.pipes) (e, [])

    -- `packet` is published, and then all pipes are emptied.
    abbrev pub passed_on : List ℕ → Executive Image → Written Image
    passed_on packet e = drained most_deliveries (record e { pipes = published_to e.pipes packet })

    -- ---- services

    -- The service executes the command and then `HOST` sends "command done"; or `HOST` sends "command refused" and nothing else
    -- changes.
    abbrev pub answered_now : Service → List ℕ → Executive Image → Result (Written Image) Refusal → Written Image
    answered_now service packet e (Ok step) = followed step (told_by_host moment (command_done service (function_code packet) ∷ []))
    answered_now service packet e (Err refusal) = told_by_host moment (command_refused service refusal ∷ []) e

    -- ---- executive services

    -- Start, stop, restart or reload of the application `name`. For example, start is refused with 123 if it runs, 122 without a
    -- spare, 124 without a free seat.
    abbrev pub ordered_now : Order → Name → Executive Image → Result (Written Image) Refusal
    ordered_now Start name e =
        if not (is_none (seat_of name e.seats)) then refused already_running
        else (do
          i ← found (spare_of name e.stock) no_spare
          k ← found (free_seat e.seats) no_free_seat
          Ok (begun_on k (spare_at e.stock i) (without_spare i e)))
    ordered_now Stop name e = do
      k ← found (seat_of name e.seats) not_running
      Ok (left_from k e, [])
    ordered_now Restart name e = do
      k ← found (seat_of name e.seats) not_running
      Ok (begun_on k (seated e.seats k) (left_from k e))
    ordered_now Reload name e = do
      k ← found (seat_of name e.seats) not_running
      i ← found (spare_of name e.stock) no_spare
      Ok (begun_on k (spare_at e.stock i) (without_spare i (left_from k e)))

    -- A command to executive services (0x1806).
    abbrev pub executive_service_now : List ℕ → Executive Image → Result (Written Image) Refusal
    executive_service_now packet e = do
      command ← order_in packet
      ordered_now command.0 command.1 e

  -- ---- event services

  -- A command to event services (0x1801): it changes the filters or types of the named sender.
  abbrev pub event_service_now : List ℕ → ServicesNow Image → Result (ServicesNow Image) Refusal
  event_service_now packet services = do
    command ← event_command_in packet
    events ← found (services.events command.0) not_registered
    after ← joined_now command.1 events
    Ok (record services { events = with_at command.0 (Some after) services.events })

  -- ---- files

  -- The file store becomes `files` with event 2; or it stays, with event 3 and the refusal's number.
  abbrev pub filed_now : Moment → Executive Image → Result (List (Name × FileMeaning Image)) Refusal → Written Image
  filed_now moment e (Ok files) = told_by_host moment (file_stored ∷ []) (record e { services = record e.services { files = files } })
  filed_now moment e (Err refusal) = told_by_host moment (file_refused refusal ∷ []) e

  -- ---- table services

  module _ (images : Interpretation Image) where
    -- The services after a table command: a load copies a stored file's image into a slot, any other command moves the waiting
    -- image of the named table.
    abbrev pub managed_now : TableCommand → ServicesNow Image → Result (ServicesNow Image) Refusal
    managed_now (Load file) services = do
      meaning ← found (value_under file services.files) no_file
      contents ← opened_file meaning
      kind ← found (kind_named contents.0) unknown_table
      slot ← found (services.slots contents.0) unknown_table
      image ← provided (images.has_size kind contents.1) wrong_image_size contents.2
      after ← loaded image slot
      Ok (record services { slots = with_at contents.0 (Some after) services.slots })
    managed_now (Manage move name) services = do
      slot ← found (services.slots name) unknown_table
      after ← moved move slot
      Ok (record services { slots = with_at name (Some after) services.slots })

    -- A command to table services (0x1804).
    abbrev pub table_service_now : List ℕ → ServicesNow Image → Result (ServicesNow Image) Refusal
    table_service_now packet services = do
      command ← table_command_in packet
      managed_now command services

    -- ---- one record

    -- A packet without a fault: a command to one of the three services is executed, any other packet is published and delivered.
    abbrev pub routed_now : Moment → List ℕ → Executive Image → Written Image
    routed_now moment packet e =
        by_service (message_id packet)
        (answered_now images moment event_services packet e (with_services e (event_service_now packet e.services)))
        (answered_now images moment table_services packet e (with_services e (table_service_now packet e.services)))
        (answered_now images moment executive_services packet e (executive_service_now images moment packet e))
        (passed_on images moment packet e)

    -- What one record does: a bad packet gives event 1, a tick is published, a file is stored.
    abbrev pub step_by : Moment → Executive Image → Input Image → Written Image
    step_by moment e (Packet bytes) =
        option_map_or (λ reason. told_by_host moment (bad_packet reason ∷ []) e) (stream_fault bytes) (routed_now moment bytes e)
    step_by moment e Tick = passed_on images moment tick_packet e
    step_by moment e (File name size meaning) = filed_now moment e (stored name size meaning e.services.files)

    -- ---- whole runs

    -- The packets that the host writes over these records, in order.
    unfoldable pub written_from : Executive Image → FileMeanings Image → List StreamEntry → List (List ℕ)
    written_from e meanings [] = []
    written_from e meanings (entry ∷ entries) =
        let step : Written Image = step_by entry.moment e (input_of meanings entry.contents) in
        step.1 ++ written_from step.0 meanings entries

  -- A new host: nothing runs, only `HOST` is registered as an event sender, no file is stored, all sequence counts are 0.
  abbrev pub first_executive : List Member → Executive Image
  first_executive stock = record {
    stock = stock;
    seats = replicate seat_count None;
    pipes = replicate seat_count None;
    services = record {
      files = [];
      slots = λ name. None;
      events = with_at host_name (Some new_sender) (λ name. None);
      counts = λ mid. 0;
    };
  }
