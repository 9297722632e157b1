-- One step of the host in numbers, write by write: the host at each write (a station), and where it stops if a write fails. This
-- project's own.
use Rattle.std.specs.Prelude.{ℕ, zero, suc, ◌+◌, ◌-◌, Bool, true, false, nat_lt, List, [], ◌∷◌, ◌++◌, length, if◌then◌else◌, Option, Some, None, Result, Ok, Err}
use Rattle.std.specs.Option.{option_map_or}
use Rattle.std.specs.List.{concat}
use Rattle.lc_model.specs.declared.record.Moment.{Moment}
use Rattle.lc_model.specs.Packet.{stream_fault, function_code, message_id, by_service}
use Rattle.lc_model.specs.Refusal.{Refusal}
use Rattle.lc_model.specs.Tables.Interpretation.{Interpretation}
use Rattle.lc_model.specs.Events.Request.{event_services, table_services, executive_services, command_done, command_refused, bad_packet}
use Rattle.lc_model.specs.Host.React.{Input, Packet, Tick, File, stored}
use Rattle.lc_model.specs.Kept.Executive.{Executive, Written, Member, ready_seat, published_to, tick_packet, most_deliveries, with_services, told_by_host, delivered_at, answered_now, event_service_now, table_service_now, executive_service_now, filed_now, step_by, first_executive}

-- A station: the executive at this write, the `on_packet` calls so far, and the packets that it writes.
pub record Station (Image : Type 0) : Type 0 where
  pub executive : Executive Image
  pub calls : ℕ
  pub packets : List (List ℕ)

-- The bytes of this write.
abbrev pub size_at : {Image : Type 0} → Station Image → ℕ
size_at station = length (concat station.packets)

-- The first station whose write does not fit, if the writer takes `room` bytes in all.
unfoldable pub stop_at : {Image : Type 0} → ℕ → List (Station Image) → Option (Station Image)
stop_at room [] = None
stop_at room (station ∷ stations) = if nat_lt room (size_at station) then Some station else stop_at (room - size_at station) stations

-- The host: its executive, whether a failed write has closed it, and the `on_packet` calls for the last record.
pub record Host (Image : Type 0) : Type 0 where
  pub executive : Executive Image
  pub is_closed : Bool
  pub calls : ℕ

-- A new host with these spares.
abbrev pub first_host : {Image : Type 0} → List Member → Host Image
first_host stock = record { executive = first_executive stock; is_closed = false; calls = 0 }

module _ {Image : Type 0} where
  -- A single write after all work, without a call of `on_packet`.
  abbrev pub written_once : Written Image → List (Station Image)
  written_once step = record { executive = step.0; calls = 0; packets = step.1 } ∷ []

  module _ (images : Interpretation Image) (moment : Moment) where
    -- At most `most` deliveries, each at the least seat with a waiting packet and followed by a write; `calls` were made before.
    unfoldable pub delivery_stations : ℕ → ℕ → Executive Image → List (Station Image)
    delivery_stations calls zero e = []
    delivery_stations calls (suc most) e =
        option_map_or (λ k. let step : Written Image = delivered_at images moment k e in
        record { executive = step.0; calls = calls + 1; packets = step.1 } ∷ delivery_stations (calls + 1) most step.0) (ready_seat e.pipes) []

    -- `packet` is published, and all packets are delivered.
    abbrev pub passing_stations : List ℕ → Executive Image → List (Station Image)
    passing_stations packet e = delivery_stations 0 most_deliveries (record e { pipes = published_to e.pipes packet })

    -- An executive command: one write after the applications' calls, and one for `HOST`'s event.
    abbrev pub order_stations : List ℕ → Executive Image → Result (Written Image) Refusal → List (Station Image)
    order_stations packet e (Ok step) =
        written_once step ++ written_once (told_by_host moment (command_done executive_services (function_code packet) ∷ []) step.0)
    order_stations packet e (Err refusal) = written_once (told_by_host moment (command_refused executive_services refusal ∷ []) e)

    -- A packet without a fault.
    abbrev pub routed_stations : List ℕ → Executive Image → List (Station Image)
    routed_stations packet e =
        by_service (message_id packet)
        (written_once (answered_now images moment event_services packet e (with_services e (event_service_now packet e.services))))
        (written_once (answered_now images moment table_services packet e (with_services e (table_service_now images packet e.services))))
        (order_stations packet e (executive_service_now images moment packet e))
        (passing_stations packet e)

    -- The stations of a record, in order.
    abbrev pub stations_of : Executive Image → Input Image → List (Station Image)
    stations_of e (Packet bytes) =
        option_map_or (λ reason. written_once (told_by_host moment (bad_packet reason ∷ []) e)) (stream_fault bytes) (routed_stations bytes e)
    stations_of e Tick = passing_stations tick_packet e
    stations_of e (File name size meaning) = written_once (filed_now moment e (stored name size meaning e.services.files))

    -- The number of `on_packet` calls for the record.
    unfoldable pub last_calls : List (Station Image) → ℕ
    last_calls [] = 0
    last_calls (station ∷ []) = station.calls
    last_calls (station ∷ other ∷ stations) = last_calls (other ∷ stations)

    -- The host after a record, if no write fails.
    abbrev pub host_after : Host Image → Input Image → Host Image
    host_after host input = record {
      executive = (step_by images moment host.executive input).0;
      is_closed = false;
      calls = last_calls (stations_of host.executive input);
    }

    -- The host after a record if the writer takes only `room` bytes; the second part is `None` if that is enough, else the
    -- bytes that it took. A closed host does nothing and writes 0 bytes.
    abbrev pub host_step : ℕ → Host Image → Input Image → Host Image × Option ℕ
    host_step room host input =
        if host.is_closed then (host, Some 0)
        else option_map_or (λ (station : Station Image). (record { executive = station.executive; is_closed = true; calls = station.calls }, Some room))
        (stop_at room (stations_of host.executive input)) (host_after host input, None)
