-- The writes of a record, the calls that it leads to, and a host whose writer fails.
use Rattle.std.proofs.Common.{◌≡◌, refl, ap, sym, ◌∙◌, subst, ℕ, zero, suc, ◌+◌, ◌-◌, ◌<◌, ◌≤◌, Bool, true, false, ◌==◌, nat_lt, List, [], ◌∷◌, ◌++◌, length, arith, append-nil, length-append, if◌then◌else◌, Option, Some, None, is_some, Result, Ok, Err, true≢false}
use Rattle.std.specs.Option.{option_map_or}
use Rattle.std.specs.List.{concat}
use Rattle.std.proofs.lemmas.List.Folds.{concat-append}
use Rattle.std.proofs.lemmas.Bool.{ltb-true, ltb-false}
use Rattle.lc_model.specs.declared.record.Moment.{Moment}
use Rattle.lc_model.specs.Packet.{stream_fault, message_id, event_services_mid, table_services_mid, executive_services_mid}
use Rattle.lc_model.specs.Refusal.{Refusal}
use Rattle.lc_model.specs.Tables.Interpretation.{Interpretation}
use Rattle.lc_model.specs.Events.Request.{event_services, table_services, executive_services, bad_packet}
use Rattle.lc_model.specs.Host.React.{Input, Packet, Tick, File, stored}
use Rattle.lc_model.specs.Kept.Executive.{Executive, Written, with_services, told_by_host, event_service_now, table_service_now, filed_now, ready_seat, published_to, tick_packet, most_deliveries, delivered_at, drained, passed_on, answered_now, executive_service_now, routed_now, step_by}
use Rattle.lc_model.specs.Kept.Stations.{Station, size_at, stop_at, Host, written_once, delivery_stations, passing_stations, order_stations, routed_stations, stations_of, last_calls, host_after, host_step}
use Rattle.host_refinement.specs.Writes.{packets_at, StopsWhereItMust, TakesAsAnswered}

-- ---- rooms

none_is_none : {A : Type 0} (a : A) → None ≡ Some a → ⊥
none_is_none a e = true≢false (sym (ap is_some e))

pub stops_where_it_must : {Image : Type 0} (room : ℕ) (stations : List (Station Image)) → StopsWhereItMust room stations
unfolding stop_at packets_at
stops_where_it_must room [] = record { whole = λ e. omega arith; short = λ station e. absurd (none_is_none station e) }
stops_where_it_must {Image} room (station ∷ stations) =
    let both = by_test (nat_lt room (size_at station)) refl (stops_where_it_must (room - size_at station) stations) in
    record { whole = both.0; short = both.1 }
  where
    total : length (concat (station.packets ++ packets_at stations)) ≡ size_at station + length (concat (packets_at stations))
    total = ap (λ (bytes : List ℕ). length bytes) (concat-append station.packets (packets_at stations)) ∙ length-append (concat station.packets) (concat (packets_at stations))

    by_test : (test : Bool) → nat_lt room (size_at station) ≡ test → StopsWhereItMust (room - size_at station) stations →
        ((let stop : Option (Station Image) = if test then Some station else stop_at (room - size_at station) stations in stop) ≡ None → length (concat (station.packets ++ packets_at stations)) ≤ room)
        × ((other : Station Image) → (let stop : Option (Station Image) = if test then Some station else stop_at (room - size_at station) stations in stop) ≡ Some other → room < length (concat (station.packets ++ packets_at stations)))
    by_test true is others = (λ e. absurd (none_is_none station (sym e)), λ other e. omega (arith, total, ltb-true room (size_at station) is))
    by_test false is others = (λ e. omega (arith, total, ltb-false room (size_at station) is, others.whole e), λ other e. omega (arith, total, ltb-false room (size_at station) is, others.short other e))

-- ---- deliveries

module _ {Image : Type 0} (images : Interpretation Image) (moment : Moment) where
  deliveries_write : (calls most : ℕ) (e : Executive Image) → packets_at (delivery_stations images moment calls most e) ≡ (drained images moment most e).1
  unfolding packets_at delivery_stations drained
  deliveries_write calls zero e = refl
  deliveries_write calls (suc most) e = by_ready (λ e. deliveries_write (calls + 1) most e) (ready_seat e.pipes)
    where
      by_ready : ((e : Executive Image) → packets_at (delivery_stations images moment (calls + 1) most e) ≡ (drained images moment most e).1) → (o : Option ℕ) →
          packets_at (option_map_or (λ k. let step : Written Image = delivered_at images moment k e in
          record { executive = step.0; calls = calls + 1; packets = step.1 } ∷ delivery_stations images moment (calls + 1) most step.0) o [])
          ≡ (let s : Written Image = option_map_or (λ k. let first : Written Image = delivered_at images moment k e in let others : Written Image = drained images moment most first.0 in (others.0, first.1 ++ others.1)) o (e, []) in s.1)
      by_ready others None = refl
      by_ready others (Some k) = ap (λ packets. (delivered_at images moment k e).1 ++ packets) (others (delivered_at images moment k e).0)

  last_of : (calls most : ℕ) (station : Station Image) (stations : List (Station Image)) → station.calls ≤ calls → last_calls images moment stations ≤ calls →
      last_calls images moment (station ∷ stations) ≤ calls
  unfolding last_calls
  last_of calls most station [] here others = here
  last_of calls most station (other ∷ stations) here others = others

  deliveries_are_bounded : (calls most : ℕ) (e : Executive Image) → last_calls images moment (delivery_stations images moment calls most e) ≤ calls + most
  unfolding delivery_stations last_calls
  deliveries_are_bounded calls zero e = omega arith
  deliveries_are_bounded calls (suc most) e = by_ready (λ e. deliveries_are_bounded (calls + 1) most e) (ready_seat e.pipes)
    where
      by_ready : ((e : Executive Image) → last_calls images moment (delivery_stations images moment (calls + 1) most e) ≤ (calls + 1) + most) → (o : Option ℕ) →
          last_calls images moment (option_map_or (λ k. let step : Written Image = delivered_at images moment k e in
          record { executive = step.0; calls = calls + 1; packets = step.1 } ∷ delivery_stations images moment (calls + 1) most step.0) o []) ≤ calls + suc most
      by_ready others None = omega arith
      by_ready others (Some k) =
          let step : Written Image = delivered_at images moment k e in
          let rest = others step.0 in
          last_of (calls + suc most) most (record { executive = step.0; calls = calls + 1; packets = step.1 }) (delivery_stations images moment (calls + 1) most step.0) (omega arith) (omega (arith, rest))

  -- ---- whole records

  once : (step : Written Image) → packets_at (written_once step) ≡ step.1
  unfolding packets_at
  once step = append-nil step.1

  orders_write : (packet : List ℕ) (e : Executive Image) (r : Result (Written Image) Refusal) →
      packets_at (order_stations images moment packet e r) ≡ (answered_now images moment executive_services packet e r).1
  unfolding packets_at
  orders_write packet e (Ok step) = ap (λ packets. step.1 ++ packets) (append-nil _)
  orders_write packet e (Err refusal) = append-nil _

  -- a branch
  either : (test : Bool) (a b : List (Station Image)) (s t : Written Image) → packets_at a ≡ s.1 → packets_at b ≡ t.1 →
      packets_at (if test then a else b) ≡ (let r : Written Image = if test then s else t in r).1
  either true a b s t x y = x
  either false a b s t x y = y

  routed_write : (packet : List ℕ) (e : Executive Image) → packets_at (routed_stations images moment packet e) ≡ (routed_now images moment packet e).1
  routed_write packet e =
      let event : Written Image = answered_now images moment event_services packet e (with_services e (event_service_now packet e.services)) in
      let table : Written Image = answered_now images moment table_services packet e (with_services e (table_service_now images packet e.services)) in
      let order : Result (Written Image) Refusal = executive_service_now images moment packet e in
      either (message_id packet == event_services_mid) _ _ event _ (once event)
      (either (message_id packet == table_services_mid) _ _ table _ (once table)
      (either (message_id packet == executive_services_mid) _ _ (answered_now images moment executive_services packet e order) (passed_on images moment packet e)
      (orders_write packet e order) (deliveries_write 0 most_deliveries (record e { pipes = published_to e.pipes packet }))))

  pub writes_are_the_steps : (e : Executive Image) (input : Input Image) → packets_at (stations_of images moment e input) ≡ (step_by images moment e input).1
  writes_are_the_steps e Tick = deliveries_write 0 most_deliveries (record e { pipes = published_to e.pipes tick_packet })
  writes_are_the_steps e (File name size meaning) = once (filed_now moment e (stored name size meaning e.services.files))
  writes_are_the_steps e (Packet bytes) = by_fault (stream_fault bytes)
    where
      by_fault : (o : Option ℕ) → packets_at (option_map_or (λ reason. written_once (told_by_host moment (bad_packet reason ∷ []) e)) o (routed_stations images moment bytes e))
          ≡ (let s : Written Image = option_map_or (λ reason. told_by_host moment (bad_packet reason ∷ []) e) o (routed_now images moment bytes e) in s.1)
      by_fault (Some reason) = once (told_by_host moment (bad_packet reason ∷ []) e)
      by_fault None = routed_write bytes e

  -- ---- calls

  once_none : (step : Written Image) → last_calls images moment (written_once step) ≤ most_deliveries
  unfolding last_calls
  once_none step = omega arith

  orders_none : (packet : List ℕ) (e : Executive Image) (r : Result (Written Image) Refusal) → last_calls images moment (order_stations images moment packet e r) ≤ most_deliveries
  unfolding last_calls
  orders_none packet e (Ok step) = omega arith
  orders_none packet e (Err refusal) = omega arith

  either_few : (test : Bool) (a b : List (Station Image)) → last_calls images moment a ≤ most_deliveries → last_calls images moment b ≤ most_deliveries →
      last_calls images moment (if test then a else b) ≤ most_deliveries
  either_few true a b x y = x
  either_few false a b x y = y

  passing_few : (packet : List ℕ) (e : Executive Image) → last_calls images moment (passing_stations images moment packet e) ≤ most_deliveries
  passing_few packet e = deliveries_are_bounded 0 most_deliveries (record e { pipes = published_to e.pipes packet })

  routed_few : (packet : List ℕ) (e : Executive Image) → last_calls images moment (routed_stations images moment packet e) ≤ most_deliveries
  routed_few packet e =
      either_few (message_id packet == event_services_mid) _ _ (once_none (answered_now images moment event_services packet e (with_services e (event_service_now packet e.services))))
      (either_few (message_id packet == table_services_mid) _ _ (once_none (answered_now images moment table_services packet e (with_services e (table_service_now images packet e.services))))
      (either_few (message_id packet == executive_services_mid) _ _ (orders_none packet e (executive_service_now images moment packet e)) (passing_few packet e)))

  pub calls_are_bounded : (e : Executive Image) (input : Input Image) → last_calls images moment (stations_of images moment e input) ≤ most_deliveries
  calls_are_bounded e Tick = passing_few tick_packet e
  calls_are_bounded e (File name size meaning) = once_none (filed_now moment e (stored name size meaning e.services.files))
  calls_are_bounded e (Packet bytes) = by_fault (stream_fault bytes)
    where
      by_fault : (o : Option ℕ) → last_calls images moment (option_map_or (λ reason. written_once (told_by_host moment (bad_packet reason ∷ []) e)) o (routed_stations images moment bytes e)) ≤ most_deliveries
      by_fault (Some reason) = once_none (told_by_host moment (bad_packet reason ∷ []) e)
      by_fault None = routed_few bytes e

  -- ---- a host

  module _ (room : ℕ) (executive : Executive Image) (calls : ℕ) (input : Input Image) where
    -- an open host, and what its step comes to by where it stops
    abbrev open_host : Host Image
    open_host = record { executive = executive; is_closed = false; calls = calls }

    abbrev by_stop : Option (Station Image) → Host Image × Option ℕ
    by_stop stop = option_map_or (λ (station : Station Image). (record { executive = station.executive; is_closed = true; calls = station.calls }, Some room)) stop (host_after images moment open_host input, None)

    output : length (concat (packets_at (stations_of images moment executive input))) ≡ length (concat (step_by images moment executive input).1)
    output = ap (λ (packets : List (List ℕ)). length (concat packets)) (writes_are_the_steps executive input)

    stopped : (o : Option (Station Image)) → stop_at room (stations_of images moment executive input) ≡ o → TakesAsAnswered images moment room open_host input (host_step images moment room open_host input).1
    stopped None e =
        subst (λ (answer : Option ℕ). TakesAsAnswered images moment room open_host input answer) (sym (ap (λ o. (by_stop o).1) e)) (record {
          enough = omega (arith, output, (stops_where_it_must room (stations_of images moment executive input)).whole e);
          executive = ap (λ o. (by_stop o).0.executive) e;
          stays_open = ap (λ o. (by_stop o).0.is_closed) e;
        })
    stopped (Some station) e =
        subst (λ (answer : Option ℕ). TakesAsAnswered images moment room open_host input answer) (sym (ap (λ o. (by_stop o).1) e)) (record {
          all_the_room = refl;
          fewer = omega (arith, output, (stops_where_it_must room (stations_of images moment executive input)).short station e);
        })

  pub open_hosts_take : (room : ℕ) (host : Host Image) (input : Input Image) → host.is_closed ≡ false → TakesAsAnswered images moment room host input (host_step images moment room host input).1
  open_hosts_take room host input is =
      subst (λ (h : Host Image). TakesAsAnswered images moment room h input (host_step images moment room h input).1)
      (λ i. record { executive = host.executive; is_closed = sym is i; calls = host.calls })
      (stopped room host.executive host.calls input (stop_at room (stations_of images moment host.executive input)) refl)
