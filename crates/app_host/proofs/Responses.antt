-- What a record asks of HOST, by what the record is.
use Rattle.std.proofs.Common.{◌≡◌, ◌≢◌, refl, ap, sym, ◌∙◌, subst, ℕ, List, Option, Some, Result, Ok, Err}
use Rattle.std.specs.Option.{option_map_or}
use Rattle.lc_model.proofs.Facts.{test_unequal}
use Rattle.lc_model.specs.declared.record.Body.{Body}
use Rattle.lc_model.specs.declared.record.Body.TheVariants as variant
use Rattle.lc_model.specs.declared.record.Moment.{Moment}
use Rattle.lc_model.specs.Packet.{stream_fault, message_id, event_services_mid, table_services_mid, executive_services_mid, by_service}
use Rattle.lc_model.specs.Command.{event_command_in, table_command_in}
use Rattle.lc_model.specs.Events.Request.{bad_packet}
use Rattle.lc_model.specs.Services.Events.{EventService}
use Rattle.app_host.specs.declared.error.WriteFault.{WriteFault}
use Rattle.app_host.specs.Shared.{at_moment}
use Rattle.app_host.specs.Hosted.{Hosted}
use Rattle.app_host.specs.Obeyed.{events_by}
use Rattle.app_host.specs.ObeyedTables.{tables_by}
use Rattle.app_host.specs.Roster.{roster_of, succession_by}
use Rattle.app_host.specs.Heard.{host_at, IsOffered, HasHeard}
use Rattle.app_host.specs.Turn.{Turn, HasTurned}
use Rattle.app_host.specs.Response.{Response, passing_on, only_telling, obeying_events, obeying_tables, obeying_orders, routed_to, response_to_packet, response_to, Responds, RespondsCounted}
use Rattle.app_host.specs.Step.{StepHasBegun, without_count}
use Rattle.app_host.proofs.Responding.{responds_from}

-- ---- a packet

module _ (packet : List ℕ) (h : Hosted) where
  abbrev for_events : Response
  for_events = obeying_events packet h (events_by (event_command_in packet) h.services.events)

  abbrev for_tables : Response
  for_tables = obeying_tables packet h (tables_by (table_command_in packet) h.services.tables)

  abbrev for_orders : Response
  for_orders = obeying_orders packet h (succession_by packet (roster_of h))

  abbrev by_mid : ℕ → Response
  by_mid mid = by_service mid for_events for_tables for_orders (passing_on packet h)

  pub is_for_events : message_id packet ≡ event_services_mid → for_events ≡ routed_to packet h
  is_for_events is = sym (ap by_mid is)

  pub is_for_tables : message_id packet ≡ table_services_mid → for_tables ≡ routed_to packet h
  is_for_tables is = sym (ap by_mid is)

  pub is_for_orders : message_id packet ≡ executive_services_mid → for_orders ≡ routed_to packet h
  is_for_orders is = sym (ap by_mid is)

  abbrev by_fault : Option ℕ → Response
  by_fault fault = option_map_or (λ reason. only_telling (bad_packet reason) h) fault (routed_to packet h)

  pub is_refused : (reason : ℕ) → stream_fault packet ≡ Some reason → only_telling (bad_packet reason) h ≡ response_to_packet packet h
  is_refused reason is = sym (ap by_fault is)

-- the response to a packet is that of whoever handles it
module _ (moment : Moment) (old new : Hosted) (before now : Option (List ℕ)) (result : Result ℕ WriteFault) (packet : List ℕ) where
  abbrev By : Response → Type 0
  By response = RespondsCounted moment response old new before now result

  pub routed_events : message_id packet ≡ event_services_mid → By (for_events packet old) → By (routed_to packet old)
  routed_events is = subst By (is_for_events packet old is)

  pub routed_tables : message_id packet ≡ table_services_mid → By (for_tables packet old) → By (routed_to packet old)
  routed_tables is = subst By (is_for_tables packet old is)

  pub routed_others : message_id packet ≢ event_services_mid → message_id packet ≢ table_services_mid → message_id packet ≢ executive_services_mid → By (passing_on packet old) → By (routed_to packet old)
  routed_others no_events no_tables no_orders by = rw (test_unequal _ _ no_events, test_unequal _ _ no_tables, test_unequal _ _ no_orders) by

  pub routed_orders : message_id packet ≡ executive_services_mid → By (for_orders packet old) → By (routed_to packet old)
  routed_orders is = subst By (is_for_orders packet old is)

  pub turned_away : (reason : ℕ) → stream_fault packet ≡ Some reason → By (only_telling (bad_packet reason) old) → By (response_to_packet packet old)
  turned_away reason is = subst By (is_refused packet old reason is)

-- ---- a step

-- the moment and the calls say nothing of it
module _ (moment : Moment) (body : Body) (old begun : Hosted) (began : StepHasBegun moment old begun) where
  abbrev at_first : Hosted
  at_first = record { stock = old.stock; seats = old.seats; services = at_moment moment old.services; is_closed = old.is_closed; calls = 0 }

  pub as_begun : begun ≡ at_first
  as_begun = λ i. record { stock = began.stock i; seats = began.seats i; services = began.services i; is_closed = began.is_closed i; calls = began.calls i }

  pub same_response : (record_body : Body) → response_to record_body at_first ≡ response_to record_body old
  same_response (variant.Packet bytes) = refl
  same_response variant.Tick = refl
  same_response (variant.File name bytes) = refl

  pub begun_response : response_to body begun ≡ response_to body old
  begun_response = ap (response_to body) as_begun ∙ same_response body

module _ (moment : Moment) (body : Body) (old begun new : Hosted) (began : StepHasBegun moment old begun) (before now : Option (List ℕ)) (result : Result ℕ WriteFault) where
  abbrev first_host : Hosted
  first_host = record { stock = old.stock; seats = old.seats; services = at_moment moment old.services; is_closed = old.is_closed; calls = 0 }

  turned_then : (wanted : Turn) (theirs : List ℕ) (behind : EventService) → HasTurned wanted moment first_host new theirs behind → HasTurned wanted moment old new theirs behind
  turned_then wanted theirs behind turned = record {
    after = turned.after;
    later = turned.later;
    gone = turned.gone;
    left = turned.left;
    come = turned.come;
    sent = turned.sent;
    events = turned.events;
    bus = turned.bus;
    tables = turned.tables;
    counts = turned.counts;
  }

  heard_then : (packet theirs : List ℕ) → HasHeard packet moment first_host new theirs → HasHeard packet moment old new theirs
  heard_then packet theirs heard = record {
    first = heard.first;
    offered = offered_then packet heard.first heard.offered;
    deliveries = heard.deliveries;
    are = heard.are;
    sent = heard.sent;
    calls = heard.calls;
  }
    where
      offered_then : (packet : List ℕ) (first : Hosted) → IsOffered packet (host_at moment first_host) first → IsOffered packet (host_at moment old) first
      offered_then packet first offered = record {
        stock = offered.stock;
        seats = offered.seats;
        is_closed = offered.is_closed;
        events = offered.events;
        tables = offered.tables;
        counts = offered.counts;
        moment = offered.moment;
        outgoing = offered.outgoing;
        published = offered.published;
      }

  pub responds_then : RespondsCounted begun.services.moment (response_to body begun) begun new before now result → RespondsCounted moment (response_to body old) old new before now result
  responds_then responds =
      responds_from moment (response_to body old) old first_host new refl (λ none same. record { bus = refl; counts = refl }) (λ gone. gone) (λ turn wanted is theirs behind turned. turned_then wanted theirs behind turned) (λ packet is theirs heard. heard_then packet theirs heard) before now result
      (subst (λ r. RespondsCounted moment r first_host new before now result) (same_response moment body old begun began body)
      (subst (λ (h : Hosted). RespondsCounted h.services.moment (response_to body h) h new before now result) (as_begun moment body old begun began) responds))

-- without the number of bytes
pub responds_so : (moment : Moment) (response : Response) (old new : Hosted) (before now : Option (List ℕ)) (result : Result ℕ WriteFault) → RespondsCounted moment response old new before now result →
    Responds moment response old new before now (without_count result)
responds_so moment response old new before now (Ok total) all = all.responds
responds_so moment response old new before now (Err fault) part = part
