-- The effect of `HOST`'s own events.
use Rattle.std.specs.Prelude.{◌≡◌, ℕ, ◌≤◌, List, [], ◌∷◌, length, Some, Result}
use Rattle.std.specs.List.{concat}
use Rattle.lc_model.specs.Device.{Sink}
use Rattle.lc_model.specs.Name.{Name}
use Rattle.lc_model.specs.Host.React.{stored}
use Rattle.lc_model.specs.Services.Seen.{meaning_of}
use Rattle.lc_model.specs.Events.Request.{Request, event_services, table_services}
use Rattle.lc_model.specs.Kept.Executive.{Executive, Written, told_by_host, filed_now, answered_now, with_services, event_service_now, table_service_now}
use Rattle.lc_model.specs.Kept.Stations.{written_once}
use Rattle.lc_model.specs.Services.Bus.{seen}
use Rattle.lc_model.specs.Services.Interface.{outgoing_room}
use Rattle.app_host.specs.declared.error.WriteFault.{WriteFault}
use Rattle.app_host.specs.Shared.{on_board}
use Rattle.app_host.specs.Hosted.{Hosted}
use Rattle.app_host.specs.Whole.{AreSeated}
use Rattle.app_host.specs.Party.{Holders, nobody}
use Rattle.app_host.specs.Delivered.{executive_in}
use Rattle.app_host.specs.Writing.{Handles}
use Rattle.app_host.specs.Response.{asked_by_host}

-- The model's step that sends `HOST`'s request.
abbrev pub telling : Request → Hosted → Written (List ℕ)
telling request h = told_by_host h.services.moment (request ∷ []) (executive_in h)

-- The event, if it is sent, waits to be written; nothing else changed.
pub record HasTold (request : Request) (old new : Hosted) : Type 0 where
  pub stock : new.stock ≡ old.stock
  pub seats : new.seats ≡ old.seats
  pub is_closed : new.is_closed ≡ old.is_closed
  pub calls : new.calls ≡ old.calls
  pub seated : AreSeated new.seats new.services
  pub pipes : seen new.services.bus ≡ seen old.services.bus
  pub bus : new.services.bus ≡ old.services.bus
  pub counts : new.services.counts ≡ old.services.counts
  pub fits : length new.services.outgoing ≤ outgoing_room
  pub executive : executive_in new ≡ (telling request old).0
  pub outgoing : new.services.outgoing ≡ concat (telling request old).1
  pub tables : new.services.tables ≡ old.services.tables
  pub events : new.services.events ≡ (asked_by_host old.services.moment (Some request) old.services.events).0
  pub sends : new.services.outgoing ≡ (asked_by_host old.services.moment (Some request) old.services.events).1

-- The event is written, and nothing else happens.
abbrev pub TellsAlone : Request → Hosted → Hosted → Sink → Sink → Result ℕ WriteFault → Type 0
TellsAlone request old new before now result = Handles nobody (written_once (telling request old)) (telling request old) 0 old new before now result

-- A file is stored or refused, and `HOST`'s event is written.
abbrev pub Files : Name → List ℕ → Hosted → Hosted → Sink → Sink → Result ℕ WriteFault → Type 0
Files name bytes old new before now result =
    let e : Executive (List ℕ) = executive_in old in
    let step : Written (List ℕ) = filed_now old.services.moment e (stored name (length bytes) (meaning_of bytes) e.services.files) in
    Handles nobody (written_once step) step 0 old new before now result

-- A packet 0x1801 is executed or refused, and `HOST`'s event is written.
abbrev pub ObeysEvents : List ℕ → Hosted → Hosted → Sink → Sink → Result ℕ WriteFault → Type 0
ObeysEvents packet old new before now result =
    let e : Executive (List ℕ) = executive_in old in
    let step : Written (List ℕ) = answered_now on_board old.services.moment event_services packet e (with_services e (event_service_now packet e.services)) in
    Handles nobody (written_once step) step 0 old new before now result

-- A packet 0x1804 is executed or refused, and `HOST`'s event is written.
abbrev pub ObeysTables : List ℕ → Hosted → Hosted → Sink → Sink → Result ℕ WriteFault → Type 0
ObeysTables packet old new before now result =
    let e : Executive (List ℕ) = executive_in old in
    let step : Written (List ℕ) = answered_now on_board old.services.moment table_services packet e (with_services e (table_service_now on_board packet e.services)) in
    Handles Holders (written_once step) step 0 old new before now result
