-- A service of the host changes, and HOST tells of it.
use Rattle.std.proofs.Common.{◌≡◌, refl, ap, ap₂, sym, ◌∙◌, subst, ℕ, List, [], ◌∷◌, length, map, Some, None, Result, Ok, Err}
use Rattle.std.specs.Prelude.{option_map, slice_index_or, All, Contains}
use Rattle.lc_model.specs.declared.record.Moment.{Moment}
use Rattle.std.specs.List.{concat}
use Rattle.lc_model.specs.Device.{Sink}
use Rattle.lc_model.specs.Name.{Name}
use Rattle.lc_model.specs.Refusal.{Refusal, ◌>>=◌}
use Rattle.lc_model.specs.Host.React.{stored}
use Rattle.lc_model.specs.Tables.Interpretation.{FileMeaning}
use Rattle.lc_model.specs.Events.Request.{Request, file_stored, file_refused}
use Rattle.lc_model.specs.Kept.Executive.{Pipe, Executive, Written, told_by_host, filed_now}
use Rattle.lc_model.specs.Kept.Stations.{written_once}
use Rattle.lc_model.specs.Laws.TablesByName.{TablesAreFound, StoringFiles}
use Rattle.lc_model.specs.Services.Bus.{Bus, seen}
use Rattle.lc_model.specs.Services.Events.{counts_with, EventService, sender_at, sender_named}
use Rattle.lc_model.specs.Services.Tables.{TableService, IsTableService, tables_at, files_with, file_put}
use Rattle.lc_model.specs.Services.Seen.{files_seen, meaning_of, slot_among, count_among}
use Rattle.app_host.specs.declared.services.Services.{Services}
use Rattle.app_host.specs.declared.error.WriteFault.{WriteFault}
use Rattle.app_host.specs.Shared.{shared}
use Rattle.app_host.specs.Telling.{name_of}
use Rattle.app_host.specs.Hosted.{Object, Hosted, member_of}
use Rattle.app_host.specs.Whole.{AreKnown, IsWhole, IsQuiet}
use Rattle.app_host.specs.Party.{nobody}
use Rattle.app_host.specs.Delivered.{executive_in}
use Rattle.app_host.specs.Writing.{IsDone, IsCut, Handles}
use Rattle.app_host.specs.Told.{TellsAlone, Files}
use Rattle.app_host.proofs.Flushed.{same_shared}
use Rattle.app_host.proofs.Frames.{StaysAt, seated_still}

-- HOST's event behind a change is the last that a step writes
module _ (old mid new : Hosted) (e : Executive (List ℕ)) (is : executive_in mid ≡ e) (stock : mid.stock ≡ old.stock) (moment : mid.services.moment ≡ old.services.moment) (closed : mid.is_closed ≡ old.is_closed)
    (known : AreKnown old → AreKnown mid) (request : Request) where
  abbrev step : Written (List ℕ)
  step = told_by_host old.services.moment (request ∷ []) e

  step_is : told_by_host mid.services.moment (request ∷ []) (executive_in mid) ≡ step
  step_is = ap₂ (λ (m : Moment) (x : Executive (List ℕ)). told_by_host m (request ∷ []) x) moment is

  among_behind : All (Contains mid.stock) new.stock → All (Contains old.stock) new.stock
  among_behind among = subst (λ (spares : List Object). All (Contains spares) new.stock) stock among

  pub told_behind : (before now : Sink) (result : Result ℕ WriteFault) → TellsAlone request mid new before now result → Handles nobody (written_once step) step 0 old new before now result
  told_behind before now (Ok total) all = record {
    whole = all.whole;
    quiet = all.quiet;
    stock = among_behind all.stock;
    is_closed = all.is_closed ∙ closed;
    calls = all.calls;
    fine = all.fine;
    not_retried = all.not_retried;
    known = λ k those. all.known (known k) those;
    exact = λ those. subst (λ (w : Written (List ℕ)). IsDone (written_once w) w 0 new before.gained now.gained) step_is (all.exact those);
    count = λ those. all.count those ∙ ap (λ (w : Written (List ℕ)). length (concat w.1)) step_is;
  }
  told_behind before now (Err fault) part = record {
    whole = part.whole;
    stock = among_behind part.stock;
    is_closed = part.is_closed;
    calls = part.calls;
    failed = part.failed;
    not_retried = part.not_retried;
    known = λ k those. part.known (known k) those;
    exact = λ those. subst (λ (w : Written (List ℕ)). IsCut (written_once w) w fault.sent new before.gained now.gained) step_is (part.exact those);
  }

-- ---- files

-- what is stored, by what files mean
stored_as : StoringFiles → (name : Name) (bytes : List ℕ) (before after : TableService) → Ok after ≡ file_put name bytes before →
    stored name (length bytes) (meaning_of bytes) (files_seen before.files) ≡ Ok (files_seen after.files)
stored_as law name bytes before after is =
    sym (law name bytes before) ∙ ap (λ (r : Result TableService Refusal). r >>= (λ service. Ok (files_seen service.files))) (sym is)

refused_as : StoringFiles → (name : Name) (bytes : List ℕ) (before : TableService) (refusal : Refusal) → Err refusal ≡ file_put name bytes before →
    stored name (length bytes) (meaning_of bytes) (files_seen before.files) ≡ Err refusal
refused_as law name bytes before refusal is =
    sym (law name bytes before) ∙ ap (λ (r : Result TableService Refusal). r >>= (λ service. Ok (files_seen service.files))) (sym is)

places_by : (name : Name) (bytes : List ℕ) (before after : TableService) (r : Result (List (Name × List ℕ)) Refusal) → Ok after ≡ (r >>= (λ files. Ok (record before { files = files }))) → after.places ≡ before.places
places_by name bytes before after (Ok files) is = let same : after ≡ record before { files = files } = cc in ap (λ (t : TableService). t.places) same
places_by name bytes before after (Err refusal) is = cc

-- the tables of all seats stay
pub places_stay : (name : Name) (bytes : List ℕ) (before after : TableService) → Ok after ≡ file_put name bytes before → after.places ≡ before.places
places_stay name bytes before after is = places_by name bytes before after (files_with name bytes before.files) is

shared_filed : (old mid : Services) → mid.events ≡ old.events → mid.tables.places ≡ old.tables.places → mid.counts ≡ old.counts → shared mid ≡ record (shared old) { files = files_seen mid.tables.files }
unfolding shared
shared_filed old mid events places counts = λ i. record {
  files = files_seen mid.tables.files;
  slots = slot_among (places i);
  events = sender_named (events i);
  counts = counts_with (events i).sent (count_among (counts i));
}

shared_files : (s : Services) → (shared s).files ≡ files_seen s.tables.files
unfolding shared
shared_files s = refl

-- the same host, but for the tables
pub record TablesAlone (old mid : Hosted) : Type 0 where
  pub stock : mid.stock ≡ old.stock
  pub seats : mid.seats ≡ old.seats
  pub is_closed : mid.is_closed ≡ old.is_closed
  pub bus : mid.services.bus ≡ old.services.bus
  pub events : mid.services.events ≡ old.services.events
  pub counts : mid.services.counts ≡ old.services.counts
  pub moment : mid.services.moment ≡ old.services.moment
  pub outgoing : mid.services.outgoing ≡ old.services.outgoing

module _ (found : TablesAreFound) (storing : StoringFiles) (old mid : Hosted) (name : Name) (bytes : List ℕ) (whole : IsWhole old) (quiet : IsQuiet old)
    (sound : IsTableService old.services.tables) (sound' : IsTableService mid.services.tables) (alone : TablesAlone old mid) where
  known_filed : AreKnown old → AreKnown mid
  known_filed known = λ seat. rw alone.seats (known seat)

  abbrev e : Executive (List ℕ)
  e = executive_in old

  abbrev this_step : Written (List ℕ)
  this_step = filed_now old.services.moment e (stored name (length bytes) (meaning_of bytes) e.services.files)

  module _ (places : mid.services.tables.places ≡ old.services.tables.places) where
    stays_filed : (seat : ℕ) → StaysAt seat old.services mid.services
    stays_filed seat = record {
      sender = ap (λ (x : EventService). option_map name_of (sender_at (Some seat) x)) alone.events;
      tables = ap (tables_at seat) places;
      subscriptions = ap (λ (b : Bus). option_map (λ (pipe : Pipe). pipe.subscriptions) (slice_index_or (seen b) seat None)) alone.bus;
    }

    pub whole_filed : IsWhole mid
    whole_filed = record {
      seated = rw alone.seats (seated_still found old.seats old.services mid.services sound sound' stays_filed whole.seated);
      spares = rw alone.stock whole.spares;
      idle = alone.outgoing ∙ whole.idle;
    }

    executive_filed : executive_in mid ≡ record e { services = record e.services { files = files_seen mid.services.tables.files } }
    executive_filed = λ i. record {
      stock = map member_of (alone.stock i);
      seats = map (option_map member_of) (alone.seats i);
      pipes = seen (alone.bus i);
      services = shared_filed old.services mid.services alone.events places alone.counts i;
    }

  pub is_filed : Ok mid.services.tables ≡ file_put name bytes old.services.tables → (request : Request) → request ≡ file_stored → (new : Hosted) (before now : Sink) (result : Result ℕ WriteFault) →
      TellsAlone request mid new before now result → Files name bytes old new before now result
  is_filed is request asked new before now result tells =
      subst (λ (w : Written (List ℕ)). Handles nobody (written_once w) w 0 old new before now result) (sym step_is)
      (told_behind old mid new (record e { services = record e.services { files = files_seen mid.services.tables.files } })
      (executive_filed (places_stay name bytes old.services.tables mid.services.tables is)) alone.stock alone.moment alone.is_closed known_filed request before now result tells)
    where
      step_is : this_step ≡ told_by_host old.services.moment (request ∷ []) (record e { services = record e.services { files = files_seen mid.services.tables.files } })
      step_is =
          ap (λ (files : List (Name × FileMeaning (List ℕ))). filed_now old.services.moment e (stored name (length bytes) (meaning_of bytes) files)) (shared_files old.services)
          ∙ ap (filed_now old.services.moment e) (stored_as storing name bytes old.services.tables mid.services.tables is)
          ∙ ap (λ r. told_by_host old.services.moment (r ∷ []) (record e { services = record e.services { files = files_seen mid.services.tables.files } })) (sym asked)

  same_executive : mid.services.tables ≡ old.services.tables → executive_in mid ≡ e
  same_executive tables = λ i. record {
    stock = map member_of (alone.stock i);
    seats = map (option_map member_of) (alone.seats i);
    pipes = seen (alone.bus i);
    services = same_shared old.services mid.services (record { bus = alone.bus; events = alone.events; tables = tables; counts = alone.counts }) i;
  }

  pub is_not_filed : mid.services.tables ≡ old.services.tables → (refusal : Refusal) → Err refusal ≡ file_put name bytes old.services.tables → (request : Request) → request ≡ file_refused refusal →
      (new : Hosted) (before now : Sink) (result : Result ℕ WriteFault) → TellsAlone request mid new before now result → Files name bytes old new before now result
  is_not_filed tables refusal is request asked new before now result tells =
      subst (λ (w : Written (List ℕ)). Handles nobody (written_once w) w 0 old new before now result) (sym step_is)
      (told_behind old mid new e (same_executive tables) alone.stock alone.moment alone.is_closed known_filed request before now result tells)
    where
      step_is : this_step ≡ told_by_host old.services.moment (request ∷ []) e
      step_is =
          ap (λ (files : List (Name × FileMeaning (List ℕ))). filed_now old.services.moment e (stored name (length bytes) (meaning_of bytes) files)) (shared_files old.services)
          ∙ ap (filed_now old.services.moment e) (refused_as storing name bytes old.services.tables refusal is)
          ∙ ap (λ r. told_by_host old.services.moment (r ∷ []) e) (sym asked)
