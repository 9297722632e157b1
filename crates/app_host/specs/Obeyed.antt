-- Commands to event services, over the services by seats.
use Rattle.std.specs.Prelude.{ℕ, Bool, List, Result, Ok, Err}
use Rattle.lc_model.specs.Name.{Name}
use Rattle.lc_model.specs.Refusal.{Refusal, ◌>>=◌}
use Rattle.lc_model.specs.Events.Log.{LogItem}
use Rattle.lc_model.specs.Command.{filter_set_in, filters_reset_in, types_set_in}
use Rattle.lc_model.specs.Services.Events.{EventService, commanded}

-- The services `now` if the call succeeded, or its refusal.
abbrev pub obeyed_by : {A B : Type 0} → Result B (List ℕ) → A → Result A Refusal
obeyed_by (Ok done) now = Ok now
obeyed_by (Err numbers) now = Err numbers

-- The event services after a command that was read, or the refusal.
abbrev pub events_by : Result (Name × LogItem) Refusal → EventService → Result EventService Refusal
events_by r service = do
  command ← r
  commanded command.0 command.1 service

-- The event services after "set filter" with this payload, or the refusal.
abbrev pub set_filter_by : List ℕ → EventService → Result EventService Refusal
set_filter_by payload service = events_by (filter_set_in payload) service

-- The event services after "reset filters" with this payload, or the refusal.
abbrev pub reset_by : List ℕ → EventService → Result EventService Refusal
reset_by payload service = events_by (filters_reset_in payload) service

-- The event services after "types on" or "types off" with this payload, or the refusal.
abbrev pub set_types_by : Bool → List ℕ → EventService → Result EventService Refusal
set_types_by on payload service = events_by (types_set_in on payload) service
