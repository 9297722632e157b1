-- The numbers of the refusals, and the results of calls by them. This project's own.
use Rattle.std.specs.Prelude.{ℕ, [], ◌∷◌, Option, Some, None, Result, Ok, Err}
use Rattle.lc_model.specs.Refusal.{Refusal, not_registered, filters_full, sender_taken}
use Rattle.event_service.specs.declared.error.EventError.{EventError}
use Rattle.event_service.specs.declared.error.EventError.TheVariants.{NotRegistered, FilterFull, AppsFull, Memory}

-- The number of a refusal, 101 to 103; `None` for lack of memory.
abbrev pub error_code : EventError → Option ℕ
error_code NotRegistered = Some not_registered
error_code FilterFull = Some filters_full
error_code AppsFull = Some sender_taken
error_code Memory = None

-- The refusal as numbers, for an event's text.
abbrev pub refusal_of : EventError → Refusal
refusal_of NotRegistered = not_registered ∷ []
refusal_of FilterFull = filters_full ∷ []
refusal_of AppsFull = sender_taken ∷ []
refusal_of Memory = []

-- A call's result as one of the model: the state after it, or the refusal.
abbrev pub answered : {A B : Type 0} → Result B EventError → A → Result A Refusal
answered (Ok done) now = Ok now
answered (Err error) now = Err (refusal_of error)
