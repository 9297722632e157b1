-- The running Limit Checker and the running scheduler. This project's own.
use Rattle.std.specs.Prelude.{ℕ, List, [], ◌∷◌, Option, Some, None}
use Rattle.std.specs.Option.{option_or}
use Rattle.lc_model.specs.Kept.Summary.{LcOwn, AppState, LcState, SchState, CounterState, Other}
use Rattle.app_host.specs.Object.{Object}

-- The engine in this state, if it is a Limit Checker's.
abbrev pub engine_by : AppState → Option LcOwn
engine_by (LcState own) = Some own
engine_by (SchState slots slot) = None
engine_by (CounterState count) = None
engine_by Other = None

-- The engine of the object on a seat, if it is a Limit Checker.
abbrev pub engine_of : Option Object → Option LcOwn
engine_of None = None
engine_of (Some object) = engine_by object.state

-- The first value that `of` gives, seat by seat.
abbrev pub first_of : {T : Type 0} → (Option Object → Option T) → List (Option Object) → Option T
first_of of [] = None
first_of of (place ∷ others) = option_or (of place) (first_of of others)

-- The engine of the lowest seat with a Limit Checker.
abbrev pub engine_among : List (Option Object) → Option LcOwn
engine_among = first_of engine_of

-- The slot of the next tick in this state, if it is a scheduler's.
abbrev pub slot_by : AppState → Option ℕ
slot_by (LcState own) = None
slot_by (SchState slots slot) = Some slot
slot_by (CounterState count) = None
slot_by Other = None

-- The slot of the next tick for the object on a seat, if it is a scheduler.
abbrev pub slot_of : Option Object → Option ℕ
slot_of None = None
slot_of (Some object) = slot_by object.state

-- The slot of the next tick for the lowest seat with a scheduler.
abbrev pub slot_among : List (Option Object) → Option ℕ
slot_among = first_of slot_of
