-- The sample requests of a schedule. This project's own.
use Rattle.std.specs.Prelude.{ℕ, List, [], ◌∷◌, flat_map, IsFalse}
use Rattle.std.specs.List.{AllByRecursion}
use Rattle.lc_model.specs.declared.command.SampleRequest.{SampleRequest}
use Rattle.lc_model.specs.Command.{takes}
use Rattle.lc_model.specs.Host.Schedule.{Schedule, ScheduleEntry, Sample, Housekeeping, entries_at, slot_number}

-- the sample request that an entry is, if it is one
abbrev pub request_in : ScheduleEntry → List SampleRequest
request_in (Sample first last ages) = record { first = first; last = last; ages = ages } ∷ []
request_in Housekeeping = []

-- those of all slots, in order
abbrev pub requests_of : Schedule → List SampleRequest
requests_of = flat_map (λ entries. flat_map request_in entries)

-- at no tick a request takes the rule of this number
abbrev pub IsNeverSampled : Schedule → ℕ → Type 0
IsNeverSampled schedule rule = (ticks : ℕ) →
    AllByRecursion (λ request. IsFalse (takes request rule)) (flat_map request_in (entries_at schedule (slot_number schedule ticks)))
