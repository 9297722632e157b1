-- Which rules are sampled in a record, and with which result. This project's own.
use Rattle.std.specs.Prelude.{◌≡◌, ℕ, ◌+◌, ◌==◌, ◌||◌, Bool, true, false, List, [], ◌∷◌, ◌++◌, drop, get_or, length, nat_lt, slice_get, is_some, Option, Some, None, Result, Ok, Err, if◌then◌else◌}
use Rattle.std.specs.List.{list_any}
use Rattle.lc_model.specs.declared.command.SampleRequest.{SampleRequest}
use Rattle.lc_model.specs.Command.{sample_request, takes}
use Rattle.lc_model.specs.Packet.{function_code, message_id, payload, sample_mid, stream_fault}
use Rattle.lc_model.specs.Host.Schedule.{Schedule, entries_at}
use Rattle.lc_model.specs.Host.Schedule as schedule
use Rattle.lc_model.specs.Host.Stream.{header_size}
use Rattle.lc_model.specs.Kept.Summary.{LcOwn, Tally}
use Rattle.lc_model.specs.LimitChecker.Steps.{Point, is_disabled, is_sampled}
use Rattle.lc_model.specs.Refusal.{Refusal}
use Rattle.lc_model.specs.declared.mode.ApResult.{ApResult}
use Rattle.schedules.specs.Entry.{entries_of}
use Rattle.run_account.specs.declared.requests.Requests.{Requests}
use Rattle.run_account.specs.declared.requests.Requests.TheVariants as requests

-- ---- requests

-- the request for a sample of an entry of the schedule, if it is one
abbrev pub entry_request : schedule.ScheduleEntry → List SampleRequest
entry_request (schedule.Sample first last ages) = record { first = first; last = last; ages = ages } ∷ []
entry_request schedule.Housekeeping = []

abbrev pub accepted : Result SampleRequest Refusal → Option SampleRequest
accepted (Ok request) = Some request
accepted (Err refusal) = None

-- the request that a packet from the ground is, if the host and the Limit Checker accept it
abbrev pub packet_request : List ℕ → Option SampleRequest
packet_request packet =
    if is_some (stream_fault packet) then None else
    if message_id packet == sample_mid then accepted (sample_request (function_code packet) (payload packet)) else None

abbrev pub ground_requests : Option SampleRequest → List SampleRequest
ground_requests None = []
ground_requests (Some request) = request ∷ []

abbrev pub entry_requests : List schedule.ScheduleEntry → List SampleRequest
entry_requests [] = []
entry_requests (entry ∷ entries) = entry_request entry ++ entry_requests entries

-- those of the entries of a slot, if there is one
abbrev pub slot_requests : Schedule → Option ℕ → List SampleRequest
slot_requests all None = []
slot_requests all (Some slot) = entry_requests (entries_at all slot)

-- those of a record's kind and body
abbrev pub body_requests : Schedule → Option ℕ → (kind : ℕ) → (body : List ℕ) → List SampleRequest
body_requests all slot kind body = if kind == 1 then ground_requests (packet_request body) else if kind == 2 then slot_requests all slot else []

-- the requests for samples that a record brings: those that its tick publishes, by the slot that comes next before it (none if no scheduler
-- runs), or one from the ground
abbrev pub requests_in : Schedule → Option ℕ → List ℕ → List SampleRequest
requests_in all slot bytes = if nat_lt (length bytes) header_size then [] else body_requests all slot (get_or bytes 0 0) (drop header_size bytes)

-- a value of the code as these requests
abbrev pub requests_of : Requests → List SampleRequest
requests_of requests.Nothing = []
requests_of (requests.Slot entries) = entry_requests (entries_of entries.now)
requests_of (requests.One request) = request ∷ []

-- one of them takes the rule with this number
abbrev pub are_taking : List SampleRequest → ℕ → Bool
are_taking all rule = list_any (λ (request : SampleRequest). takes request rule) all

-- ---- results

-- the last result of a rule, if it is sampled where a request takes it
abbrev pub point_result : Option (Point Tally) → Option ApResult
point_result None = None
point_result (Some point) = if is_sampled point.state then point.past.last else None

abbrev pub standing_result : LcOwn → ℕ → Option ApResult
standing_result own rule = if is_disabled own.mode then None else point_result (slice_get own.points rule)

abbrev pub result_in : Option LcOwn → ℕ → Option ApResult
result_in None rule = None
result_in (Some own) rule = standing_result own rule

-- the result that these requests led to for a rule, in the Limit Checker after them; none if it was not sampled. Of two samples in one
-- record it is that of the last.
abbrev pub result_of : List SampleRequest → Option LcOwn → ℕ → Option ApResult
result_of all checker rule = if are_taking all rule then result_in checker rule else None

-- of these points, the first of which is that of this rule, one was sampled
abbrev pub sampled_from : List SampleRequest → LcOwn → (rule : ℕ) → List (Point Tally) → Bool
sampled_from all own rule [] = false
sampled_from all own rule (point ∷ points) = is_some (result_of all (Some own) rule) || sampled_from all own (rule + 1) points

-- some rule was sampled
abbrev pub has_sample : List SampleRequest → Option LcOwn → Bool
has_sample all None = false
has_sample all (Some own) = sampled_from all own 0 own.points

-- a list of results by rule number, from this rule on, in the place of a list of as many
abbrev pub results_from : List SampleRequest → Option LcOwn → (rule : ℕ) → List (Option ApResult) → List (Option ApResult)
results_from all checker rule [] = []
results_from all checker rule (before ∷ others) = result_of all checker rule ∷ results_from all checker (rule + 1) others

-- each result of a list is that of the rule with its place as number; rules beyond the list's end are not in it
abbrev pub AreResults : List SampleRequest → Option LcOwn → List (Option ApResult) → Type 0
AreResults all checker results = (rule : ℕ) (found : Option ApResult) → slice_get results rule ≡ Some found → found ≡ result_of all checker rule

-- the results of a list, if they are those of the newest record
abbrev pub shown_if : Bool → List (Option ApResult) → List (Option ApResult)
shown_if false results = []
shown_if true results = results
