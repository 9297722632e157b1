-- Worked examples of the host in numbers, computed: calls, words and comparisons, and writers that fail.
use Rattle.std.specs.Prelude.{◌≡◌, ℕ, true, List, [], ◌∷◌, ◌++◌, drop, codes, refl, Option, Some, None}
use Rattle.std.specs.Fmt.{digits}
use Rattle.std.specs.List.{concat}
use Rattle.lc_model.specs.declared.kind.Kind.TheVariants.{Wdt}
use Rattle.lc_model.specs.declared.mode.LcMode.TheVariants as mode
use Rattle.lc_model.specs.Name.{lc_name, sch_name, counter_name}
use Rattle.lc_model.specs.Tables.InForce.{layouts}
use Rattle.lc_model.specs.Tables.HalvesAndBytes.{TextImage, as_halves}
use Rattle.lc_model.specs.Host.Schedule.{Schedule, Sample, Housekeeping}
use Rattle.lc_model.specs.Host.Stream.{StreamEntry}
use Rattle.lc_model.specs.Host.Run.{input_of}
use Rattle.lc_model.specs.Kept.Effort.{Effort, no_effort, with_id, watched_ids, place_among, first_place, compared_from, compared_with, probes_for, sampled_words}
use Rattle.lc_model.specs.Kept.Summary.{AppState, LcState, SchState, CounterState, Other}
use Rattle.lc_model.specs.Kept.Call.{with_mids}
use Rattle.lc_model.specs.Kept.Executive.{Member, all_published_to, drained, seated, written_from, first_executive}
use Rattle.lc_model.specs.Kept.Stations.{Host, first_host, stop_at, delivery_stations, last_calls, host_step}
use Rattle.worked_examples.proofs.Records.{low_text, prelude, tick, half, volts, sample, order, meanings, request_bytes, event_bytes}

-- ---- a host, and what it comes to

every_other_tick : Schedule
every_other_tick = (Sample 0 175 true ∷ []) ∷ (Housekeeping ∷ []) ∷ []

spares : List Member
spares =
    record { called = lc_name; state = LcState (record { mode = mode.Active; terms = []; rules = []; watch = []; points = []; effort = no_effort }) }
    ∷ record { called = sch_name; state = SchState every_other_tick 0 }
    ∷ record { called = counter_name; state = CounterState 0 } ∷ []

-- the host after these records, whose writer takes so many bytes of each
host_after : ℕ → List StreamEntry → Host TextImage → Host TextImage
host_after room [] host = host
host_after room (entry ∷ entries) host =
    host_after room entries (host_step (as_halves layouts) entry.moment room host (input_of (meanings (low_text ∷ [])) entry.contents)).0

-- what the writer is told of one record more
told_of : ℕ → List StreamEntry → StreamEntry → Option ℕ
told_of room entries entry =
    (host_step (as_halves layouts) entry.moment room (host_after 65536 entries (first_host spares)) (input_of (meanings (low_text ∷ [])) entry.contents)).1

effort_in : AppState → Effort
effort_in (LcState own) = own.effort
effort_in (SchState schedule slot) = no_effort
effort_in (CounterState count) = no_effort
effort_in Other = no_effort

-- ---- calls

-- a tick is one call of the scheduler, and one of the Limit Checker for the request of its slot
calls_of_a_tick : (host_after 65536 (prelude ++ order 1 sch_name ∷ volts 2399 ∷ tick ∷ []) (first_host spares)).calls ≡ 2
unfolding digits every_other_tick spares host_after stop_at delivery_stations last_calls drained all_published_to with_mids sampled_words compared_from first_place place_among watched_ids with_id
calls_of_a_tick = refl

-- a command of the host's own is none
no_calls : (host_after 65536 prelude (first_host spares)).calls ≡ 0
unfolding digits every_other_tick spares host_after stop_at delivery_stations last_calls drained all_published_to with_mids
no_calls = refl

-- ---- effort

-- a mention and EQUAL are two words; one message id is found by one comparison
effort_of_a_sample : effort_in (seated (host_after 65536 (prelude ++ volts 2399 ∷ sample ∷ []) (first_host spares)).executive.seats 0).state ≡ record { steps = 2; probes = 1 }
unfolding digits every_other_tick spares host_after effort_in stop_at delivery_stations last_calls drained all_published_to with_mids sampled_words compared_from first_place place_among watched_ids with_id
effort_of_a_sample = refl

-- of seven ids each one that is there is compared with itself alone; one that is not is compared with the middle, then with the
-- middle of the half that is left
seven : List ℕ
seven = 1 ∷ 3 ∷ 5 ∷ 7 ∷ 9 ∷ 11 ∷ 13 ∷ []

found_at_its_place : compared_with 1 seven ≡ 1 ∷ []
unfolding seven compared_from first_place place_among
found_at_its_place = refl

not_found : compared_with 8 seven ≡ 7 ∷ 11 ∷ 9 ∷ []
unfolding seven compared_from first_place place_among
not_found = refl

no_comparison : probes_for 5 [] ≡ 0
unfolding compared_from
no_comparison = refl

-- ---- writers that fail

-- the event of a stored file has 168 bytes: with room for 100 the host stops there, and is closed
stopped : told_of 100 [] (half (codes "/cf/lc_def_wdt.tbl") Wdt 0) ≡ Some 100
unfolding digits every_other_tick spares host_after told_of stop_at delivery_stations last_calls drained all_published_to with_mids
stopped = refl

-- with room for all of them it goes on
whole : told_of 168 [] (half (codes "/cf/lc_def_wdt.tbl") Wdt 0) ≡ None
unfolding digits every_other_tick spares host_after told_of stop_at delivery_stations last_calls drained all_published_to with_mids
whole = refl

-- behind a failed write each record is told of no byte
closed : (host_step (as_halves layouts) tick.moment 65536 (host_after 100 prelude (first_host spares)) (input_of (meanings (low_text ∷ [])) tick.contents)).1 ≡ Some 0
unfolding digits every_other_tick spares host_after stop_at delivery_stations last_calls drained all_published_to with_mids
closed = refl

-- ---- bytes

-- two failing samples: the last bytes are those of the world
bytes_of_the_host : drop 672 (concat (written_from (as_halves layouts) (first_executive spares) (meanings (low_text ∷ [])) (prelude ++ volts 2399 ∷ sample ∷ volts 2399 ∷ sample ∷ [])))
    ≡ request_bytes ++ event_bytes
unfolding digits every_other_tick spares written_from drained all_published_to with_mids
bytes_of_the_host = refl
