-- The account of a run: each number is that of the run's records. This project's own.
use Rattle.std.specs.Prelude.{◌≡◌, ℕ, ◌==◌, ◌&&◌, Bool, true, false, List, [], ◌∷◌, filter, is_none, length, map, slice_get, Option, Some, None, if◌then◌else◌}
use Rattle.std.specs.List.{AllByRecursion, fold}
use Rattle.app_host.specs.Delivered.{executive_in}
use Rattle.flight_profile.specs.Checkers.{engine_among, slot_among}
use Rattle.flight_profile.specs.Force.{text_in_force}
use Rattle.lc_model.specs.Host.Schedule.{Schedule}
use Rattle.lc_model.specs.Kept.Summary.{LcOwn}
use Rattle.lc_model.specs.Tables.Image.{numbers_below}
use Rattle.lc_model.specs.declared.command.SampleRequest.{SampleRequest}
use Rattle.lc_model.specs.declared.mode.ApResult.{ApResult}
use Rattle.lc_model.specs.declared.mode.ApResult.TheVariants.{Pass, Fail, Stale, Error}
use Rattle.run_stepper.specs.Steps.{Step}
use Rattle.run_account.specs.Clock.{capped, clock_after, first_clock, is_back, more_if, time_of}
use Rattle.run_account.specs.Counts.{row_sampled}
use Rattle.run_account.specs.Force.{first_text, text_after}
use Rattle.run_account.specs.Lanes.{lane_with, new_lane, rules_of, unsampled_at}
use Rattle.run_account.specs.Packets.{brings, packet_with}
use Rattle.run_account.specs.Repeats.{lane_in, row_in}
use Rattle.run_account.specs.Samples.{has_sample, requests_in, result_of}
use Rattle.run_account.specs.declared.account.RunAccount.{RunAccount}
use Rattle.run_account.specs.declared.clock.RunClock.{RunClock}
use Rattle.run_account.specs.declared.counts.RuleCounts.{RuleCounts}
use Rattle.run_account.specs.declared.force.KnownText.{KnownText}
use Rattle.run_account.specs.declared.counts.RuleRow.{RuleRow}
use Rattle.run_account.specs.declared.lanes.Lane.{Lane}
use Rattle.run_account.specs.declared.packets.PacketCount.{PacketCount}

-- ---- the records of a run

-- a record: the slot of the schedule that comes next before it, if a scheduler runs; the run's text in force before it; the time before
-- it; and the record, with the host after it
pub record Seen : Type 0 where
  pub slot : Option ℕ
  pub known : KnownText
  pub before : RunClock
  pub step : Step

-- the slot that comes next after a record
abbrev pub slot_after : Step → Option ℕ
slot_after step = slot_among step.host.host.seats

-- the run's text in force after a record
abbrev pub force_after : KnownText → Step → KnownText
force_after known step = text_after known step.bytes step.written (text_in_force step.host.files (executive_in step.host.host))

-- the records of a run, from this slot, text and time on
abbrev pub seen_from : Option ℕ → KnownText → RunClock → List Step → List Seen
seen_from slot known clock [] = []
seen_from slot known clock (step ∷ steps) =
    record { slot = slot; known = known; before = clock; step = step } ∷ seen_from (slot_after step) (force_after known step) (clock_after step.bytes clock) steps

-- those of a run from its begin, at which nothing runs
abbrev pub seen_of : List Step → List Seen
seen_of steps = seen_from None first_text first_clock steps

-- the slot, the text in force and the time after all records
abbrev pub last_slot : Option ℕ → List Step → Option ℕ
last_slot slot [] = slot
last_slot slot (step ∷ steps) = last_slot (slot_after step) steps

abbrev pub last_force : KnownText → List Step → KnownText
last_force known [] = known
last_force known (step ∷ steps) = last_force (force_after known step) steps

abbrev pub last_clock : RunClock → List Step → RunClock
last_clock clock [] = clock
last_clock clock (step ∷ steps) = last_clock (clock_after step.bytes clock) steps

-- ---- what a record is

-- it brings these requests for samples
abbrev pub requests_at : Schedule → Seen → List SampleRequest
requests_at all seen = requests_in all seen.slot seen.step.bytes

-- the Limit Checker after it
abbrev pub checker_at : Seen → Option LcOwn
checker_at seen = engine_among seen.step.host.host.seats

-- the run's text in force after it, by its number from 0
abbrev pub force_at : Seen → Option ℕ
force_at seen = (force_after seen.known seen.step).number

-- some rule is sampled in it
abbrev pub is_sample : Schedule → Seen → Bool
is_sample all seen = has_sample (requests_at all seen) (checker_at seen)

-- a sample with tables of none of the run's texts
abbrev pub is_ungiven : Schedule → Seen → Bool
is_ungiven all seen = is_sample all seen && is_none (force_at seen)

-- it is earlier than the record before it
abbrev pub is_step_back : Seen → Bool
is_step_back seen = is_back seen.before.last (time_of seen.step.bytes)

-- this rule of this text is sampled in it, under tables of this text, with this result
abbrev pub is_result : ApResult → Option ApResult → Bool
is_result Pass (Some Pass) = true
is_result Fail (Some Fail) = true
is_result Stale (Some Stale) = true
is_result Error (Some Error) = true
is_result result found = false

abbrev pub is_text : ℕ → Option ℕ → Bool
is_text text None = false
is_text text (Some force) = force == text

abbrev pub is_counted : Schedule → (text rule : ℕ) → ApResult → Seen → Bool
is_counted all text rule result seen = is_text text (force_at seen) && is_result result (result_of (requests_at all seen) (checker_at seen) rule)

-- it brings a packet of this message id, which the host accepts
abbrev pub is_packet : ℕ → Seen → Bool
is_packet mid seen = is_text mid (brings seen.step.bytes)

-- ---- the numbers

-- how many of these records are so
abbrev pub number : (Seen → Bool) → List Seen → ℕ
number is all = capped (length (filter is all))

-- the results of a rule of a text
abbrev pub counts_of : Schedule → (text rule : ℕ) → List Seen → RuleCounts
counts_of all text rule seen = record {
  passed = number (is_counted all text rule Pass) seen;
  failed = number (is_counted all text rule Fail) seen;
  stale = number (is_counted all text rule Stale) seen;
  errors = number (is_counted all text rule Error) seen;
}

-- the lane of a rule: its samples, one after the other
abbrev pub lane_after : Schedule → Lane → Seen → Lane
lane_after all lane seen = lane_with (length all) (clock_after seen.step.bytes seen.before) (requests_at all seen) (checker_at seen) lane

abbrev pub lane_of : Schedule → List Seen → Lane → Lane
lane_of all seen lane = fold (lane_after all) (new_lane all lane) seen

-- the packets of these message ids with one more of this one, if a record brings one
abbrev pub packets_after : Option ℕ → List PacketCount → List PacketCount
packets_after None counts = counts
packets_after (Some mid) counts = map (packet_with mid) counts

-- the rows and lanes after all samples, those among them that were noted and are not counted yet
abbrev pub rows_of : RunAccount → List RuleRow
rows_of it = map (row_in it.repeats it.results.items) it.rows.items

abbrev pub lanes_of : RunAccount → List Lane
lanes_of it = map (lane_in it.repeats it.results.items) it.lanes.items

-- what was noted was counted
pub record HasSettled (old new : RunAccount) : Type 0 where
  pub schedule : new.schedule ≡ old.schedule
  pub slot : new.slot ≡ old.slot
  pub force : new.force ≡ old.force
  pub clock : new.clock ≡ old.clock
  pub records : new.records ≡ old.records
  pub steps_back : new.steps_back ≡ old.steps_back
  pub packets : new.packets.items ≡ old.packets.items
  pub samples : new.samples ≡ old.samples
  pub ungiven : new.ungiven ≡ old.ungiven
  pub rows : new.rows.items ≡ rows_of old
  pub lanes : new.lanes.items ≡ lanes_of old
  pub none : new.repeats.count ≡ 0

-- the samples of a record were counted in the rows and lanes, which have all samples before
pub record HasCounted (old new : RunAccount) (requests : List SampleRequest) (checker : Option LcOwn) : Type 0 where
  pub schedule : new.schedule ≡ old.schedule
  pub slot : new.slot ≡ old.slot
  pub force : new.force ≡ old.force
  pub clock : new.clock ≡ old.clock
  pub records : new.records ≡ old.records
  pub steps_back : new.steps_back ≡ old.steps_back
  pub packets : new.packets.items ≡ old.packets.items
  pub samples : new.samples ≡ old.samples
  pub ungiven : new.ungiven ≡ old.ungiven
  pub repeats : new.repeats ≡ old.repeats
  pub rows : new.rows.items ≡ map (row_sampled requests checker old.force.number) old.rows.items
  pub lanes : new.lanes.items ≡ map (lane_with (length old.schedule.now) old.clock requests checker) old.lanes.items

-- the packet of a record was counted
pub record HasPacket (mid : Option ℕ) (old new : RunAccount) : Type 0 where
  pub schedule : new.schedule ≡ old.schedule
  pub slot : new.slot ≡ old.slot
  pub force : new.force ≡ old.force
  pub clock : new.clock ≡ old.clock
  pub records : new.records ≡ old.records
  pub steps_back : new.steps_back ≡ old.steps_back
  pub samples : new.samples ≡ old.samples
  pub ungiven : new.ungiven ≡ old.ungiven
  pub rows : rows_of new ≡ rows_of old
  pub lanes : lanes_of new ≡ lanes_of old
  pub packets : new.packets.items ≡ packets_after mid old.packets.items

-- the samples of a record were counted, which brings these requests; this is the Limit Checker after it, and its tables are of this text
pub record HasSampled (old new : RunAccount) (requests : List SampleRequest) (checker : Option LcOwn) (text : Option ℕ) : Type 0 where
  pub schedule : new.schedule ≡ old.schedule
  pub slot : new.slot ≡ old.slot
  pub force : new.force ≡ old.force
  pub clock : new.clock ≡ old.clock
  pub records : new.records ≡ old.records
  pub steps_back : new.steps_back ≡ old.steps_back
  pub packets : new.packets.items ≡ old.packets.items
  pub samples : new.samples ≡ more_if (has_sample requests checker) old.samples
  pub ungiven : new.ungiven ≡ more_if (has_sample requests checker && is_none text) old.ungiven
  pub rows : rows_of new ≡ map (row_sampled requests checker text) (rows_of old)
  pub lanes : lanes_of new ≡ map (lane_with (length old.schedule.now) old.clock requests checker) (lanes_of old)

-- each number of the account is that of these records: of all, of those that step back, of those with a sample, of these those under
-- tables of no given text; of each rule's results; of packets for each message id; and the time without samples for each rule
pub record IsAccountOf (it : RunAccount) (steps : List Step) : Type 0 where
  pub slot : it.slot ≡ last_slot None steps
  pub force : it.force ≡ last_force first_text steps
  pub clock : it.clock ≡ last_clock first_clock steps
  pub records : it.records ≡ capped (length steps)
  pub steps_back : it.steps_back ≡ number is_step_back (seen_of steps)
  pub samples : it.samples ≡ number (is_sample it.schedule.now) (seen_of steps)
  pub ungiven : it.ungiven ≡ number (is_ungiven it.schedule.now) (seen_of steps)
  pub rows : AllByRecursion (λ (row : RuleRow). row.counts ≡ counts_of it.schedule.now row.text row.rule (seen_of steps)) (rows_of it)
  pub packets : AllByRecursion (λ (count : PacketCount). count.packets ≡ number (is_packet count.mid) (seen_of steps)) it.packets.items
  pub lanes : AllByRecursion (λ (lane : Lane). lane ≡ lane_of it.schedule.now (seen_of steps) lane) (lanes_of it)
  pub numbered : rules_of (lanes_of it) ≡ numbers_below (length (lanes_of it))

-- ---- what an account returns

-- the schedule that its run has
abbrev pub schedule_of : RunAccount → Schedule
schedule_of it = it.schedule.now

-- the run's text in force after its last record, by its number from 0
abbrev pub force_of : RunAccount → Option ℕ
force_of it = it.force.number

-- the requests for samples of the next record of its run, if that has these bytes
abbrev pub requests_after : RunAccount → List ℕ → List SampleRequest
requests_after it bytes = requests_in it.schedule.now it.slot bytes

-- the time that has passed over its records
abbrev pub clock_of : RunAccount → RunClock
clock_of it = it.clock

abbrev pub records_of : RunAccount → ℕ
records_of it = it.records

abbrev pub steps_back_of : RunAccount → ℕ
steps_back_of it = it.steps_back

abbrev pub samples_of : RunAccount → ℕ
samples_of it = it.samples

abbrev pub ungiven_of : RunAccount → ℕ
ungiven_of it = it.ungiven

abbrev pub packets_of : RunAccount → List PacketCount
packets_of it = it.packets.items

-- the time without a sample of the rules with this number, if the schedule samples them
abbrev pub unsampled_in : RunClock → Option Lane → ℕ
unsampled_in clock None = 0
unsampled_in clock (Some lane) = if lane.is_scheduled then unsampled_at clock lane else 0

abbrev pub unsampled_of : ℕ → RunAccount → ℕ
unsampled_of rule it = unsampled_in it.clock (slice_get (lanes_of it) rule)
