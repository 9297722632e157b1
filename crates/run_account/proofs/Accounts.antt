-- The account of a run with one more record.
use Rattle.std.proofs.Common.{◌≡◌, refl, ap, sym, ◌∙◌, subst, arith, ℕ, zero, suc, ◌+◌, ◌&&◌, ◌||◌, Bool, true, false, List, [], ◌∷◌, ◌++◌, length, map, slice_get, Option, Some, None, is_none, is_some}
use Rattle.std.proofs.lemmas.List.{length-map}
use Rattle.std.specs.List.{AllByRecursion}
use Rattle.flight_profile.specs.Checkers.{engine_among}
use Rattle.lc_model.specs.Kept.Summary.{LcOwn, Tally}
use Rattle.lc_model.specs.LimitChecker.Steps.{Point, is_disabled}
use Rattle.lc_model.specs.Tables.Image.{numbers_below}
use Rattle.lc_model.specs.declared.command.SampleRequest.{SampleRequest}
use Rattle.lc_model.specs.declared.mode.ApResult.{ApResult}
use Rattle.run_stepper.specs.Steps.{Step}
use Rattle.run_account.specs.Account.{HasCounted, HasPacket, HasSampled, IsAccountOf, HasSettled, Seen, checker_at, counts_of, force_after, force_at, is_sample, is_step_back, is_ungiven, lane_of, lanes_of, number, packets_after, requests_at, rows_of, seen_of, slot_after}
use Rattle.run_account.specs.Clock.{add, clock_after, first_clock, is_back, more_if, time_of}
use Rattle.run_account.specs.Counts.{none_counted as no_counts, row_sampled, row_with}
use Rattle.run_account.specs.Force.{first_text}
use Rattle.run_account.specs.Lanes.{lane_with, new_lane, rules_of, two_cycles}
use Rattle.run_account.specs.Packets.{brings}
use Rattle.run_account.specs.Repeats.{IsRepeat, lane_by, none_noted, row_by}
use Rattle.run_account.specs.Samples.{are_taking, has_sample, requests_in, result_of, sampled_from}
use Rattle.run_account.specs.declared.account.RunAccount.{RunAccount}
use Rattle.run_account.specs.declared.clock.RunClock.{RunClock}
use Rattle.run_account.specs.declared.counts.RuleRow.{RuleRow}
use Rattle.run_account.specs.declared.force.KnownText.{KnownText}
use Rattle.run_account.specs.declared.lanes.Lane.{Lane}
use Rattle.run_account.specs.declared.packets.PacketCount.{PacketCount}
use Rattle.run_account.specs.declared.repeats.Repeats.{Repeats}
use Rattle.run_account.proofs.Numbers.{counted_more, number_more}
use Rattle.run_account.proofs.Repeating.{lanes_none, lanes_one_more, rows_none, rows_one_more}
use Rattle.run_account.proofs.Records.{clock_more, force_more, seen_more, slot_more}
use Rattle.run_account.proofs.Rows.{CountsPackets, Counts, IsLane, lanes_more, packets_more, rows_more, same_numbers}

-- what one more record does: its time is taken, its packet is counted, its samples are counted, and the next slot is noted
pub record HasAdded (old new : RunAccount) (step : Step) : Type 0 where
  pub schedule : new.schedule ≡ old.schedule
  pub slot : new.slot ≡ slot_after step
  pub force : new.force ≡ force_after old.force step
  pub clock : new.clock ≡ clock_after step.bytes old.clock
  pub records : new.records ≡ add old.records 1
  pub steps_back : new.steps_back ≡ more_if (is_back old.clock.last (time_of step.bytes)) old.steps_back
  pub packets : new.packets.items ≡ packets_after (brings step.bytes) old.packets.items
  pub samples : new.samples ≡ more_if (is_sample old.schedule.now (record { slot = old.slot; known = old.force; before = old.clock; step = step })) old.samples
  pub ungiven : new.ungiven ≡ more_if (is_ungiven old.schedule.now (record { slot = old.slot; known = old.force; before = old.clock; step = step })) old.ungiven
  pub rows : rows_of new ≡ (let one : Seen = record { slot = old.slot; known = old.force; before = old.clock; step = step } in
      map (row_sampled (requests_at old.schedule.now one) (checker_at one) (force_at one)) (rows_of old))
  pub lanes : lanes_of new ≡ (let one : Seen = record { slot = old.slot; known = old.force; before = old.clock; step = step } in
      map (lane_with (length old.schedule.now) (clock_after step.bytes old.clock) (requests_at old.schedule.now one) (checker_at one)) (lanes_of old))

module _ (old new : RunAccount) (steps : List Step) (step : Step) (added : HasAdded old new step) (is : IsAccountOf old steps) where
  abbrev one : Seen
  one = record { slot = old.slot; known = old.force; before = old.clock; step = step }

  abbrev all : List Seen
  all = seen_of steps

  seen : all ++ one ∷ [] ≡ seen_of (steps ++ step ∷ [])
  seen = (λ i. all ++ record { slot = is.slot i; known = is.force i; before = is.clock i; step = step } ∷ []) ∙ sym (seen_more None first_text first_clock steps step)

  counted : (is_so : Seen → Bool) (was now : ℕ) → was ≡ number is_so all → now ≡ more_if (is_so one) was → now ≡ number is_so (seen_of (steps ++ step ∷ []))
  counted is_so was now before more = more ∙ ap (more_if (is_so one)) before ∙ sym (number_more is_so all one) ∙ ap (number is_so) seen

  with_schedule : IsAccountOf (record new { schedule = old.schedule }) (steps ++ step ∷ [])
  with_schedule = record {
    slot = added.slot ∙ sym (slot_more None steps step);
    force = added.force ∙ ap (λ known. force_after known step) is.force ∙ sym (force_more first_text steps step);
    clock = added.clock ∙ ap (clock_after step.bytes) is.clock ∙ sym (clock_more first_clock steps step);
    records = added.records ∙ ap (λ count. add count 1) is.records ∙ sym (counted_more steps step);
    steps_back = counted is_step_back old.steps_back new.steps_back is.steps_back added.steps_back;
    samples = counted (is_sample old.schedule.now) old.samples new.samples is.samples added.samples;
    ungiven = counted (is_ungiven old.schedule.now) old.ungiven new.ungiven is.ungiven added.ungiven;
    rows =
        subst (λ (rows : List RuleRow). AllByRecursion (Counts old.schedule.now (seen_of (steps ++ step ∷ []))) rows) (sym added.rows)
        (subst (λ (some : List Seen). AllByRecursion (Counts old.schedule.now some) (map (row_sampled (requests_at old.schedule.now one) (checker_at one) (force_at one)) (rows_of old))) seen
        (rows_more old.schedule.now all one (rows_of old) is.rows));
    packets =
        subst (λ (counts : List PacketCount). AllByRecursion (CountsPackets (seen_of (steps ++ step ∷ []))) counts) (sym added.packets)
        (subst (λ (some : List Seen). AllByRecursion (CountsPackets some) (packets_after (brings step.bytes) old.packets.items)) seen
        (packets_more all one old.packets.items is.packets));
    lanes =
        subst (λ (lanes : List Lane). AllByRecursion (IsLane old.schedule.now (seen_of (steps ++ step ∷ []))) lanes) (sym added.lanes)
        (subst (λ (some : List Seen). AllByRecursion (IsLane old.schedule.now some)
        (map (lane_with (length old.schedule.now) (clock_after step.bytes old.clock) (requests_at old.schedule.now one) (checker_at one)) (lanes_of old))) seen
        (lanes_more old.schedule.now all one (lanes_of old) is.lanes));
    numbered =
        ap rules_of added.lanes
        ∙ same_numbers (length old.schedule.now) (clock_after step.bytes old.clock) (requests_at old.schedule.now one) (checker_at one) (lanes_of old)
        ∙ is.numbered
        ∙ ap numbers_below (sym (length-map (lanes_of old) (lane_with (length old.schedule.now) (clock_after step.bytes old.clock) (requests_at old.schedule.now one) (checker_at one))) ∙ sym (ap length added.lanes));
  }

  pub accounts : IsAccountOf new (steps ++ step ∷ [])
  accounts = subst (λ schedule. IsAccountOf (record new { schedule = schedule }) (steps ++ step ∷ [])) (sym added.schedule) with_schedule

-- its packet and its samples were counted, one after the other
pub added_so : (old packet sampled : RunAccount) (step : Step) (requests : List SampleRequest) (slot : Option ℕ) (force : KnownText) (clock : RunClock) (records back : ℕ) →
    requests ≡ requests_in old.schedule.now old.slot step.bytes → force ≡ force_after old.force step → clock ≡ clock_after step.bytes old.clock → records ≡ add old.records 1 →
    back ≡ more_if (is_back old.clock.last (time_of step.bytes)) old.steps_back →
    HasPacket (brings step.bytes) (record old { force = force; clock = clock; records = records; steps_back = back }) packet →
    HasSampled packet sampled requests (engine_among step.host.host.seats) packet.force.number → slot ≡ slot_after step →
    HasAdded old (record sampled { slot = slot }) step
added_so old packet sampled step requests slot force clock records back bring forced time count backs has samples next =
    let one : Seen = record { slot = old.slot; known = old.force; before = old.clock; step = step } in record {
      schedule = samples.schedule ∙ has.schedule;
      slot = next;
      force = samples.force ∙ has.force ∙ forced;
      clock = samples.clock ∙ has.clock ∙ time;
      records = samples.records ∙ has.records ∙ count;
      steps_back = samples.steps_back ∙ has.steps_back ∙ backs;
      packets = samples.packets ∙ has.packets;
      samples = samples.samples ∙ (λ i. more_if (has_sample (bring i) (checker_at one)) (has.samples i));
      ungiven = samples.ungiven ∙ (λ i. more_if (has_sample (bring i) (checker_at one) && is_none ((has.force ∙ forced) i).number) (has.ungiven i));
      rows = samples.rows ∙ (λ i. map (row_sampled (bring i) (checker_at one) ((has.force ∙ forced) i).number) (has.rows i));
      lanes =
          samples.lanes
          ∙ (λ i. map (lane_with (length (has.schedule i).now) ((has.clock ∙ time) i) (bring i) (checker_at one)) (has.lanes i));
    }

-- ---- a record without a sample

second_none : (one other : Bool) → (one || other) ≡ false → other ≡ false
second_none false other none = none
second_none true other none = absurd (cc none)

first_none : (one other : Bool) → (one || other) ≡ false → one ≡ false
first_none false other none = refl
first_none true other none = absurd (cc none)

none_there : (requests : List SampleRequest) (own : LcOwn) (points : List (Point Tally)) (rule n : ℕ) (point : Point Tally) → sampled_from requests own rule points ≡ false →
    slice_get points n ≡ Some point → is_some (result_of requests (Some own) (rule + n)) ≡ false
none_there requests own [] rule n point none is = absurd (cc is)
none_there requests own (one ∷ points) rule zero point none is =
    (λ i. is_some (result_of requests (Some own) (same i))) ∙ first_none (is_some (result_of requests (Some own) rule)) (sampled_from requests own (rule + 1) points) none
  where
    same : rule + zero ≡ rule
    same = omega arith
none_there requests own (one ∷ points) rule (suc n) point none is =
    (λ i. is_some (result_of requests (Some own) (same i)))
    ∙ none_there requests own points (rule + 1) n point (second_none (is_some (result_of requests (Some own) rule)) (sampled_from requests own (rule + 1) points) none) is
  where
    same : rule + suc n ≡ (rule + 1) + n
    same = omega arith

no_result : (requests : List SampleRequest) (own : LcOwn) (rule : ℕ) (disabled taking : Bool) → is_disabled own.mode ≡ disabled → are_taking requests rule ≡ taking →
    slice_get own.points rule ≡ None → is_some (result_of requests (Some own) rule) ≡ false
no_result requests own rule disabled false mode taken is = rw taken refl
no_result requests own rule true true mode taken is = rw (taken, mode) refl
no_result requests own rule false true mode taken is = rw (taken, mode, is) refl

by_point : (requests : List SampleRequest) (own : LcOwn) (rule : ℕ) (found : Option (Point Tally)) → slice_get own.points rule ≡ found → sampled_from requests own 0 own.points ≡ false →
    is_some (result_of requests (Some own) rule) ≡ false
by_point requests own rule None is none = no_result requests own rule (is_disabled own.mode) (are_taking requests rule) refl refl is
by_point requests own rule (Some point) is none =
    (λ i. is_some (result_of requests (Some own) (same i))) ∙ none_there requests own own.points 0 rule point none is
  where
    same : rule ≡ 0 + rule
    same = omega arith

no_checker : (requests : List SampleRequest) (rule : ℕ) (taking : Bool) → are_taking requests rule ≡ taking → is_some (result_of requests None rule) ≡ false
no_checker requests rule true taken = rw taken refl
no_checker requests rule false taken = rw taken refl

unsampled : (requests : List SampleRequest) (checker : Option LcOwn) (rule : ℕ) → has_sample requests checker ≡ false → is_some (result_of requests checker rule) ≡ false
unsampled requests None rule none = no_checker requests rule (are_taking requests rule) refl
unsampled requests (Some own) rule none = by_point requests own rule (slice_get own.points rule) refl none

same_row : (force : Option ℕ) (found : Option ApResult) (row : RuleRow) → is_some found ≡ false → row ≡ row_with 1 force found row
same_row None found row none = refl
same_row (Some text) None row none = refl
same_row (Some text) (Some found) row none = absurd (cc none)

same_rows : (requests : List SampleRequest) (checker : Option LcOwn) (force : Option ℕ) (rows : List RuleRow) → has_sample requests checker ≡ false →
    rows ≡ map (row_sampled requests checker force) rows
same_rows requests checker force [] none = refl
same_rows requests checker force (row ∷ rows) none =
    λ i. same_row force (result_of requests checker row.rule) row (unsampled requests checker row.rule none) i ∷ same_rows requests checker force rows none i

same_lane : (slots : ℕ) (clock : RunClock) (requests : List SampleRequest) (checker : Option LcOwn) (lane : Lane) (b : Bool) → is_some (result_of requests checker lane.rule) ≡ b → b ≡ false →
    lane ≡ lane_with slots clock requests checker lane
same_lane slots clock requests checker lane false test none = rw test refl
same_lane slots clock requests checker lane true test none = absurd (cc none)

same_lanes : (slots : ℕ) (clock : RunClock) (requests : List SampleRequest) (checker : Option LcOwn) (lanes : List Lane) → has_sample requests checker ≡ false →
    lanes ≡ map (lane_with slots clock requests checker) lanes
same_lanes slots clock requests checker [] none = refl
same_lanes slots clock requests checker (lane ∷ lanes) none =
    λ i. same_lane slots clock requests checker lane (is_some (result_of requests checker lane.rule)) refl (unsampled requests checker lane.rule none) i ∷ same_lanes slots clock requests checker lanes none i

pub none_counted : (it : RunAccount) (has_results : Bool) (requests : List SampleRequest) (checker : Option LcOwn) (force : Option ℕ) → has_sample requests checker ≡ false →
    HasSampled it (record it { has_results = has_results }) requests checker force
none_counted it has_results requests checker force none = record {
  schedule = refl;
  slot = refl;
  force = refl;
  clock = refl;
  records = refl;
  steps_back = refl;
  packets = refl;
  samples = λ i. more_if (sym none i) it.samples;
  ungiven = λ i. more_if (sym none i && is_none force) it.ungiven;
  rows = same_rows requests checker force (rows_of it) none;
  lanes = same_lanes (length it.schedule.now) it.clock requests checker (lanes_of it) none;
}

-- ---- a sample that repeats those before it

-- it is noted
pub one_noted : (it : RunAccount) (requests : List SampleRequest) (checker : Option LcOwn) (samples ungiven : ℕ) →
    samples ≡ more_if (has_sample requests checker) it.samples → ungiven ≡ more_if (has_sample requests checker && is_none it.force.number) it.ungiven →
    IsRepeat it.repeats it.results.items it.lanes.items requests checker it.force.number it.clock →
    HasSampled it (record it {
      samples = samples;
      ungiven = ungiven;
      has_results = true;
      repeats = record { count = it.repeats.count + 1; force = it.force.number; last = it.clock.passed; allowed = two_cycles (length it.schedule.now) it.clock.tick };
    }) requests checker it.force.number
one_noted it requests checker samples ungiven sampled of_none repeat =
    let next : it.repeats.count + 1 ≡ suc it.repeats.count = omega arith in
    record {
      schedule = refl;
      slot = refl;
      force = refl;
      clock = refl;
      records = refl;
      steps_back = refl;
      packets = refl;
      samples = sampled;
      ungiven = of_none;
      rows =
          (λ i. map (row_by (next i) it.force.number it.results.items) it.rows.items)
          ∙ sym (rows_one_more it.repeats.count it.repeats.force it.force.number it.results.items requests checker it.rows.items repeat.text repeat.same);
      lanes =
          (λ i. map (lane_by (next i) it.clock.passed (two_cycles (length it.schedule.now) it.clock.tick) it.results.items) it.lanes.items)
          ∙ sym (lanes_one_more it.repeats.count it.repeats.last it.repeats.allowed (length it.schedule.now) it.clock it.results.items requests checker it.lanes.items repeat.same repeat.on_time);
    }

-- or those noted are counted, and then it is
pub one_counted : (old settled new : RunAccount) (has_results : Bool) (samples ungiven : ℕ) (requests : List SampleRequest) (checker : Option LcOwn) →
    samples ≡ more_if (has_sample requests checker) old.samples → ungiven ≡ more_if (has_sample requests checker && is_none old.force.number) old.ungiven →
    HasSettled (record old { samples = samples; ungiven = ungiven; has_results = has_results }) settled →
    HasCounted settled new requests checker → HasSampled old new requests checker old.force.number
one_counted old settled new has_results samples ungiven requests checker sampled of_none has counted = record {
  schedule = counted.schedule ∙ has.schedule;
  slot = counted.slot ∙ has.slot;
  force = counted.force ∙ has.force;
  clock = counted.clock ∙ has.clock;
  records = counted.records ∙ has.records;
  steps_back = counted.steps_back ∙ has.steps_back;
  packets = counted.packets ∙ has.packets;
  samples = counted.samples ∙ has.samples ∙ sampled;
  ungiven = counted.ungiven ∙ has.ungiven ∙ of_none;
  rows =
      rows_none new.repeats.count new.repeats.force new.results.items new.rows.items (ap (λ (r : Repeats). r.count) counted.repeats ∙ has.none)
      ∙ counted.rows
      ∙ (λ i. map (row_sampled requests checker (has.force i).number) (has.rows i));
  lanes =
      lanes_none new.repeats.count new.repeats.last new.repeats.allowed new.results.items new.lanes.items (ap (λ (r : Repeats). r.count) counted.repeats ∙ has.none)
      ∙ counted.lanes
      ∙ (λ i. map (lane_with (length (has.schedule i).now) (has.clock i) requests checker) (has.lanes i));
}

-- ---- before the first record

pub none_yet : (it : RunAccount) → it.repeats ≡ none_noted → it.slot ≡ None → it.force ≡ first_text → it.clock ≡ first_clock → it.records ≡ 0 → it.steps_back ≡ 0 → it.samples ≡ 0 → it.ungiven ≡ 0 →
    AllByRecursion (λ (row : RuleRow). row.counts ≡ no_counts) it.rows.items → AllByRecursion (λ (count : PacketCount). count.packets ≡ 0) it.packets.items →
    AllByRecursion (λ (lane : Lane). lane ≡ new_lane it.schedule.now lane) it.lanes.items → rules_of it.lanes.items ≡ numbers_below (length it.lanes.items) → IsAccountOf it []
none_yet it none slot force clock records back samples ungiven rows packets lanes numbered =
    let no_more : it.repeats.count ≡ 0 = ap (λ (r : Repeats). r.count) none in
    let same : lanes_of it ≡ it.lanes.items = lanes_none it.repeats.count it.repeats.last it.repeats.allowed it.results.items it.lanes.items no_more in
    record {
      slot = slot;
      force = force;
      clock = clock;
      records = records;
      steps_back = back;
      samples = samples;
      ungiven = ungiven;
      rows = subst (AllByRecursion (λ (row : RuleRow). row.counts ≡ counts_of it.schedule.now row.text row.rule (seen_of []))) (sym (rows_none it.repeats.count it.repeats.force it.results.items it.rows.items no_more)) rows;
      packets = packets;
      lanes = subst (AllByRecursion (λ (lane : Lane). lane ≡ lane_of it.schedule.now (seen_of []) lane)) (sym same) lanes;
      numbered = subst (λ (some : List Lane). rules_of some ≡ numbers_below (length some)) (sym same) numbered;
    }
