-- The steps back that an import reports are those of its stream.
use Rattle.std.proofs.Common.{◌≡◌, refl, sym, ◌∙◌, ap, ℕ, zero, suc, ◌+◌, ◌-◌, ◌*◌, ◌/◌, ◌%◌, ◌<◌, ◌≤◌, ◌^◌, Bool, true, false, not, ◌&&◌, ◌||◌, nat_le, List, [], ◌∷◌, ◌++◌, length, take, drop, slice_index, length-drop, append_assoc, append-nil, flat_map, Option, Some, None, if◌then◌else◌, arith}
use Rattle.std.specs.Int.{w16, w32, from_be_bytes}
use Rattle.std.proofs.lemmas.Nat.{from_be_bytes-to_be_bytes_2, from_be_bytes-to_be_bytes_4}
use Rattle.std.proofs.Math.Nat.{mod-lt}
use Rattle.lc_model.specs.declared.record.Moment.{Moment}
use Rattle.lc_model.specs.Bytes.{u16_at, u32_at}
use Rattle.lc_model.specs.Packet.{is_command}
use Rattle.lc_model.specs.Host.Stream.{Contents, StreamEntry, End, Front, EndOfStream, NoRecord, CutRecord, Record, all_kinds, contents_of, fits_body, front, max_body, moment_of, records_by_front, records_numbered}
use Rattle.lc_model.specs.Host.Stream as stream
use Rattle.lc_model.proofs.Facts.{test_at_most}
use Rattle.lc_model.proofs.Host.Streams.{front_decides}
use Rattle.stream_script.specs.Front.{any_text}
use Rattle.stream_script.proofs.Stands.{below_four, below_two, bytes_before, bytes_behind}
use Rattle.packet_archive.specs.declared.choice.Fate.{Fate}
use Rattle.packet_archive.specs.declared.choice.Fate.TheVariants.{Kept, Idle, Other, Faulty}
use Rattle.packet_archive.specs.declared.clock.TimeBreak.{TimeBreak}
use Rattle.packet_archive.specs.declared.clock.Times.{Times}
use Rattle.packet_archive.specs.declared.clock.Times.TheVariants.{Header, Steps}
use Rattle.packet_archive.specs.declared.front.ArchiveFront.{ArchiveFront}
use Rattle.packet_archive.specs.declared.front.ArchiveFront.TheVariants.{Over, Gap, Cut, Foreign, Unmarked, Stray, Packet}
use Rattle.packet_archive.specs.declared.import.Met.{Met}
use Rattle.packet_archive.specs.Breaks.{IsMoment, StepsBackAreReported, back_of, moment_with, moments_in, reported, step_back, steps_back}
use Rattle.packet_archive.specs.Choice.{fate_of}
use Rattle.packet_archive.specs.Clock.{Clocked, break_at, has_time, is_before, is_leap, moment_by, next_count, ticks_due}
use Rattle.packet_archive.specs.Import.{Asking, Imported, Step, by_fate, by_front, front_for, imported, next_step, nothing, passed, record_bytes, records_at, tick_at, tick_kind, ticks, ticks_before}
use Rattle.packet_archive.specs.Parts.{parts_of}
use Rattle.packet_archive.proofs.Exports.{same_records}
use Rattle.packet_archive.proofs.GivenBack.{not_long}
use Rattle.packet_archive.proofs.Pieces.{no_step, one_step, passes}
use Rattle.packet_archive.proofs.Places.{no_parts, one_part}
use Rattle.packet_archive.proofs.Written.{in_front}

abbrev Are : List ℕ → Type 0
Are bytes = (place : ℕ) → slice_index bytes place < 256

-- ---- the moments of records

abbrev entry_moment : StreamEntry → List Moment
entry_moment entry = moment_with entry.moment entry.contents

abbrev moments_by : Front → List Moment
moments_by (Record entry rest) = entry_moment entry ++ moments_in rest
moments_by other = []

moments_front : (bytes : List ℕ) → moments_in bytes ≡ moments_by (front all_kinds any_text bytes)
moments_front bytes =
    ap (λ (r : List StreamEntry × End). flat_map entry_moment r.0) (front_decides all_kinds any_text 1 bytes) ∙ by_front (front all_kinds any_text bytes)
  where
    by_front : (f : Front) → flat_map entry_moment (records_by_front (records_numbered all_kinds any_text (1 + 1)) 1 f).0 ≡ moments_by f
    by_front EndOfStream = refl
    by_front NoRecord = refl
    by_front CutRecord = refl
    by_front (Record entry rest) = ap (λ entries. entry_moment entry ++ flat_map entry_moment entries) (same_records all_kinds any_text (length rest) 2 1 rest)

-- whatever follows, these bytes bring packets of these moments
abbrev Dates : List ℕ → List Moment → Type 0
Dates out moments = (more : List ℕ) → moments_in (out ++ more) ≡ moments ++ moments_in more

dates_both : (a b : List ℕ) (p q : List Moment) → Dates a p → Dates b q → Dates (a ++ b) (p ++ q)
dates_both a b p q first second more =
    ap moments_in (append_assoc a b more)
    ∙ first (b ++ more)
    ∙ ap (λ (out : List Moment). p ++ out) (second more)
    ∙ sym (append_assoc p q (moments_in more))

module _ (kind : ℕ) (moment : Moment) (body : List ℕ) (is : IsMoment moment) where
  moment_is : (more : List ℕ) → moment_of (record_bytes kind moment body ++ more) ≡ moment
  moment_is more = λ i. record {
    seconds = from_be_bytes-to_be_bytes_4 moment.seconds is.seconds i;
    subseconds = from_be_bytes-to_be_bytes_2 moment.subseconds is.subseconds i;
  }

  dates_record : (contents : Contents) → length body ≤ max_body → fits_body all_kinds kind (length body) ≡ true → contents_of any_text kind body ≡ Some contents →
      Dates (record_bytes kind moment body) (moment_with moment contents)
  dates_record contents few fits brings more =
      moments_front (record_bytes kind moment body ++ more)
      ∙ ap moments_by (in_front kind moment body more contents few fits brings)
      ∙ ap (λ (m : Moment). moment_with m contents ++ moments_in more) (moment_is more)

-- ticks bring none, whatever their seconds
dates_tick : (moment : Moment) → Dates (record_bytes 2 moment []) []
dates_tick moment more =
    moments_front (record_bytes 2 moment [] ++ more) ∙ ap moments_by (in_front 2 moment [] more stream.Tick (omega arith) refl refl)

dates_ticks : (count period second : ℕ) → Dates (ticks count period second) []
unfolding ticks
dates_ticks zero period second = λ more. refl
dates_ticks (suc count) period second =
    dates_both (record_bytes tick_kind (record { seconds = second; subseconds = 0 }) []) (ticks count period (second + period)) [] []
    (dates_tick (record { seconds = second; subseconds = 0 })) (dates_ticks count period (second + period))

dates_due : (period : ℕ) (next : Option ℕ) (second : ℕ) → Dates (ticks_before period next second) []
dates_due period None second = λ more. refl
dates_due period (Some next) second = dates_ticks (ticks_due period (Some next) second) period next

dates_kept : (clock : Clocked) (moment : Moment) (packet : List ℕ) → IsMoment moment → length packet ≤ max_body → Dates (records_at clock moment packet) (moment ∷ [])
dates_kept clock moment packet is few =
    dates_both (ticks_before clock.period (tick_at clock moment) moment.seconds) (record_bytes 1 moment packet) [] (moment ∷ [])
    (dates_due clock.period (tick_at clock moment) moment.seconds)
    (dates_record 1 moment packet is (stream.Packet packet) few (test_at_most (length packet) max_body few) refl)

-- ---- the moments of packets

four_below : (bytes : List ℕ) → 4 ≤ length bytes → Are bytes → from_be_bytes w32 bytes < 2 ^ 32
four_below [] long are = absurd (omega (arith, long))
four_below (a ∷ []) long are = absurd (omega (arith, long))
four_below (a ∷ b ∷ []) long are = absurd (omega (arith, long))
four_below (a ∷ b ∷ c ∷ []) long are = absurd (omega (arith, long))
four_below (a ∷ b ∷ c ∷ d ∷ more) long are = below_four a b c d more are

two_below : (bytes : List ℕ) → 2 ≤ length bytes → Are bytes → from_be_bytes w16 bytes < 2 ^ 16
two_below [] long are = absurd (omega (arith, long))
two_below (a ∷ []) long are = absurd (omega (arith, long))
two_below (a ∷ b ∷ more) long are = below_two a b more are

long_enough : (a b c : Bool) → (a && b && c) ≡ true → b ≡ true
long_enough true true c is = refl
long_enough true false c is = cc
long_enough false b c is = cc

is_moment_by : (times : Times) (clock : Clocked) (packet : List ℕ) → Are packet → IsMoment clock.last → IsMoment (moment_by times clock packet)
is_moment_by (Header at epoch) clock packet are last = by_test (has_time at epoch packet) refl
  where
    by_test : (b : Bool) → has_time at epoch packet ≡ b →
        IsMoment (if b then record { seconds = u32_at packet at - epoch; subseconds = u16_at packet (at + 4) } else clock.last)
    by_test false is = last
    by_test true is =
        let there : nat_le (at + 6) (length packet) ≡ true = long_enough (not (is_command packet)) (nat_le (at + 6) (length packet)) (nat_le epoch (u32_at packet at)) is in
        let long : at + 6 ≤ length packet = grind (arith, there) in
        let seconds : u32_at packet at < 2 ^ 32 = four_below (drop at packet) (omega (arith, long, length-drop at packet)) (bytes_behind at packet are) in
        record {
          seconds = omega (arith, seconds);
          subseconds = two_below (drop (at + 4) packet) (omega (arith, long, length-drop (at + 4) packet)) (bytes_behind (at + 4) packet are);
        }
is_moment_by (Steps step) clock packet are last =
    let millionths : next_count clock.count * step % 1000000 < 1000000 = mod-lt (next_count clock.count * step) (omega arith) in
    record {
      seconds = mod-lt (next_count clock.count * step / 1000000) (omega arith);
      subseconds = omega (arith, millionths);
    }

-- ---- a step

nothing_back : (last : Moment) → [] ≡ steps_back last []
unfolding steps_back
nothing_back last = refl

record Tells (clock : Clocked) (step : Step) : Type 0 where
  moments : List Moment
  dates : Dates step.written moments
  tells : (others : List Moment) → reported step.met ++ steps_back step.clock.last others ≡ steps_back clock.last (moments ++ others)
  ends : passed step.met ≡ None → moments ≡ []
  last : IsMoment step.clock.last

tells_nothing : (clock : Clocked) (met : Met) → reported met ≡ [] → IsMoment clock.last → Tells clock (nothing met clock)
tells_nothing clock met none last = record {
  moments = [];
  dates = λ more. refl;
  tells = λ others. ap (λ (told : List TimeBreak). told ++ steps_back clock.last others) none;
  ends = λ is. refl;
  last = last;
}

same_step : (clock : Clocked) (moment : Moment) → back_of (break_at clock moment) ≡ step_back clock.last moment
same_step clock moment = by_tests (is_before moment clock.last) (is_leap clock.period clock.next moment.seconds) refl
  where
    times : TimeBreak
    times = record { from = clock.last; to = moment }

    by_tests : (back leaps : Bool) → is_before moment clock.last ≡ back → back_of (if back || leaps then Some times else None) ≡ (if back then times ∷ [] else [])
    by_tests true leaps is = rw is refl
    by_tests false true is = rw is refl
    by_tests false false is = refl

tells_fate : (fate : Fate) (asking : Asking) (before size : ℕ) (clock : Clocked) (packet : List ℕ) → fate_of asking.chosen packet ≡ fate → Are packet → IsMoment clock.last →
    Tells clock (by_fate fate asking before size clock packet)
unfolding steps_back
tells_fate Kept asking before size clock packet becomes are last =
    let moment : Moment = moment_by asking.times clock packet in
    let is : IsMoment moment = is_moment_by asking.times clock packet are last in
    record {
      moments = moment ∷ [];
      dates = dates_kept clock moment packet is (not_long asking.chosen packet becomes);
      tells = λ others. ap (λ (told : List TimeBreak). told ++ steps_back moment others) (same_step clock moment);
      ends = λ none. absurd (cc none);
      last = is;
    }
tells_fate Idle asking before size clock packet becomes are last = tells_nothing clock _ refl last
tells_fate Other asking before size clock packet becomes are last = tells_nothing clock _ refl last
tells_fate (Faulty fault) asking before size clock packet becomes are last = tells_nothing clock _ refl last

tells_front : (front : ArchiveFront) (asking : Asking) (clock : Clocked) (bytes : List ℕ) → Are bytes → IsMoment clock.last → Tells clock (by_front front asking clock bytes)
tells_front Over asking clock bytes are last = tells_nothing clock _ refl last
tells_front Cut asking clock bytes are last = tells_nothing clock _ refl last
tells_front Foreign asking clock bytes are last = tells_nothing clock _ refl last
tells_front Unmarked asking clock bytes are last = tells_nothing clock _ refl last
tells_front Stray asking clock bytes are last = tells_nothing clock _ refl last
tells_front (Gap size) asking clock bytes are last = tells_nothing clock _ refl last
tells_front (Packet b s) asking clock bytes are last =
    let packet : List ℕ = take s (drop b bytes) in
    tells_fate (fate_of asking.chosen packet) asking b (b + s) clock packet refl (bytes_before s (drop b bytes) (bytes_behind b bytes are)) last

-- ---- all steps

abbrev told : List (Met × List ℕ) → List TimeBreak
told parts = flat_map (λ (part : Met × List ℕ). reported part.0) parts

record AllTold (asking : Asking) (clock : Clocked) (bytes : List ℕ) : Type 0 where
  moments : List Moment
  dates : Dates (imported asking clock bytes).written moments
  tells : told (parts_of asking clock bytes) ≡ steps_back clock.last moments

all_told : (most : ℕ) (asking : Asking) (clock : Clocked) (bytes : List ℕ) → length bytes < most → Are bytes → IsMoment clock.last → AllTold asking clock bytes
all_told zero asking clock bytes less are last = absurd (omega (arith, less))
all_told (suc most) asking clock bytes less are last =
    by_passed (passed (next_step asking clock bytes).met) refl
    (λ size shorter. all_told most asking (next_step asking clock bytes).clock (drop size bytes) shorter (bytes_behind size bytes are) here.last)
  where
    here : Tells clock (next_step asking clock bytes)
    here = tells_front (front_for asking bytes) asking clock bytes are last

    by_passed : (o : Option ℕ) → passed (next_step asking clock bytes).met ≡ o →
        ((size : ℕ) → length (drop size bytes) < most → AllTold asking (next_step asking clock bytes).clock (drop size bytes)) → AllTold asking clock bytes
    by_passed None none others = record {
      moments = [];
      dates = λ more.
          ap (λ (i : Imported). moments_in (i.written ++ more)) (no_step asking clock bytes none)
          ∙ here.dates more
          ∙ ap (λ (ms : List Moment). ms ++ moments_in more) (here.ends none);
      tells = ap told (no_parts asking clock bytes none) ∙ nothing_back clock.last;
    }
    by_passed (Some size) some others =
        let inside = passes asking clock bytes size some in
        let after : Clocked = (next_step asking clock bytes).clock in
        let rest : AllTold asking after (drop size bytes) = others size (omega (arith, length-drop size bytes, inside.some, inside.inside, less)) in
        record {
          moments = here.moments ++ rest.moments;
          dates = λ more.
              ap (λ (i : Imported). moments_in (i.written ++ more)) (one_step asking clock bytes size some)
              ∙ dates_both (next_step asking clock bytes).written (imported asking after (drop size bytes)).written here.moments rest.moments here.dates rest.dates more;
          tells =
              ap told (one_part asking clock bytes size some)
              ∙ ap (λ (others : List TimeBreak). reported (next_step asking clock bytes).met ++ others) rest.tells
              ∙ here.tells rest.moments;
        }

pub steps_back_are_reported : StepsBackAreReported
steps_back_are_reported asking clock archive are last =
    let all : AllTold asking clock archive = all_told (length archive + 1) asking clock archive (omega arith) are last in
    let written : List ℕ = (imported asking clock archive).written in
    let moments : moments_in written ≡ all.moments = ap moments_in (sym (append-nil written)) ∙ all.dates [] ∙ append-nil all.moments in
    all.tells ∙ ap (steps_back clock.last) (sym moments)
