-- What a watched run shows at a place of its stream is what stands after the bytes before that place.
use Rattle.std.proofs.Common.{◌≡◌, refl, sym, ◌∙◌, ap, subst, ℕ, zero, suc, ◌+◌, ◌-◌, ◌<◌, ◌≤◌, Bool, true, false, nat_lt, List, [], ◌∷◌, ◌++◌, length, length-append, length-take, take, take-add, drop, map, append_assoc, append-nil, arith}
use Rattle.std.specs.List.{take-map}
use Rattle.std.proofs.lemmas.List.{length-map, length-take-le, take-append-drop}
use Rattle.std.proofs.Math.Seq.{drop-append-add, take-append_seam}
use Rattle.lc_model.specs.Host.Schedule.{Schedule}
use Rattle.lc_model.specs.Host.Stream.{StreamEntry, End, Front, EndOfStream, Record, NoRecord, CutRecord, all_kinds, body_size, front, records_by_front, records_numbered, records_of}
use Rattle.lc_model.proofs.Facts.{tested_less, tested_not_less}
use Rattle.lc_model.proofs.Host.Streams.{front_decides}
use Rattle.app_host.specs.Delivered.{executive_in}
use Rattle.flight_core.specs.Feeding.{Feeding}
use Rattle.run_stepper.specs.declared.ending.Ending.{Ending}
use Rattle.run_stepper.specs.Places.{IsReached, RunsAreSeenThrough, StandsBehind, end_behind, host_after, length_before}
use Rattle.run_stepper.specs.Stepping.{BeginsWith, one_record}
use Rattle.run_stepper.specs.Steps.{Step, Went, bytes_of, part_of}
use Rattle.run_stepper.specs.Trace.{HasRun, Part, ending_by, size_in_front}
use Rattle.run_stepper.specs.Watching.{GoesThrough}
use Rattle.run_stepper.proofs.InFront.{a_record, long_size, same_size, whole_stays}
use Rattle.run_stepper.proofs.Stepped.{as_long, goes, none_left}
use Rattle.run_stepper.proofs.Tracing.{Tracing, begun, ends_there, has_run}

-- ---- some of the steps

went_so_far : (first last : Feeding) (steps : List Step) (count : ℕ) → Went first steps last → Went first (take count steps) (host_after first steps count)
went_so_far first last steps zero went = refl
went_so_far first last [] (suc count) went = refl
went_so_far first last (step ∷ steps) (suc count) went = (went.0, went_so_far step.host last steps count went.1)

bytes_of_both : (ahead behind : List Step) → bytes_of (ahead ++ behind) ≡ bytes_of ahead ++ bytes_of behind
bytes_of_both [] behind = refl
bytes_of_both (step ∷ ahead) behind = ap (λ bytes. step.bytes ++ bytes) (bytes_of_both ahead behind) ∙ sym (append_assoc step.bytes (bytes_of ahead) (bytes_of behind))

-- a record ends where the next one begins
ends_at : (texts : ℕ) (rest : List ℕ) (steps : List Step) (entries : List StreamEntry) (before : ℕ) → before < length steps →
    map (λ (step : Step). records_of texts step.bytes) steps ≡ map one_record entries → end_behind (bytes_of steps ++ rest) steps before ≡ length_before steps (suc before)
ends_at texts rest [] entries before some each = absurd (omega (arith, some))
ends_at texts rest (step ∷ steps) [] before some each = absurd (cc each)
ends_at texts rest (step ∷ steps) (entry ∷ entries) zero some each =
    let own : records_of texts step.bytes ≡ one_record entry = cc each in
    let size : size_in_front ((step.bytes ++ bytes_of steps) ++ rest) ≡ length (step.bytes ++ []) =
    ap size_in_front (append_assoc step.bytes (bytes_of steps) rest) ∙ as_long texts step.bytes (bytes_of steps ++ rest) entry own ∙ ap length (sym (append-nil step.bytes)) in
    omega (arith, size)
ends_at texts rest (step ∷ steps) (entry ∷ entries) (suc before) some each =
    let others : map (λ (step : Step). records_of texts step.bytes) steps ≡ map one_record entries = cc each in
    let ahead : ℕ = length_before steps before in
    let one : length (step.bytes ++ bytes_of (take before steps)) ≡ length step.bytes + ahead = length-append step.bytes (bytes_of (take before steps)) in
    let two : length (step.bytes ++ bytes_of (take (suc before) steps)) ≡ length step.bytes + length_before steps (suc before) = length-append step.bytes (bytes_of (take (suc before) steps)) in
    let left : drop (length (step.bytes ++ bytes_of (take before steps))) ((step.bytes ++ bytes_of steps) ++ rest) ≡ drop ahead (bytes_of steps ++ rest) =
    (λ i. drop (one i) (append_assoc step.bytes (bytes_of steps) rest i)) ∙ drop-append-add step.bytes (bytes_of steps ++ rest) ahead in
    let next : ahead + size_in_front (drop ahead (bytes_of steps ++ rest)) ≡ length_before steps (suc before) = ends_at texts rest steps entries before (omega (arith, some)) others in
    (λ i. one i + size_in_front (left i)) ∙ omega (arith, next, two)

-- ---- what is in front

none_by : (n number : ℕ) (bytes : List ℕ) (f : Front) → front all_kinds n bytes ≡ f → (records_by_front (records_numbered all_kinds n (number + 1)) number f).0 ≡ [] →
    (records_numbered all_kinds n number bytes).0 ≡ []
none_by n number bytes f is none =
    ap (λ (r : List StreamEntry × End). r.0) (front_decides all_kinds n number bytes ∙ ap (records_by_front (records_numbered all_kinds n (number + 1)) number) is) ∙ none

some_there : (n number : ℕ) (bytes : List ℕ) (entry : StreamEntry) (others : List ℕ) → front all_kinds n bytes ≡ Record entry others → (records_numbered all_kinds n number bytes).0 ≡ [] → ⊥
some_there n number bytes entry others is none =
    let some : entry ∷ (records_numbered all_kinds n (number + 1) others).0 ≡ [] =
    sym (ap (λ (r : List StreamEntry × End). r.0) (front_decides all_kinds n number bytes ∙ ap (records_by_front (records_numbered all_kinds n (number + 1)) number) is)) ∙ none in
    cc some

none_unless : (n number : ℕ) (bytes : List ℕ) (f : Front) → front all_kinds n bytes ≡ f → ((entry : StreamEntry) (others : List ℕ) → front all_kinds n bytes ≡ Record entry others → ⊥) →
    (records_numbered all_kinds n number bytes).0 ≡ []
none_unless n number bytes (Record entry others) is never = absurd (never entry others is)
none_unless n number bytes EndOfStream is never = none_by n number bytes EndOfStream is refl
none_unless n number bytes NoRecord is never = none_by n number bytes NoRecord is refl
none_unless n number bytes CutRecord is never = none_by n number bytes CutRecord is refl

-- a record in front of some of the bytes is in front of all of them
module _ (texts most : ℕ) (bytes : List ℕ) (entry : StreamEntry) (others : List ℕ) (is : front all_kinds texts (take most bytes) ≡ Record entry others) where
  parted : bytes ≡ take most bytes ++ drop most bytes
  parted = sym (take-append-drop most bytes)

  record_there : front all_kinds texts bytes ≡ Record entry (others ++ drop most bytes)
  record_there = whole_stays texts bytes (take most bytes) (drop most bytes) parted entry others is

  -- and ends there
  record_ends : size_in_front bytes ≤ most
  record_ends =
      let short = a_record texts (take most bytes) entry others is in
      let long = a_record texts bytes entry (others ++ drop most bytes) record_there in
      let size : body_size bytes ≡ body_size (take most bytes) = ap body_size parted ∙ same_size (take most bytes) (drop most bytes) short.long in
      omega (arith, long_size bytes long.long, short.inside, size, length-take most bytes)

-- ---- at a place

module _ (sources : List (List ℕ)) (schedule : Schedule) (stream : List ℕ) (first : Feeding) (steps : List Step) (ending : Ending) (count place : ℕ)
    (begins : BeginsWith sources schedule first) (through : GoesThrough first stream steps ending) (reached : IsReached stream steps count place) where
  abbrev texts : ℕ
  texts = length first.files

  abbrev entries : List StreamEntry
  entries = (records_of texts stream).0

  abbrev ahead : List Step
  ahead = take count steps

  abbrev parts : List Part
  parts = map part_of ahead

  abbrev last : Feeding
  last = host_after first steps count

  abbrev size : ℕ
  size = length_before steps count

  abbrev behind : List ℕ
  behind = drop size stream

  went : Went first ahead last
  went = went_so_far first through.last steps count through.went

  each : map (λ (step : Step). records_of texts step.bytes) ahead ≡ map one_record (take count entries)
  each = sym (take-map (λ (step : Step). records_of texts step.bytes) count steps) ∙ ap (take count) through.are_records.each ∙ take-map one_record count entries

  joined : bytes_of ahead ++ (bytes_of (drop count steps) ++ through.rest) ≡ stream
  joined =
      sym (append_assoc (bytes_of ahead) (bytes_of (drop count steps)) through.rest)
      ∙ ap (λ bytes. bytes ++ through.rest) (sym (bytes_of_both ahead (drop count steps)) ∙ ap bytes_of (take-append-drop count steps))
      ∙ through.bytes

  in_front : take size stream ≡ bytes_of ahead
  in_front = ap (take size) (sym joined) ∙ take-append_seam (bytes_of ahead) (bytes_of (drop count steps) ++ through.rest)

  whole : bytes_of ahead ++ behind ≡ stream
  whole = ap (λ bytes. bytes ++ behind) (sym in_front) ∙ take-append-drop size stream

  -- the run after these records, in front of any others
  far : (tail : List ℕ) → Tracing first.files (executive_in first.host) (bytes_of ahead ++ tail) last parts tail
  far tail =
      goes first.files (executive_in first.host) (bytes_of ahead ++ tail) first last [] (bytes_of ahead ++ tail) tail ahead (take count entries)
      (begun sources schedule (bytes_of ahead ++ tail) first begins) went refl each

  -- these records end at or before the place
  ends : (before : ℕ) → before < length steps → end_behind stream steps before ≡ length_before steps (suc before)
  ends before some =
      subst (λ all. end_behind all steps before ≡ length_before steps (suc before)) through.bytes (ends_at texts through.rest steps entries before some through.are_records.each)

  on : size ≤ place
  on = by_count count reached.within reached.late
    where
      by_count : (number : ℕ) → number ≤ length steps → ((before : ℕ) → before < number → end_behind stream steps before ≤ place) → length_before steps number ≤ place
      by_count zero within late = omega arith
      by_count (suc before) within late = let next : end_behind stream steps before ≤ place = late before (omega arith) in omega (arith, next, ends before (omega (arith, within)))

  abbrev part : List ℕ
  part = take (place - size) behind

  up_to : bytes_of ahead ++ part ≡ take place stream
  up_to =
      let sum : size + (place - size) ≡ place = omega (arith, on) in
      ap (λ bytes. bytes ++ part) (sym in_front) ∙ sym (take-add size (place - size) stream) ∙ ap (λ k. take k stream) sum

  -- where these are all records, no other is left
  none_behind : length steps ≤ count → (records_numbered all_kinds texts (1 + length parts) behind).0 ≡ []
  none_behind all =
      let here : Tracing first.files (executive_in first.host) stream last parts behind =
      subst (λ bytes. Tracing first.files (executive_in first.host) bytes last parts behind) whole (far behind) in
      let many : length steps ≡ length entries =
      sym (length-map steps (λ (step : Step). records_of texts step.bytes)) ∙ ap length through.are_records.each ∙ length-map entries one_record in
      none_left first.files (executive_in first.host) stream last parts behind here (omega (arith, all, many, reached.within, length-map ahead part_of, length-take-le count steps reached.within))

  no_record : (entry : StreamEntry) (others : List ℕ) → front all_kinds texts part ≡ Record entry others → ⊥
  no_record entry others is = by_test (nat_lt count (length steps)) refl
    where
      by_test : (b : Bool) → nat_lt count (length steps) ≡ b → ⊥
      by_test true less =
          let next : place < size + size_in_front behind = reached.early (tested_less count (length steps) less) in
          omega (arith, next, record_ends texts (place - size) behind entry others is, on)
      by_test false less =
          some_there texts (1 + length parts) behind entry (others ++ drop (place - size) behind) (record_there texts (place - size) behind entry others is)
          (none_behind (tested_not_less count (length steps) less))

  there : StandsBehind sources schedule (take place stream) (executive_in last.host)
  there =
      let found : List StreamEntry × End = records_numbered all_kinds texts (1 + length parts) part in
      let none : found.0 ≡ [] = none_unless texts (1 + length parts) part (front all_kinds texts part) refl no_record in (
        record { parts = parts; ending = ending_by (length parts) found.1 },
        subst (λ all. HasRun sources schedule all (record { parts = parts; ending = ending_by (length parts) found.1 }) (executive_in last.host)) up_to
            (has_run sources schedule (bytes_of ahead ++ part) first last.host (record { parts = parts; ending = ending_by (length parts) found.1 }) begins
            (ends_there first.files (executive_in first.host) (bytes_of ahead ++ part) last parts part found.1 (far part) (λ i. (none i, found.1)))),
      )

pub runs_are_seen_through : RunsAreSeenThrough
runs_are_seen_through sources schedule stream first steps ending count place begins through reached =
    there sources schedule stream first steps ending count place begins through reached
