-- How a run ends.
use Rattle.std.proofs.Common.{◌≡◌, refl, sym, ◌∙◌, ap, subst, ℕ, ◌+◌, ◌-◌, ◌<◌, true, List, [], ◌∷◌, ◌++◌, length, take, take-take, Option, Some, Result, Err, arith, append-nil, length-append}
use Rattle.std.specs.List.{concat}
use Rattle.std.specs.Io.KnownBytes.{Appends, Consumes, IsAtEnd, Keeps, append_known}
use Rattle.std.proofs.KnownBytes.{Appends-trans, Consumes-nil, Consumes-trans}
use Rattle.std.proofs.lemmas.List.{length-take-le}
use Rattle.std.proofs.lemmas.List.Folds.{concat-append}
use Rattle.lc_model.specs.Device.{Source, Sink}
use Rattle.lc_model.specs.Tables.Interpretation.{FileMeanings}
use Rattle.lc_model.specs.Host.Run.{input_of}
use Rattle.lc_model.specs.Host.Outcome.{Devices, MayGoOn, TookAndWrote, MeetsNoRecord, FailsToRead, ReachesTheBound, FailsToWrite, IsOutcome}
use Rattle.lc_model.specs.Host.Stream.{StreamEntry, End, Whole, Bad, Truncated, NoRecord, all_kinds, front, records_numbered, records_of}
use Rattle.lc_model.specs.Kept.Executive.{written_from}
use Rattle.lc_model.specs.Kept.Stations as model
use Rattle.lc_model.specs.Kept.Stations.{host_step}
use Rattle.host_refinement.specs.Statements.{AreBrought, StreamsBring, executive_after, RunsGoOn}
use Rattle.host_refinement.specs.Writes.{OpenHostsTake, TakesAsAnswered}
use Rattle.app_host.specs.Shared.{on_board}
use Rattle.app_host.specs.Hosted.{Hosted, in_numbers}
use Rattle.app_host.specs.Delivered.{executive_in}
use Rattle.app_host.specs.Step.{party_of, called_for, StopsSo}
use Rattle.flight_core.specs.declared.error.Report.{Report}
use Rattle.flight_core.specs.declared.error.RunError.{RunError}
use Rattle.flight_core.specs.declared.halt.Halt.{Halt}
use Rattle.flight_core.specs.declared.halt.Halt.TheVariants as halt
use Rattle.flight_core.specs.Cutting.{Goes, EndsBadly, EndsWhole, EndsCut}
use Rattle.flight_core.specs.Ending.{ending_of}
use Rattle.flight_core.specs.Flight.{AreAllKnown, written_by, stopped_by, ended_by}
use Rattle.flight_core.specs.Front.{part_of}
use Rattle.flight_core.specs.Gathered.{with_held, MayHold}
use Rattle.flight_core.specs.Going.{IsNext, IsCutShort, IsHeldUp, IsOver, TakesPiece}
use Rattle.flight_core.specs.Records.{Held, front_of}
use Rattle.flight_core.proofs.Known.{party_known}
use Rattle.flight_core.proofs.Courses.{written_behind, taken_front, Exact, SoFar, in_front, joined}
use Rattle.flight_core.proofs.HeldOutput.{kept_behind, reached_part}

-- this was written so far, which is what is to be written of the records so far where these are all that have come
pub record IsWritten (n : ℕ) (output : List StreamEntry → List ℕ) (come : List ℕ) (entries : List StreamEntry) (before after : Option (List ℕ)) (bytes : ℕ) : Type 0 where
  pub written : List ℕ
  pub wrote : Appends before after written
  pub long : bytes ≡ length written
  pub is : (records_of n come).0 ≡ entries → output (records_of n come).0 ≡ written

-- behind that what one record calls for was written in part
pub record IsCut (output written : List ℕ) (before after : Sink) (sent : ℕ) : Type 0 where
  pub called : List ℕ
  pub others : List ℕ
  pub all : output ≡ (written ++ called) ++ others
  pub fewer : sent < length called
  pub gains : Appends before.gained after.gained (take sent called)
  pub failed : after.failed ≡ true

-- the laws that say how records end
pub record Laws : Type 0 where
  pub goes_on : RunsGoOn on_board
  pub takes : OpenHostsTake on_board
  pub brings : StreamsBring
  pub goes : Goes
  pub bad : EndsBadly
  pub whole : EndsWhole
  pub cut : EndsCut

module _ (laws : Laws) (n : ℕ) (meanings : FileMeanings (List ℕ)) (first : Hosted) (most : ℕ) (source : Source) (sink : Sink) (output : List StreamEntry → List ℕ)
    (now : Hosted) (source_now : Source) (sink_now : Sink) (held : Held) (count bytes : ℕ) (far : SoFar n meanings first source sink now source_now sink_now held count bytes)
    (w : IsWritten n output far.come far.entries sink.gained sink_now.gained bytes) where
  abbrev records : List ℕ → List StreamEntry × End
  records bs = records_of n bs

  -- what was consumed so far, after a read that took nothing
  rest_is : (source_after : Source) → Consumes source_now.rest source_after.rest [] → Consumes source.rest source_after.rest far.come
  rest_is source_after took = subst (Consumes source.rest source_after.rest) (append-nil far.come) (Consumes-trans _ _ _ _ _ far.took took)

  module _ (source_after : Source) (took : Consumes source_now.rest source_after.rest []) where
    abbrev d : Devices
    d = record { source = source; source_after = source_after; sink = sink; sink_after = sink_now }

    took_so : (is : (records far.come).0 ≡ far.entries) → TookAndWrote records output most d far.come
    took_so is = record {
      took = rest_is source_after took;
      wrote = subst (Appends sink.gained sink_now.gained) (sym (w.is is)) w.wrote;
      no_write_failed = far.writable;
    }

    -- behind what is a part of a record at most
    module _ (front_is : front_of held ≡ part_of held.bytes) where
      found : (xs : List ℕ) → held.bytes ≡ xs → front all_kinds n held.bytes ≡ part_of xs
      found xs is = in_front n meanings first far ∙ front_is ∙ ap part_of is

      abbrev IsFound : Type 0
      IsFound = ((records far.come).0 ≡ far.entries) × MayGoOn (records far.come).1

      part_found : (xs : List ℕ) → held.bytes ≡ xs → IsFound
      part_found [] is =
          let e : records far.come ≡ (far.entries, Whole) = laws.whole n far.come far.entries held.bytes far.handed (found [] is) in
          (ap (λ (r : List StreamEntry × End). r.0) e, subst (λ (r : List StreamEntry × End). MayGoOn r.1) (sym e) tt)
      part_found (x ∷ xs) is =
          let e : records far.come ≡ (far.entries, Truncated (length far.entries + 1)) = laws.cut n far.come far.entries held.bytes far.handed (found (x ∷ xs) is) in
          (ap (λ (r : List StreamEntry × End). r.0) e, subst (λ (r : List StreamEntry × End). MayGoOn r.1) (sym e) tt)

      fails_to_read : source_after.failed ≡ true → FailsToRead records output most d
      fails_to_read failed = let e : IsFound = part_found held.bytes refl in record { bytes = far.come; so = took_so e.0; good = e.1; failed = failed }

      reaches_bound : source_after.failed ≡ source_now.failed → source_after.reads ≡ source_now.reads → source_now.reads ≡ most → ReachesTheBound records output most d
      reaches_bound fine reads bound =
          let e : IsFound = part_found held.bytes refl in
          record { bytes = far.come; so = took_so e.0; good = e.1; bound = reads ∙ bound; each = omega (arith, reads, far.each); no_read_failed = fine ∙ far.readable }

      comes_to_the_end : (xs : List ℕ) → held.bytes ≡ xs → source_after.failed ≡ source_now.failed → IsAtEnd source_after.rest → (report : Report) → report.records ≡ count → report.bytes ≡ bytes →
          IsOutcome records output most d (ending_of (ended_by xs report))
      comes_to_the_end [] is fine ended report many long =
          let e : records far.come ≡ (far.entries, Whole) = laws.whole n far.come far.entries held.bytes far.handed (found [] is) in
          let all : (records far.come).0 ≡ far.entries = ap (λ (r : List StreamEntry × End). r.0) e in
          record {
            bytes = far.come;
            so = took_so all;
            whole = ap (λ (r : List StreamEntry × End). r.1) e;
            at_the_end = ended;
            no_read_failed = fine ∙ far.readable;
            records_counted = many ∙ far.many ∙ ap length (sym all);
            bytes_counted = long ∙ w.long ∙ ap length (sym (w.is all));
          }
      comes_to_the_end (x ∷ xs) is fine ended report many long =
          let e : records far.come ≡ (far.entries, Truncated (length far.entries + 1)) = laws.cut n far.come far.entries held.bytes far.handed (found (x ∷ xs) is) in
          record {
            bytes = far.come;
            so = took_so (ap (λ (r : List StreamEntry × End). r.0) e);
            cut = ap (λ (r : List StreamEntry × End). r.1) e ∙ ap (λ k. Truncated (k + 1)) (sym far.many ∙ sym many);
            at_the_end = ended;
            no_read_failed = fine ∙ far.readable;
          }

  -- ---- what ends in the middle

  abbrev d_now : Sink → Devices
  d_now sink_after = record { source = source; source_after = source_now; sink = sink; sink_after = sink_after }

  meets_none : front_of held ≡ NoRecord → MeetsNoRecord records output most (d_now sink_now) (count + 1)
  meets_none front_is =
      let none : (rest : List ℕ) → records (far.come ++ rest) ≡ (far.entries, Bad (length far.entries + 1)) =
      λ rest. laws.bad n far.come far.entries held.bytes rest far.handed (in_front n meanings first far ∙ front_is) in
      let all : (records far.come).0 ≡ far.entries = ap (λ bs. (records bs).0) (sym (append-nil far.come)) ∙ ap (λ (r : List StreamEntry × End). r.0) (none []) in
      record {
        bytes = far.come;
        so = record { took = far.took; wrote = subst (Appends sink.gained sink_now.gained) (sym (w.is all)) w.wrote; no_write_failed = far.writable };
        bad = λ rest. none rest ∙ (λ i. (sym all i, Bad (sym far.many i + 1)));
        no_read_failed = far.readable;
      }

  module _ (sink_after : Sink) (sent : ℕ) (cut : IsCut (output (records far.come).0) w.written sink_now sink_after sent) where
    fails_to_write : FailsToWrite records output most (d_now sink_after) (bytes + sent)
    fails_to_write = record {
      bytes = far.come;
      took = far.took;
      wrote = subst (Appends sink.gained sink_after.gained)
          (sym (ap (take (bytes + sent)) cut.all ∙ ap (λ k. take (k + sent) ((w.written ++ cut.called) ++ cut.others)) w.long
          ∙ taken_front w.written cut.called cut.others sent (omega (arith, cut.fewer))))
          (Appends-trans _ _ _ _ _ w.wrote cut.gains);
      fewer = subst (λ (bs : List ℕ). bytes + sent < length bs) (sym cut.all)
          (let less : bytes + sent < length ((w.written ++ cut.called) ++ cut.others) = omega (arith, w.long, cut.fewer, length-append (w.written ++ cut.called) cut.others, length-append w.written cut.called) in less);
      failed = cut.failed;
      no_read_failed = far.readable;
    }

  -- ---- by what is answered

  -- of a record that is not written whole, by the device behind the sink
  module _ (sink_after : Sink) (sent : ℕ) (cut : IsCut (output (records far.come).0) w.written sink_now sink_after sent)
      (device : Sink) (left : List ℕ) (shown : sink_after ≡ with_held device left) (may : MayHold sink.gained device.gained left) where
    view : FailsToWrite records output most (d_now sink_after) (bytes + sent)
    view = fails_to_write sink_after sent cut

    abbrev all_output : List ℕ
    all_output = output (records view.bytes).0

    long : length (take (bytes + sent) all_output) ≡ bytes + sent
    long = length-take-le (bytes + sent) all_output (omega (arith, view.fewer))

    given : take (length (take (bytes + sent) all_output) - length left) (take (bytes + sent) all_output) ≡ take (bytes + sent - length left) all_output
    given =
        ap (λ n. take (n - length left) (take (bytes + sent) all_output)) long
        ∙ take-take (bytes + sent - length left) (bytes + sent) all_output (omega arith)

    pub fails_at_device : FailsToWrite records output most (d_now device) (bytes + sent - length left)
    fails_at_device = record {
      bytes = view.bytes;
      took = view.took;
      wrote = subst (Appends sink.gained device.gained) given
          (reached_part sink.gained device.gained left (take (bytes + sent) all_output) may
          (subst (λ (s : Sink). Appends sink.gained s.gained (take (bytes + sent) all_output)) shown view.wrote));
      fewer = omega (arith, view.fewer);
      failed = ap (λ (s : Sink). s.failed) (sym shown) ∙ view.failed;
      no_read_failed = view.no_read_failed;
    }

  -- of records that were handled whole, where the device fails when it is given what is held of them
  module _ (is : (records far.come).0 ≡ far.entries) (before device : Sink) (gathered left : List ℕ) (sent : ℕ) (shown : sink_now ≡ with_held before gathered)
      (stuck : IsHeldUp bytes before device gathered left sent) (may : MayHold sink.gained device.gained left) where
    kept : Appends sink.gained (append_known device.gained left) w.written
    kept = kept_behind sink.gained sink_now.gained (append_known device.gained left) w.written w.wrote
        (subst (λ (s : Sink). Keeps s.gained (append_known device.gained left)) (sym shown) stuck.stuck.keeps)

    same_size : length w.written - length left ≡ bytes + sent - length left
    same_size = omega (arith, w.long, stuck.none_of_the_next)

    pub held_up : FailsToWrite records output most (d_now device) (bytes + sent - length left)
    held_up = record {
      bytes = far.come;
      took = far.took;
      wrote = subst (Appends sink.gained device.gained) (ap (λ n. take n w.written) same_size ∙ ap (take (bytes + sent - length left)) (sym (w.is is)))
          (reached_part sink.gained device.gained left w.written may kept);
      fewer = subst (λ (bs : List ℕ). bytes + sent - length left < length bs) (sym (w.is is))
          (let less : bytes + sent - length left < length w.written = omega (arith, w.long, stuck.none_of_the_next, stuck.some, stuck.stuck.some_left) in less);
      failed = stuck.stuck.failed;
      no_read_failed = far.readable;
    }

  module _ (front_is : front_of held ≡ part_of held.bytes) where
    pub handed_out : (records far.come).0 ≡ far.entries
    handed_out = (part_found source_now (Consumes-nil source_now.rest) front_is held.bytes refl).0

    pub stops_reading : (after : Held) (source_after : Source) (halt : Halt) (left : ℕ) → TakesPiece most held after source_now source_after (Err halt) →
        IsOutcome records output most (record { source = source; source_after = source_after; sink = sink; sink_after = sink_now }) (ending_of (Err (stopped_by halt count bytes left)))
    stops_reading after source_after halt.Fault left broken = fails_to_read source_after broken.took front_is broken.failed
    stops_reading after source_after halt.Bound left bound =
        subst (λ s. ReachesTheBound records output most (record { source = source; source_after = s; sink = sink; sink_after = sink_now })) (sym bound.same)
        (reaches_bound source_now (Consumes-nil source_now.rest) front_is refl refl bound.bound)
    stops_reading after source_after halt.NoRecord left other = absurd other
    stops_reading after source_after (halt.Unsent sent) left other = absurd other

    pub ends_there : (after : Held) (source_after : Source) → IsOver most held after source_now source_after → (report : Report) → report.records ≡ count → report.bytes ≡ bytes →
        (answer : Result Report RunError) → answer ≡ ended_by after.bytes report →
        IsOutcome records output most (record { source = source; source_after = source_after; sink = sink; sink_after = sink_now }) (ending_of answer)
    ends_there after source_after over report many long answer is =
        subst (λ (r : Result Report RunError). IsOutcome records output most (record { source = source; source_after = source_after; sink = sink; sink_after = sink_now }) (ending_of r))
        (sym (is ∙ ap (λ (h : Held). ended_by h.bytes report) over.same))
        (comes_to_the_end source_after over.took front_is held.bytes refl over.fine over.at_the_end report many long)

  module _ (front_is : front_of held ≡ NoRecord) where
    pub handed_out_before : (records far.come).0 ≡ far.entries
    handed_out_before =
        ap (λ bs. (records bs).0) (sym (append-nil far.come))
        ∙ ap (λ (r : List StreamEntry × End). r.0) (laws.bad n far.come far.entries held.bytes [] far.handed (in_front n meanings first far ∙ front_is))

    pub meets_none_there : MeetsNoRecord records output most (d_now sink_now) (count + 1)
    meets_none_there = meets_none front_is

-- ---- the records that were not handled any more

module _ (laws : Laws) (n : ℕ) (meanings : FileMeanings (List ℕ)) (first : Hosted) (source : Source) (sink : Sink)
    (now : Hosted) (source_now : Source) (sink_now : Sink) (held : Held) (count bytes : ℕ) (far : SoFar n meanings first source sink now source_now sink_now held count bytes)
    (after : Held) (next : IsNext held after) where
  pub others_left : List StreamEntry
  others_left = (records_numbered all_kinds n (length (far.entries ++ next.entry ∷ []) + 1) (next.rest ++ [])).0

  pub records_then : (records_of n far.come).0 ≡ (far.entries ++ next.entry ∷ []) ++ others_left
  unfolding others_left
  records_then =
      ap (λ bs. (records_of n bs).0) (sym (append-nil far.come))
      ∙ ap (λ (r : List StreamEntry × End). r.0) (laws.goes n far.come far.entries held.bytes next.entry next.rest far.handed (in_front n meanings first far ∙ next.front) [])

-- ---- with objects of this profile

module _ (laws : Laws) (n : ℕ) (meanings : FileMeanings (List ℕ)) (first : Hosted) (source : Source) (sink : Sink) (known : AreAllKnown first)
    (output : List StreamEntry → List ℕ) (same : (entries : List StreamEntry) → AreBrought n entries → written_by meanings first entries ≡ output entries)
    (now : Hosted) (source_now : Source) (sink_now : Sink) (held : Held) (count bytes : ℕ) (far : SoFar n meanings first source sink now source_now sink_now held count bytes) where
  abbrev all_records : List StreamEntry
  all_records = (records_of n far.come).0

  abbrev pub exact : Exact n meanings first now far.entries sink.gained sink_now.gained bytes
  exact = far.exact known

  -- what the records of all that has come call for
  pub output_all : output all_records ≡ written_by meanings first all_records
  output_all = sym (same all_records (laws.brings n far.come far.are))

  abbrev pub by_profile : IsWritten n output far.come far.entries sink.gained sink_now.gained bytes
  by_profile = record {
    written = written_by meanings first far.entries;
    wrote = exact.wrote;
    long = exact.long;
    is = λ is. output_all ∙ ap (written_by meanings first) is;
  }

  module _ (after : Held) (new : Hosted) (sink_after : Sink) (sent : ℕ) (cut : IsCutShort meanings held after now new sink_now sink_after sent) where
    abbrev entry : StreamEntry
    entry = cut.next.entry

    abbrev called : List ℕ
    called = called_for entry.moment (input_of meanings entry.contents) now

    stops : StopsSo entry.moment (input_of meanings entry.contents) sent now new sink_now.gained sink_after.gained
    stops = cut.steps.exact (party_known (party_of (input_of meanings entry.contents)) now exact.known)

    sent_fewer : sent < length called
    sent_fewer =
        let takes : TakesAsAnswered on_board entry.moment sent (in_numbers now) (input_of meanings entry.contents) (Some sent) =
        subst (TakesAsAnswered on_board entry.moment sent (in_numbers now) (input_of meanings entry.contents)) (ap (λ (r : model.Host (List ℕ) × Option ℕ). r.1) stops.host)
        (laws.takes entry.moment sent (in_numbers now) (input_of meanings entry.contents) far.is_open) in
        takes.fewer

    abbrev others : List StreamEntry
    others = others_left laws n meanings first source sink now source_now sink_now held count bytes far after cut.next

    all_are : all_records ≡ (far.entries ++ entry ∷ []) ++ others
    all_are = records_then laws n meanings first source sink now source_now sink_now held count bytes far after cut.next

    others_bytes : List ℕ
    others_bytes = concat (written_from on_board (executive_after on_board (executive_in first) meanings (far.entries ++ entry ∷ [])) meanings others)

    written_all : output all_records ≡ (written_by meanings first far.entries ++ called) ++ others_bytes
    unfolding others_bytes
    written_all =
        output_all
        ∙ ap (written_by meanings first) all_are
        ∙ ap concat (written_behind meanings (executive_in first) (far.entries ++ entry ∷ []) others)
        ∙ concat-append (written_from on_board (executive_in first) meanings (far.entries ++ entry ∷ []))
        (written_from on_board (executive_after on_board (executive_in first) meanings (far.entries ++ entry ∷ [])) meanings others)
        ∙ ap (λ bs. bs ++ others_bytes) (joined n meanings first laws.goes_on now far.entries entry sink.gained sink_now.gained bytes exact)

    pub cut_by_profile : IsCut (output all_records) (written_by meanings first far.entries) sink_now sink_after sent
    cut_by_profile = record {
      called = called;
      others = others_bytes;
      all = written_all;
      fewer = sent_fewer;
      gains = stops.gains;
      failed = cut.steps.failed;
    }
