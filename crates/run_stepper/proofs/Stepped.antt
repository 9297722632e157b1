-- A host that goes through the records of a stream has run over it.
use Rattle.std.proofs.Common.{◌≡◌, refl, sym, ◌∙◌, ap, subst, ℕ, suc, ◌+◌, List, [], ◌∷◌, ◌++◌, length, length-append, length-drop, take, drop, map, append_assoc, append-nil, arith}
use Rattle.std.proofs.lemmas.List.{length-map}
use Rattle.std.proofs.Math.Seq.{take-append_seam, drop-append_seam}
use Rattle.lc_model.specs.Tables.Interpretation.{FileMeanings}
use Rattle.lc_model.specs.Host.Stream.{StreamEntry, End, Whole, Front, EndOfStream, Record, NoRecord, CutRecord, all_kinds, body_size, front, records_by_front, records_numbered, records_of}
use Rattle.lc_model.specs.Host.Run.{input_of}
use Rattle.lc_model.specs.Kept.Executive.{Executive, step_by}
use Rattle.lc_model.proofs.Host.Streams.{front_decides}
use Rattle.lc_model.proofs.Host.StreamsGoOn.{all_fronts_stay}
use Rattle.host_refinement.specs.Statements.{executive_after}
use Rattle.rpn_compiler.specs.declared.files.TablePair.{TablePair}
use Rattle.app_host.specs.Shared.{on_board}
use Rattle.app_host.specs.Delivered.{executive_in}
use Rattle.flight_core.specs.Brought.{meanings_of}
use Rattle.flight_core.specs.Feeding.{Feeding}
use Rattle.run_stepper.specs.declared.ending.Ending.{Ending}
use Rattle.run_stepper.specs.Stepping.{one_record}
use Rattle.run_stepper.specs.Steps.{AreItsRecords, Step, StepsAreARun, Went, bytes_of, part_of}
use Rattle.run_stepper.specs.Trace.{Part, ending_by, moment_in, parts_from, size_in_front}
use Rattle.run_stepper.proofs.InFront.{IsRecord, a_record, long_moment, long_size, none_there}
use Rattle.run_stepper.proofs.Tracing.{Finishes, Tracing, begun, has_run, left, one_more}

-- ---- bytes that are one record

nothing_by : (n number : ℕ) (rest : List ℕ) (f : Front) → front all_kinds n rest ≡ f → (records_by_front (records_numbered all_kinds n (number + 1)) number f).0 ≡ [] →
    (records_by_front (records_numbered all_kinds n (number + 1)) number f).1 ≡ Whole → length rest ≡ 0
nothing_by n number rest EndOfStream is none whole = none_there n rest is
nothing_by n number rest (Record entry others) is none whole = absurd (cc none)
nothing_by n number rest NoRecord is none whole = absurd (cc whole)
nothing_by n number rest CutRecord is none whole = absurd (cc whole)

empty : (rest : List ℕ) → length rest ≡ 0 → rest ≡ []
empty [] none = refl
empty (byte ∷ rest) none = absurd (omega (arith, none))

-- bytes without a record and without a fault are none
nothing_there : (n number : ℕ) (rest : List ℕ) → (records_numbered all_kinds n number rest).0 ≡ [] → (records_numbered all_kinds n number rest).1 ≡ Whole → rest ≡ []
nothing_there n number rest none whole =
    let decided = front_decides all_kinds n number rest in
    empty rest (nothing_by n number rest (front all_kinds n rest) refl
    (ap (λ (r : List StreamEntry × End). r.0) (sym decided) ∙ none) (ap (λ (r : List StreamEntry × End). r.1) (sym decided) ∙ whole))

one_by : (n : ℕ) (bytes : List ℕ) (entry : StreamEntry) (f : Front) → front all_kinds n bytes ≡ f → records_by_front (records_numbered all_kinds n 2) 1 f ≡ one_record entry →
    front all_kinds n bytes ≡ Record entry []
one_by n bytes entry EndOfStream is one = let none : [] ≡ entry ∷ [] = ap (λ (r : List StreamEntry × End). r.0) one in absurd (cc none)
one_by n bytes entry NoRecord is one = let none : [] ≡ entry ∷ [] = ap (λ (r : List StreamEntry × End). r.0) one in absurd (cc none)
one_by n bytes entry CutRecord is one = let none : [] ≡ entry ∷ [] = ap (λ (r : List StreamEntry × End). r.0) one in absurd (cc none)
one_by n bytes entry (Record first rest) is one =
    let both : first ∷ (records_numbered all_kinds n 2 rest).0 ≡ entry ∷ [] = ap (λ (r : List StreamEntry × End). r.0) one in
    let same : first ≡ entry = cc both in
    let none : (records_numbered all_kinds n 2 rest).0 ≡ [] = cc both in
    let nothing : rest ≡ [] = nothing_there n 2 rest none (ap (λ (r : List StreamEntry × End). r.1) one) in
    is ∙ (λ i. Record (same i) (nothing i))

one_in_front : (n : ℕ) (bytes : List ℕ) (entry : StreamEntry) → records_of n bytes ≡ one_record entry → front all_kinds n bytes ≡ Record entry []
one_in_front n bytes entry one = one_by n bytes entry (front all_kinds n bytes) refl (sym (front_decides all_kinds n 1 bytes) ∙ one)

-- ---- in front of others

module _ (n : ℕ) (bytes more : List ℕ) (entry : StreamEntry) (one : records_of n bytes ≡ one_record entry) where
  abbrev both : List ℕ
  both = bytes ++ more

  own : front all_kinds n bytes ≡ Record entry []
  own = one_in_front n bytes entry one

  there : IsRecord both entry more
  there = a_record n both entry more ((all_fronts_stay all_kinds n bytes more).a_record entry [] own)

  pub as_long : size_in_front both ≡ length bytes
  as_long = omega (arith, long_size both there.long, there.inside, ap length there.behind, length-drop (11 + body_size both) both, length-append bytes more)

  given_is : bytes ≡ take (size_in_front both) both
  given_is = sym (take-append_seam bytes more) ∙ ap (λ k. take k both) (sym as_long)

  past_is : more ≡ drop (size_in_front both) both
  past_is = sym (drop-append_seam bytes more) ∙ ap (λ k. drop k both) (sym as_long)

  pub moment_is : moment_in bytes ≡ moment_in both
  moment_is =
      let alone = a_record n bytes entry [] own in
      long_moment bytes alone.long ∙ sym alone.moment ∙ there.moment ∙ sym (long_moment both there.long)

-- ---- step by step

module _ (pairs : List TablePair) (first : Executive (List ℕ)) (stream : List ℕ) where
  pub goes : (it last : Feeding) (done : List Part) (rest behind : List ℕ) (steps : List Step) (entries : List StreamEntry) → Tracing pairs first stream it done rest → Went it steps last →
      bytes_of steps ++ behind ≡ rest → map (λ (step : Step). records_of (length pairs) step.bytes) steps ≡ map one_record entries →
      Tracing pairs first stream last (done ++ map part_of steps) behind
  goes it last done rest behind [] entries far went is each =
      subst (λ (host : Feeding). Tracing pairs first stream host (done ++ []) behind) went
      (subst (λ (d : List Part). Tracing pairs first stream it d behind) (sym (append-nil done)) (subst (Tracing pairs first stream it done) (sym is) far))
  goes it last done rest behind (step ∷ steps) [] far went is each = absurd (cc each)
  goes it last done rest behind (step ∷ steps) (entry ∷ entries) far went is each =
      let own : records_of (length pairs) step.bytes ≡ one_record entry = cc each in
      let others : map (λ (step : Step). records_of (length pairs) step.bytes) steps ≡ map one_record entries = cc each in
      let more : List ℕ = bytes_of steps ++ behind in
      let all : step.bytes ++ more ≡ rest = sym (append_assoc step.bytes (bytes_of steps) behind) ∙ is in
      let next : Tracing pairs first stream step.host (done ++ part_of step ∷ []) more =
      one_more pairs first stream it done (step.bytes ++ more) (subst (Tracing pairs first stream it done) (sym all) far) step.bytes more
      (given_is (length pairs) step.bytes more entry own) (past_is (length pairs) step.bytes more entry own) step.host (part_of step)
      (moment_is (length pairs) step.bytes more entry own) went.0 in
      subst (λ (d : List Part). Tracing pairs first stream last d behind) (append_assoc done (part_of step ∷ []) (map part_of steps))
      (goes step.host last (done ++ part_of step ∷ []) more behind steps entries next went.1 refl others)

  as_many : (m : FileMeanings (List ℕ)) (entries : List StreamEntry) (e : Executive (List ℕ)) → length (parts_from m e entries) ≡ length entries
  unfolding parts_from
  as_many m [] e = refl
  as_many m (entry ∷ entries) e = ap suc (as_many m entries (step_by on_board entry.moment e (input_of m entry.contents)).0)

  none_of : (entries : List StreamEntry) → length entries ≡ 0 → entries ≡ []
  none_of [] none = refl
  none_of (entry ∷ entries) none = absurd (omega (arith, none))

  -- after as many records as the stream has none is left
  pub none_left : (last : Feeding) (done : List Part) (behind : List ℕ) → Tracing pairs first stream last done behind → length done ≡ length (records_of (length pairs) stream).0 →
      (left pairs first stream (length done) behind).0 ≡ []
  none_left last done behind far many =
      let others : List StreamEntry = (left pairs first stream (length done) behind).0 in
      none_of others (omega (
        arith,
        many,
        ap length far.writes,
        length-append done (parts_from (meanings_of pairs) (executive_in last.host) others),
        as_many (meanings_of pairs) others (executive_in last.host),
        as_many (meanings_of pairs) (records_of (length pairs) stream).0 first,
      ))

  -- all records were gone through
  finishes : (last : Feeding) (steps : List Step) (behind : List ℕ) (ending : Ending) → Tracing pairs first stream last (map part_of steps) behind →
      AreItsRecords (length pairs) stream steps ending → Finishes pairs first stream last.host (map part_of steps) ending
  unfolding parts_from executive_after
  finishes last steps behind ending far all =
      let parts : List Part = map part_of steps in
      let others : List StreamEntry = (left pairs first stream (length parts) behind).0 in
      let many : length steps ≡ length (records_of (length pairs) stream).0 =
      sym (length-map steps (λ (step : Step). records_of (length pairs) step.bytes)) ∙ ap length all.each ∙ length-map (records_of (length pairs) stream).0 one_record in
      let none : others ≡ [] = none_left last parts behind far (length-map steps part_of ∙ many) in
      record {
        writes =
            sym (append-nil parts)
            ∙ ap (λ entries. parts ++ parts_from (meanings_of pairs) (executive_in last.host) entries) (sym none)
            ∙ far.writes;
        ends = all.ends ∙ ap (λ count. ending_by count (records_of (length pairs) stream).1) (sym (length-map steps part_of));
        stands = ap (executive_after on_board (executive_in last.host) (meanings_of pairs)) (sym none) ∙ far.stands;
      }

pub steps_are_a_run : StepsAreARun
steps_are_a_run sources schedule stream first last steps rest ending begins went bytes all =
    has_run sources schedule stream first last.host (record { parts = map part_of steps; ending = ending }) begins
    (finishes first.files (executive_in first.host) stream last steps rest ending
    (goes first.files (executive_in first.host) stream first last [] stream rest steps (records_of (length first.files) stream).0 (begun sources schedule stream first begins) went bytes all.each)
    all)
