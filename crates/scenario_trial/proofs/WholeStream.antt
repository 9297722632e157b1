-- A stream that ends after a whole record is its records, one after the other.
use Rattle.std.proofs.Common.{◌≡◌, refl, sym, ◌∙◌, ap, ℕ, ◌+◌, true, List, [], ◌∷◌, ◌++◌, length, map, append_assoc, arith}
use Rattle.std.proofs.lemmas.List.{length-append}
use Rattle.lc_model.specs.Host.Stream.{End, Whole, Bad, Truncated, StreamEntry, Front, EndOfStream, Record, NoRecord, CutRecord, all_kinds, front, records_by_front, records_numbered, records_of}
use Rattle.lc_model.proofs.Host.Streams.{front_decides}
use Rattle.lc_model.proofs.Host.StreamsGoOn.{all_fronts_stay}
use Rattle.run_stepper.specs.Stepping.{one_record}
use Rattle.run_stepper.specs.Steps.{AreItsRecords, Step, bytes_of}
use Rattle.run_stepper.specs.Trace.{ending_by}
use Rattle.run_stepper.specs.declared.ending.Ending.{Ending}
use Rattle.run_stepper.specs.declared.ending.Ending.TheVariants as ended
use Rattle.run_stepper.proofs.InFront.{none_there}
use Rattle.scenario_trial.specs.Arrivals.{is_whole}

none_by_length : {A : Type 0} (xs : List A) → length xs ≡ 0 → xs ≡ []
none_by_length [] none = refl
none_by_length (x ∷ xs) none = absurd (omega (arith, none))

module _ (texts : ℕ) where
  abbrev from : ℕ → List ℕ → List StreamEntry × End
  from number bytes = records_numbered all_kinds texts number bytes

  by_none : (number : ℕ) (bytes : List ℕ) (f : Front) → front all_kinds texts bytes ≡ f → records_by_front (from (number + 1)) number f ≡ ([], Whole) → bytes ≡ []
  by_none number bytes EndOfStream is none = none_by_length bytes (none_there texts bytes is)
  by_none number bytes NoRecord is none = absurd (let other : Bad number ≡ Whole = ap (λ (r : List StreamEntry × End). r.1) none in cc other)
  by_none number bytes CutRecord is none = absurd (let other : Truncated number ≡ Whole = ap (λ (r : List StreamEntry × End). r.1) none in cc other)
  by_none number bytes (Record entry rest) is none = absurd (let some : entry ∷ (from (number + 1) rest).0 ≡ [] = ap (λ (r : List StreamEntry × End). r.0) none in cc some)

  nothing_left : (number : ℕ) (bytes : List ℕ) → from number bytes ≡ ([], Whole) → bytes ≡ []
  nothing_left number bytes none = by_none number bytes (front all_kinds texts bytes) refl (sym (front_decides all_kinds texts number bytes) ∙ none)

  by_one : (bytes : List ℕ) (entry : StreamEntry) (f : Front) → front all_kinds texts bytes ≡ f → records_by_front (from 2) 1 f ≡ one_record entry → front all_kinds texts bytes ≡ Record entry []
  by_one bytes entry EndOfStream is one = absurd (let none : [] ≡ entry ∷ [] = ap (λ (r : List StreamEntry × End). r.0) one in cc none)
  by_one bytes entry NoRecord is one = absurd (let none : [] ≡ entry ∷ [] = ap (λ (r : List StreamEntry × End). r.0) one in cc none)
  by_one bytes entry CutRecord is one = absurd (let none : [] ≡ entry ∷ [] = ap (λ (r : List StreamEntry × End). r.0) one in cc none)
  by_one bytes entry (Record first rest) is one =
      let some : first ∷ (from 2 rest).0 ≡ entry ∷ [] = ap (λ (r : List StreamEntry × End). r.0) one in
      let same : first ≡ entry = cc some in
      let none : (from 2 rest).0 ≡ [] = cc some in
      let whole : (from 2 rest).1 ≡ Whole = ap (λ (r : List StreamEntry × End). r.1) one in
      let nothing : rest ≡ [] = nothing_left 2 rest (λ i. (none i, whole i)) in
      is ∙ (λ i. Record (same i) (nothing i))

  one_of : (bytes : List ℕ) (entry : StreamEntry) → records_of texts bytes ≡ one_record entry → front all_kinds texts bytes ≡ Record entry []
  one_of bytes entry one = by_one bytes entry (front all_kinds texts bytes) refl (sym (front_decides all_kinds texts 1 bytes) ∙ one)

  -- the records of steps come first, and then those of what follows
  record ComesFirst (all : List StreamEntry × End) (entries : List StreamEntry) (rest : List ℕ) : Type 0 where
    number : ℕ
    are : all ≡ (entries ++ (from number rest).0, (from number rest).1)

  one_first : (number : ℕ) (bytes behind rest : List ℕ) (entry : StreamEntry) (entries : List StreamEntry) → front all_kinds texts bytes ≡ Record entry behind →
      ComesFirst (from (number + 1) behind) entries rest → ComesFirst (from number bytes) (entry ∷ entries) rest
  one_first number bytes behind rest entry entries there more =
      let first : from number bytes ≡ (entry ∷ (from (number + 1) behind).0, (from (number + 1) behind).1) =
      front_decides all_kinds texts number bytes ∙ ap (records_by_front (from (number + 1)) number) there in
      record { number = more.number; are = first ∙ ap (λ (r : List StreamEntry × End). (entry ∷ r.0, r.1)) more.are }

  comes_first : (steps : List Step) (entries : List StreamEntry) (number : ℕ) (rest : List ℕ) → map (λ (step : Step). records_of texts step.bytes) steps ≡ map one_record entries →
      ComesFirst (from number (bytes_of steps ++ rest)) entries rest
  comes_first [] [] number rest each = record { number = number; are = refl }
  comes_first [] (entry ∷ entries) number rest each = absurd (cc each)
  comes_first (step ∷ steps) [] number rest each = absurd (cc each)
  comes_first (step ∷ steps) (entry ∷ entries) number rest each =
      let one : records_of texts step.bytes ≡ one_record entry = cc each in
      let others : map (λ (step : Step). records_of texts step.bytes) steps ≡ map one_record entries = cc each in
      let there : front all_kinds texts ((step.bytes ++ bytes_of steps) ++ rest) ≡ Record entry (bytes_of steps ++ rest) =
      ap (front all_kinds texts) (append_assoc step.bytes (bytes_of steps) rest)
      ∙ (all_fronts_stay all_kinds texts step.bytes (bytes_of steps ++ rest)).a_record entry [] (one_of step.bytes entry one) in
      one_first number ((step.bytes ++ bytes_of steps) ++ rest) (bytes_of steps ++ rest) rest entry entries there (comes_first steps entries (number + 1) rest others)

  ends_whole : (count : ℕ) (ending : Ending) (e : End) → is_whole ending ≡ true → ending ≡ ending_by count e → e ≡ Whole
  ends_whole count ending Whole whole is = refl
  ends_whole count ending (Bad n) whole is = absurd (let none : is_whole (ended.NoRecord n) ≡ true = ap is_whole (sym is) ∙ whole in cc none)
  ends_whole count ending (Truncated n) whole is = absurd (let none : is_whole (ended.Cut n) ≡ true = ap is_whole (sym is) ∙ whole in cc none)

  pub whole_stream : (stream rest : List ℕ) (steps : List Step) (ending : Ending) → bytes_of steps ++ rest ≡ stream → AreItsRecords texts stream steps ending → is_whole ending ≡ true → rest ≡ []
  whole_stream stream rest steps ending bytes all whole =
      let entries : List StreamEntry = (records_of texts stream).0 in
      let first : ComesFirst (from 1 (bytes_of steps ++ rest)) entries rest = comes_first steps entries 1 rest all.each in
      let left : List StreamEntry × End = from first.number rest in
      let are : records_of texts stream ≡ (entries ++ left.0, left.1) = ap (records_of texts) (sym bytes) ∙ first.are in
      let many : length entries ≡ length (entries ++ left.0) = ap (λ (r : List StreamEntry × End). length r.0) are in
      let none : left.0 ≡ [] = none_by_length left.0 (omega (arith, many, length-append entries left.0)) in
      let end : left.1 ≡ Whole = sym (ap (λ (r : List StreamEntry × End). r.1) are) ∙ ends_whole (length steps) ending (records_of texts stream).1 whole all.ends in
      nothing_left first.number rest (λ i. (none i, end i))
