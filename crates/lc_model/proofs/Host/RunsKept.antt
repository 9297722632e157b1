-- Whoever runs a stream as `IsRun` says writes what is called for.
use Rattle.std.proofs.Common.{◌≡◌, ◌≢◌, refl, sym, ◌∙◌, ap, ap₂, subst, ℕ, zero, suc, ◌<◌, Bool, true, false, cond, ◌&&◌, List, [], ◌∷◌, ◌++◌, length, take, slice_get, slice_index_or, arith, append-nil, Option, Some, None, IsTrue, true≢false}
use Rattle.std.specs.Io.KnownBytes.{Appends, Consumes, IsAtEnd}
use Rattle.std.specs.List.{list_all, AllByRecursion}
use Rattle.std.proofs.lemmas.List.Elements.{Contains-append_left}
use Rattle.lc_model.specs.declared.kind.Kind.{Kind}
use Rattle.lc_model.specs.declared.kind.Kind.TheVariants.{Wdt, Adt}
use Rattle.lc_model.specs.Text.Reading.{Reads, TextRefusal}
use Rattle.lc_model.specs.Tables.Compiling.{Limits, IsRefused}
use Rattle.lc_model.specs.Tables.Image.{Layout}
use Rattle.lc_model.specs.Tables.Half.{IsFileOfHalf}
use Rattle.lc_model.specs.Tables.HalvesAndBytes.{Text}
use Rattle.lc_model.specs.Tables.Edition.{Edition, IsCompiledFile, AreCompiledFiles}
use Rattle.lc_model.specs.Host.Stream.{StreamEntry, End, Contents, Packet, Tick, File, Half, Whole, Bad, all_kinds, records_of, records_from}
use Rattle.lc_model.specs.Host.Stream as stream
use Rattle.lc_model.specs.Host.Outcome.{Devices, Ending, Complete, Uncompiled, MetNoRecord, MetTheEnd, FailedToRead, FailedToWrite, ReachedTheBound, NoMemory, answer, TookAndWrote, IsOutcome}
use Rattle.lc_model.specs.Host.Promise.{AreCompiled, HaveOwnHashes, CarryHalves, called_for_by_bytes, is_default_half, starts_lc, keeps_tables, HaveFixedTables, Mission, IsOfTexts, records_in, output_by_bytes, output_by_texts, IsRunByBytes, IsRun, HalvesAreCarried, FollowsTexts, IsUndisturbed, Writes, WritesWhatIsCalledFor, WritesWhatBytesCallFor}
use Rattle.lc_model.specs.Laws.Correspondence.{AreRead}
use Rattle.lc_model.specs.Laws.Runs.{AreFilesOfHalves, AreFailuresTold, BytesRunAsFixedText, CarriedByTheStream, RunsTellFailures, RunsFollowTexts, RunsWriteWhatIsCalledFor, RunsWriteWhatBytesCallFor, RunsWriteWithFixedTables}
use Rattle.lc_model.proofs.Texts.OneReading.{one_reading}
use Rattle.lc_model.proofs.Texts.OneRefusal.{at_most_one_verdict}
use Rattle.lc_model.proofs.Host.StreamsGoOn.{front_of_records}
use Rattle.lc_model.proofs.Host.WholeRuns.{AreHalvesBelow, records_below, same_packets, bytes_run_as_texts}
use Rattle.lc_model.proofs.Facts.{and_both}

-- ---- the texts

module _ (limits : Limits) where
  pub as_many : (sources : List (List ℕ)) (texts : List Text) → AreCompiled limits sources texts → length sources ≡ length texts
  as_many [] [] are = refl
  as_many [] (text ∷ texts) are = absurd are
  as_many (source ∷ sources) [] are = absurd are
  as_many (source ∷ sources) (text ∷ texts) are = ap suc (as_many sources texts are.1)

  read_at : (sources : List (List ℕ)) (texts : List Text) → AreCompiled limits sources texts → (k : ℕ) → k < length texts →
      (text : Text) → slice_index_or texts k text ≡ text → Reads text.source text.rules
  read_at [] [] are k inside text at = absurd (omega (arith, inside))
  read_at [] (first ∷ texts) are k inside text at = absurd are
  read_at (source ∷ sources) [] are k inside text at = absurd are
  read_at (source ∷ sources) (first ∷ texts) are zero inside text at =
      subst (λ (t : Text). Reads t.source t.rules) at (subst (λ s. Reads s first.rules) (sym are.0.0) are.0.1.0)
  read_at (source ∷ sources) (first ∷ texts) are (suc k) inside text at = read_at sources texts are.1 k (omega (arith, inside)) text at

  pub are_read : (sources : List (List ℕ)) (texts : List Text) → AreCompiled limits sources texts → AreRead texts
  are_read sources texts are text among = read_at sources texts are among.0 among.1 text among.2

  -- sources say one list of texts
  same_texts : (sources : List (List ℕ)) (texts others : List Text) → AreCompiled limits sources texts → AreCompiled limits sources others → texts ≡ others
  same_texts [] [] [] are too = refl
  same_texts [] [] (other ∷ others) are too = absurd too
  same_texts [] (text ∷ texts) others are too = absurd are
  same_texts (source ∷ sources) [] others are too = absurd are
  same_texts (source ∷ sources) (text ∷ texts) [] are too = absurd too
  same_texts (source ∷ sources) (text ∷ texts) (other ∷ others) are too =
      let sources_same : text.source ≡ other.source = are.0.0 ∙ sym too.0.0 in
      let rules_same : text.rules ≡ other.rules = one_reading source text.rules other.rules are.0.1.0 too.0.1.0 in
      let first : text ≡ other = λ i. record { source = sources_same i; rules = rules_same i } in
      ap₂ (λ t ts. t ∷ ts) first (same_texts sources texts others are.1 too.1)

  -- none of them is refused
  none_refused : (sources : List (List ℕ)) (texts : List Text) → AreCompiled limits sources texts → (number : ℕ) (source : List ℕ) →
      slice_get sources number ≡ Some source → (why : TextRefusal) → ¬ IsRefused limits source why
  none_refused [] texts are number source there why refused = absurd (cc there)
  none_refused (first ∷ sources) [] are number source there why refused = absurd are
  none_refused (first ∷ sources) (text ∷ texts) are zero source there why refused =
      let same : source ≡ first = cc there in
      (at_most_one_verdict limits first).not_both text.rules why are.0.1 (subst (λ s. IsRefused limits s why) same refused)
  none_refused (first ∷ sources) (text ∷ texts) are (suc number) source there why refused =
      none_refused sources texts are.1 number source there why refused

-- ---- the files

pub file_of_half : (e : Edition) (kind : Kind) (file : List ℕ) (text : Text) → IsCompiledFile e kind file text → IsFileOfHalf e.layouts kind file text.source
file_of_half e Wdt file text is = is
file_of_half e Adt file text is = is.0

pub files_of_halves : (e : Edition) (texts : List Text) (compiled : Kind → ℕ → List ℕ) → AreCompiledFiles e texts compiled → AreFilesOfHalves e.layouts texts compiled
files_of_halves e texts compiled are kind number text there = file_of_half e kind (compiled kind number) text (are kind number text there)

-- ---- by bytes and by texts

module _ (m : Mission) (d : Devices) (texts : List Text) (are : IsOfTexts m texts) (hashes : HaveOwnHashes texts)
    (compiled : Kind → ℕ → List ℕ) (files : AreCompiledFiles m.edition texts compiled) where
  same_output : (bytes : List ℕ) → CarryHalves m.edition.layouts texts (records_in m bytes).0 →
      output_by_bytes m compiled (records_in m bytes).0 ≡ output_by_texts m texts (records_in m bytes).0
  same_output bytes carry =
      same_packets m.edition.layouts texts compiled hashes (files_of_halves m.edition texts compiled files) (are_read m.edition.limits m.sources texts are)
      m.schedule m.stock (records_from all_kinds (length m.sources) (length bytes) 1 bytes).0
      (subst (λ n. AreHalvesBelow n (records_from all_kinds (length m.sources) (length bytes) 1 bytes).0) (as_many m.edition.limits m.sources texts are)
      (records_below all_kinds (length m.sources) (length bytes) 1 bytes)) carry

  module _ (carry : HalvesAreCarried m d texts) where
    so_by_texts : (bytes : List ℕ) → TookAndWrote (records_in m) (output_by_bytes m compiled) m.most_reads d bytes →
        TookAndWrote (records_in m) (output_by_texts m texts) m.most_reads d bytes
    so_by_texts bytes so = record {
      took = so.took;
      wrote = subst (Appends d.sink.gained d.sink_after.gained) (same_output bytes (carry bytes so.took)) so.wrote;
      no_write_failed = so.no_write_failed;
    }

    followed : (ending : Ending) → IsOutcome (records_in m) (output_by_bytes m compiled) m.most_reads d ending →
        IsOutcome (records_in m) (output_by_texts m texts) m.most_reads d ending
    followed (Complete entries count) o = record {
      bytes = o.bytes;
      so = so_by_texts o.bytes o.so;
      whole = o.whole;
      at_the_end = o.at_the_end;
      no_read_failed = o.no_read_failed;
      records_counted = o.records_counted;
      bytes_counted = o.bytes_counted ∙ ap length (same_output o.bytes (carry o.bytes o.so.took));
    }
    followed (MetNoRecord number) o = record { bytes = o.bytes; so = so_by_texts o.bytes o.so; bad = o.bad; no_read_failed = o.no_read_failed }
    followed (MetTheEnd number) o =
        record { bytes = o.bytes; so = so_by_texts o.bytes o.so; cut = o.cut; at_the_end = o.at_the_end; no_read_failed = o.no_read_failed }
    followed FailedToRead o = record { bytes = o.bytes; so = so_by_texts o.bytes o.so; good = o.good; failed = o.failed }
    followed ReachedTheBound o =
        record { bytes = o.bytes; so = so_by_texts o.bytes o.so; good = o.good; bound = o.bound; each = o.each; no_read_failed = o.no_read_failed }
    followed (FailedToWrite sent) o =
        let same = same_output o.bytes (carry o.bytes o.took) in
        record {
          bytes = o.bytes;
          took = o.took;
          wrote = subst (λ output. Appends d.sink.gained d.sink_after.gained (take sent output)) same o.wrote;
          fewer = subst (λ output. sent < length output) same o.fewer;
          failed = o.failed;
          no_read_failed = o.no_read_failed;
        }
    followed (Uncompiled text refusal) o = absurd o
    followed NoMemory o = absurd o

by_texts : (m : Mission) (d : Devices) (ending : Ending) → IsRunByBytes m d ending → FollowsTexts m d ending
by_texts m d ending run texts are hashes carry memory =
    let same : run.texts ≡ texts = same_texts m.edition.limits m.sources run.texts texts run.compile are in
    followed m d texts are hashes run.compiled (subst (λ ts. AreCompiledFiles m.edition ts run.compiled) same run.files) carry ending run.outcome

pub runs_follow_texts : RunsFollowTexts
runs_follow_texts m d (Complete entries count) run = by_texts m d (Complete entries count) run.ends
runs_follow_texts m d (MetNoRecord number) run = by_texts m d (MetNoRecord number) run.ends
runs_follow_texts m d (MetTheEnd number) run = by_texts m d (MetTheEnd number) run.ends
runs_follow_texts m d FailedToRead run = by_texts m d FailedToRead run.ends
runs_follow_texts m d ReachedTheBound run = by_texts m d ReachedTheBound run.ends
runs_follow_texts m d (FailedToWrite sent) run = by_texts m d (FailedToWrite sent) run.ends
runs_follow_texts m d (Uncompiled number refusal) run = λ texts are hashes carry memory.
    absurd (none_refused m.edition.limits m.sources texts are number run.ends.source run.ends.there run.ends.why run.ends.refused)
runs_follow_texts m d NoMemory run = λ texts are hashes carry memory. absurd (memory refl)

-- ---- raw files of a known stream

carried_by : (m : Mission) (texts : List Text) (stream : List ℕ) (left now : Option (List ℕ)) (bytes : List ℕ) → left ≡ Some stream →
    CarryHalves m.edition.layouts texts (records_in m stream).0 → Consumes left now bytes → CarryHalves m.edition.layouts texts (records_in m bytes).0
carried_by m texts stream None now bytes known carry took = absurd (cc known)
carried_by m texts stream (Some old) None bytes known carry took = absurd took
carried_by m texts stream (Some old) (Some rest) bytes known carry took =
    let same : old ≡ stream = cc known in
    let more = front_of_records all_kinds (length m.sources) 1 bytes rest in
    let all : (records_in m stream).0 ≡ (records_in m bytes).0 ++ more.0 = ap (λ b. (records_in m b).0) (sym same ∙ took) ∙ more.1 in
    let carry_all : CarryHalves m.edition.layouts texts ((records_in m bytes).0 ++ more.0) = subst (CarryHalves m.edition.layouts texts) all carry in
    λ entry name file among is. carry_all entry name file (Contains-append_left (records_in m bytes).0 more.0 entry among) is

pub carried_by_the_stream : CarriedByTheStream
carried_by_the_stream m d texts stream known carry bytes took = carried_by m texts stream d.source.rest d.source_after.rest bytes known carry took

-- ---- failures

nothing_failed : (d : Devices) (ending : Ending) → d.source_after.failed ≡ false → d.sink_after.failed ≡ false → ending ≢ FailedToRead →
    ((sent : ℕ) → ending ≢ FailedToWrite sent) → AreFailuresTold d ending
nothing_failed d ending no_read no_write not_read not_write = record {
  read = λ is. absurd (true≢false (sym is ∙ no_read));
  failed_to_read = λ is. absurd (not_read is);
  write = λ is. absurd (true≢false (sym is ∙ no_write));
  failed_to_write = λ sent is. absurd (not_write sent is);
}

pub runs_tell_failures : RunsTellFailures
runs_tell_failures m d (Complete entries count) run =
    nothing_failed d (Complete entries count) run.ends.outcome.no_read_failed run.ends.outcome.so.no_write_failed (λ e. cc e) (λ sent e. cc e)
runs_tell_failures m d (MetNoRecord number) run =
    nothing_failed d (MetNoRecord number) run.ends.outcome.no_read_failed run.ends.outcome.so.no_write_failed (λ e. cc e) (λ sent e. cc e)
runs_tell_failures m d (MetTheEnd number) run =
    nothing_failed d (MetTheEnd number) run.ends.outcome.no_read_failed run.ends.outcome.so.no_write_failed (λ e. cc e) (λ sent e. cc e)
runs_tell_failures m d ReachedTheBound run =
    nothing_failed d ReachedTheBound run.ends.outcome.no_read_failed run.ends.outcome.so.no_write_failed (λ e. cc e) (λ sent e. cc e)
runs_tell_failures m d (Uncompiled number refusal) run =
    nothing_failed d (Uncompiled number refusal) run.ends.untouched.no_read_failed run.ends.untouched.no_write_failed (λ e. cc e) (λ sent e. cc e)
runs_tell_failures m d NoMemory run = nothing_failed d NoMemory run.ends.no_read_failed run.ends.no_write_failed (λ e. cc e) (λ sent e. cc e)
runs_tell_failures m d FailedToRead run = record {
  read = λ is. refl;
  failed_to_read = λ is. run.ends.outcome.failed;
  write = λ is. absurd (true≢false (sym is ∙ run.ends.outcome.so.no_write_failed));
  failed_to_write = λ sent is. absurd (let never : ⊥ = cc is in never);
}
runs_tell_failures m d (FailedToWrite sent) run = record {
  read = λ is. absurd (true≢false (sym is ∙ run.ends.outcome.no_read_failed));
  failed_to_read = λ is. absurd (let never : ⊥ = cc is in never);
  write = λ is. (sent, refl);
  failed_to_write = λ count is. run.ends.outcome.failed;
}

-- ---- known bytes

pub wrote_known : (before : List ℕ) (gained now : Option (List ℕ)) (more : List ℕ) → gained ≡ Some before → Appends gained now more → now ≡ Some (before ++ more)
wrote_known before None now more is wrote = absurd (cc is)
wrote_known before (Some old) None more is wrote = absurd wrote
wrote_known before (Some old) (Some new) more is wrote =
    let same : old ≡ before = cc is in ap (λ (bytes : List ℕ). Some bytes) (wrote ∙ ap (λ front. front ++ more) same)

-- the stream is what was taken and some rest
pub record Begins (stream taken : List ℕ) (left : Option (List ℕ)) : Type 0 where
  rest : List ℕ
  all : stream ≡ taken ++ rest
  is_left : left ≡ Some rest

pub took_known : (whole : List ℕ) (left now : Option (List ℕ)) (taken : List ℕ) → left ≡ Some whole → Consumes left now taken → Begins whole taken now
took_known whole None now taken is took = absurd (cc is)
took_known whole (Some old) None taken is took = absurd took
took_known whole (Some old) (Some new) taken is took = let same : old ≡ whole = cc is in record { rest = new; all = sym same ∙ took; is_left = refl }

pub took_all : (whole taken : List ℕ) (now : Option (List ℕ)) → Begins whole taken now → IsAtEnd now → taken ≡ whole
took_all whole taken None begins ended = absurd (cc begins.is_left)
took_all whole taken (Some rest) begins ended =
    let none : begins.rest ≡ [] = (let same : rest ≡ begins.rest = cc begins.is_left in sym same ∙ ended) in
    sym (begins.all ∙ ap (λ (r : List ℕ). taken ++ r) none ∙ append-nil taken)

-- ---- where nothing fails

module _ (m : Mission) (d : Devices) (output : List StreamEntry → List ℕ) (whole before : List ℕ) (left : d.source.rest ≡ Some whole) (gained : d.sink.gained ≡ Some before) where
  over_all : (bytes : List ℕ) → TookAndWrote (records_in m) output m.most_reads d bytes → (records_in m bytes).0 ≡ (records_in m whole).0 →
      d.sink_after.gained ≡ Some (before ++ output (records_in m whole).0)
  over_all bytes so same =
      wrote_known before d.sink.gained d.sink_after.gained (output (records_in m bytes).0) gained so.wrote
      ∙ ap (λ entries. Some (before ++ output entries)) same

  written : (ending : Ending) → IsOutcome (records_in m) output m.most_reads d ending → IsUndisturbed m d ending →
      Writes m d whole before (output (records_in m whole).0) ending
  written (Complete entries count) o calm =
      let all : o.bytes ≡ whole = took_all whole o.bytes d.source_after.rest (took_known whole d.source.rest d.source_after.rest o.bytes left o.so.took) o.at_the_end in
      let same : (records_in m o.bytes).0 ≡ (records_in m whole).0 = ap (λ bytes. (records_in m bytes).0) all in
      let ends : (records_in m whole).1 ≡ Whole = ap (λ bytes. (records_in m bytes).1) (sym all) ∙ o.whole in
      record {
        gains = over_all o.bytes o.so same;
        answers =
            (λ i. Complete ((o.records_counted ∙ ap length same) i) ((o.bytes_counted ∙ ap (λ entries. length (output entries)) same) i))
            ∙ ap (λ e. answer ((records_in m whole).0, e) (length (output (records_in m whole).0))) (sym ends);
      }
  written (MetNoRecord number) o calm =
      let begins : Begins whole o.bytes d.source_after.rest = took_known whole d.source.rest d.source_after.rest o.bytes left o.so.took in
      let found : records_in m whole ≡ ((records_in m o.bytes).0, Bad number) = ap (records_in m) begins.all ∙ o.bad begins.rest in
      record {
        gains = over_all o.bytes o.so (sym (ap (λ (r : List StreamEntry × End). r.0) found));
        answers =
            ap (λ e. answer ((records_in m whole).0, e) (length (output (records_in m whole).0))) (sym (ap (λ (r : List StreamEntry × End). r.1) found));
      }
  written (MetTheEnd number) o calm =
      let all : o.bytes ≡ whole = took_all whole o.bytes d.source_after.rest (took_known whole d.source.rest d.source_after.rest o.bytes left o.so.took) o.at_the_end in
      let ends : (records_in m whole).1 ≡ stream.Truncated number = ap (λ bytes. (records_in m bytes).1) (sym all) ∙ o.cut in
      record {
        gains = over_all o.bytes o.so (ap (λ bytes. (records_in m bytes).0) all);
        answers = ap (λ e. answer ((records_in m whole).0, e) (length (output (records_in m whole).0))) (sym ends);
      }
  written FailedToRead o calm = absurd (true≢false (sym o.failed ∙ calm.no_read_failed))
  written ReachedTheBound o calm = absurd (calm.within_bound refl)
  written (FailedToWrite sent) o calm = absurd (true≢false (sym o.failed ∙ calm.no_write_failed))
  written (Uncompiled text refusal) o calm = absurd o
  written NoMemory o calm = absurd o

-- ---- by bytes

module _ (m : Mission) (d : Devices) where
  of_bytes : (ending : Ending) → IsRunByBytes m d ending → WritesWhatBytesCallFor m d ending
  of_bytes ending run texts whole before are left gained calm =
      let same : run.texts ≡ texts = same_texts m.edition.limits m.sources run.texts texts run.compile are in (
        run.compiled,
        subst (λ ts. AreCompiledFiles m.edition ts run.compiled) same run.files,
        subst (λ n. Writes m d whole before (called_for_by_bytes m.edition.layouts run.compiled n m.schedule m.stock whole) ending)
            (as_many m.edition.limits m.sources texts are)
            (written m d (output_by_bytes m run.compiled) whole before left gained ending run.outcome calm),
      )

  by_bytes : (ending : Ending) → IsRun m d ending → WritesWhatBytesCallFor m d ending
  by_bytes (Complete entries count) run = of_bytes (Complete entries count) run.ends
  by_bytes (MetNoRecord number) run = of_bytes (MetNoRecord number) run.ends
  by_bytes (MetTheEnd number) run = of_bytes (MetTheEnd number) run.ends
  by_bytes FailedToRead run = of_bytes FailedToRead run.ends
  by_bytes ReachedTheBound run = of_bytes ReachedTheBound run.ends
  by_bytes (FailedToWrite sent) run = of_bytes (FailedToWrite sent) run.ends
  by_bytes (Uncompiled number refusal) run = λ texts whole before are left gained calm.
      absurd (none_refused m.edition.limits m.sources texts are number run.ends.source run.ends.there run.ends.why run.ends.refused)
  by_bytes NoMemory run = λ texts whole before are left gained calm. absurd (calm.memory refl)

  -- ---- by texts

  what_is_called_for : (ending : Ending) → IsRun m d ending → WritesWhatIsCalledFor m d ending
  what_is_called_for ending run texts whole before are hashes carry left gained calm =
      let wrote = by_bytes ending run texts whole before are left gained calm in
      subst (λ output. Writes m d whole before output ending)
      (bytes_run_as_texts m.edition.layouts texts wrote.0 m.schedule m.stock whole (are_read m.edition.limits m.sources texts are) hashes
      (files_of_halves m.edition texts wrote.0 wrote.1)
      (subst (λ n. CarryHalves m.edition.layouts texts (records_of n whole).0) (as_many m.edition.limits m.sources texts are) carry)) wrote.2

pub runs_write_what_bytes_call_for : RunsWriteWhatBytesCallFor
runs_write_what_bytes_call_for = by_bytes

pub runs_write_what_is_called_for : RunsWriteWhatIsCalledFor
runs_write_what_is_called_for = what_is_called_for

-- ---- fixed tables

-- one text has a hash of its own
only_one : (text : Text) (k : ℕ) → k < length (text ∷ []) → (a : Text) → slice_index_or (text ∷ []) k a ≡ a → text ≡ a
only_one text zero inside a at = at
only_one text (suc k) inside a at = absurd (omega (arith, inside))

own_hash : (text : Text) → HaveOwnHashes (text ∷ [])
own_hash text a b among too same =
    ap (λ (t : Text). t.source) (sym (only_one text among.0 among.1 a among.2) ∙ only_one text too.0 too.1 b too.2)

-- no raw file
abbrev IsNoFile : Contents → Type 0
IsNoFile (File name bytes) = ⊥
IsNoFile other = Unit {0}

kept_is_none : (contents : Contents) → IsTrue (keeps_tables contents) → IsNoFile contents
kept_is_none (Packet bytes) keeps = tt
kept_is_none Tick keeps = tt
kept_is_none (File name bytes) keeps = absurd (true≢false (sym keeps))
kept_is_none (Half name kind text) keeps = tt

half_is_none : (kind : Kind) (contents : Contents) → IsTrue (is_default_half kind contents) → IsNoFile contents
half_is_none kind (Packet bytes) is = tt
half_is_none kind Tick is = tt
half_is_none kind (File name bytes) is = absurd (true≢false (sym is))
half_is_none kind (Half name own text) is = tt

start_is_none : (contents : Contents) → IsTrue (starts_lc contents) → IsNoFile contents
start_is_none (Packet bytes) is = tt
start_is_none Tick is = tt
start_is_none (File name bytes) is = absurd (true≢false (sym is))
start_is_none (Half name kind text) is = tt

-- none of the records is a raw file
abbrev HasNoFile : List StreamEntry → Type 0
HasNoFile entries = AllByRecursion (λ (entry : StreamEntry). IsNoFile entry.contents) entries

kept_have_none : (entries : List StreamEntry) → IsTrue (list_all (λ (entry : StreamEntry). keeps_tables entry.contents) entries) → HasNoFile entries
kept_have_none [] keep = tt
kept_have_none (entry ∷ entries) keep =
    let both = and_both (keeps_tables entry.contents) (list_all (λ (e : StreamEntry). keeps_tables e.contents) entries) keep in
    (kept_is_none entry.contents both.0, kept_have_none entries both.1)

fixed_have_none : (entries : List StreamEntry) → HaveFixedTables entries → HasNoFile entries
fixed_have_none [] fixed = absurd (cc fixed.1)
fixed_have_none (first ∷ []) fixed = absurd (cc fixed.1)
fixed_have_none (first ∷ second ∷ []) fixed = absurd (cc fixed.1)
fixed_have_none (first ∷ second ∷ third ∷ entries) fixed =
    by_test (is_default_half Wdt first.contents && is_default_half Adt second.contents && starts_lc third.contents) refl fixed.1
  where
    by_test : (test : Bool) → (is_default_half Wdt first.contents && is_default_half Adt second.contents && starts_lc third.contents) ≡ test →
        cond test (Some entries) None ≡ Some fixed.0 → HasNoFile (first ∷ second ∷ third ∷ entries)
    by_test false is e = absurd (cc e)
    by_test true is e =
        let one = and_both (is_default_half Wdt first.contents && is_default_half Adt second.contents) (starts_lc third.contents) is in
        let two = and_both (is_default_half Wdt first.contents) (is_default_half Adt second.contents) one.0 in
        let rest : entries ≡ fixed.0 = cc e in (
          half_is_none Wdt first.contents two.0,
          (
            half_is_none Adt second.contents two.1,
            (
              start_is_none third.contents one.1,
              kept_have_none entries (subst (λ es. IsTrue (list_all (λ (entry : StreamEntry). keeps_tables entry.contents) es)) (sym rest) fixed.2),
            ),
          ),
        )

no_file_at : (entries : List StreamEntry) → HasNoFile entries → (k : ℕ) → k < length entries → (entry : StreamEntry) → slice_index_or entries k entry ≡ entry →
    IsNoFile entry.contents
no_file_at [] none k inside entry at = absurd (omega (arith, inside))
no_file_at (first ∷ entries) none zero inside entry at = subst (λ (e : StreamEntry). IsNoFile e.contents) at none.0
no_file_at (first ∷ entries) none (suc k) inside entry at = no_file_at entries none.1 k (omega (arith, inside)) entry at

fixed_carry : (layouts : List Layout) (texts : List Text) (entries : List StreamEntry) → HaveFixedTables entries → CarryHalves layouts texts entries
fixed_carry layouts texts entries fixed entry name bytes among is =
    absurd (subst IsNoFile is (no_file_at entries (fixed_have_none entries fixed) among.0 among.1 entry among.2))

pub bytes_run_as_fixed_text : BytesRunAsFixedText
bytes_run_as_fixed_text layouts text compiled schedule stock stream read files fixed =
    bytes_run_as_texts layouts (text ∷ []) compiled schedule stock stream read (own_hash text) files
    (fixed_carry layouts (text ∷ []) (records_of 1 stream).0 fixed)

pub runs_write_with_fixed_tables : RunsWriteWithFixedTables
runs_write_with_fixed_tables m d ending run text whole before are fixed left gained calm =
    what_is_called_for m d ending run (text ∷ []) whole before are (own_hash text)
    (fixed_carry m.edition.layouts (text ∷ []) (records_in m whole).0 fixed) left gained calm
