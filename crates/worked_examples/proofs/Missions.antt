-- A mission that meets all premises of the promise of `run`, and of the laws over it, at once: the low-volts text, a stream
-- that starts the Limit Checker from its two halves, and two failing samples. So none of these premises is one that nobody
-- can meet.
use Rattle.std.proofs.Common.{◌≡◌, refl, ap, sym, ◌∙◌, subst, ℕ, zero, suc, ◌<◌, Bool, true, false, ◌&&◌, nat_lt, List, [], ◌∷◌, ◌++◌, map, length, slice_index_or, slice_get, arith, append-nil, codes, Some, unwrap_or, is_some, Contains, true≢false, lit≤}
use Rattle.std.specs.Prelude.{IfSome}
use Rattle.std.specs.Fmt.{digits}
use Rattle.std.specs.List.{list_all, AllByRecursion}
use Rattle.std.proofs.lemmas.Bool.{ltb-true}
use Rattle.sha2.specs.Sha256.{sha256, first_words, schedule, rounds, compress, hash_after, digest_bytes}
use Rattle.lc_model.specs.declared.kind.Kind.{Kind}
use Rattle.lc_model.specs.declared.kind.Kind.TheVariants.{Wdt, Adt}
use Rattle.lc_model.specs.declared.mode.LcMode.TheVariants as mode
use Rattle.lc_model.specs.Bytes.{zero_filled, u16, u32}
use Rattle.lc_model.specs.Name.{is_named, lc_name, sch_name, counter_name}
use Rattle.lc_model.specs.Packet.{command, executive_services_mid, sample_mid}
use Rattle.lc_model.specs.Tables.Image.{Layout, wdt_image, adt_image}
use Rattle.lc_model.specs.Tables.File.{file_bytes, wrapped}
use Rattle.lc_model.specs.Tables.Interpretation.{Interpretation, FileMeanings}
use Rattle.lc_model.specs.Tables.HalvesAndBytes.{Text, as_bytes, byte_meanings}
use Rattle.lc_model.specs.Tables.Edition.{IsCompiledFile, AreCompiledFiles}
use Rattle.lc_model.specs.Tables.InForce.{layouts, compiled_actionpoints, edition}
use Rattle.lc_model.specs.Host.Schedule.{IsSchedule}
use Rattle.lc_model.specs.Host.Stream.{StreamEntry, Contents, Packet, Tick, File, Half, Whole}
use Rattle.lc_model.specs.Host.World.{World, first_world}
use Rattle.lc_model.specs.Host.Run.{handled, input_of}
use Rattle.lc_model.specs.Host.Outcome.{Devices, devices, Ending, Complete}
use Rattle.lc_model.specs.Host.Promise.{HaveOwnHashes, CarryHalves, HaveFixedTables, Mission, IsOfTexts, records_in, output_by_bytes, IsRun, IsUndisturbed}
use Rattle.lc_model.specs.Kept.Effort.{no_effort}
use Rattle.lc_model.specs.Kept.Summary.{AppState, LcState, SchState, CounterState}
use Rattle.lc_model.specs.Kept.GoesWith.{own_name, GoesWith}
use Rattle.lc_model.specs.Kept.Executive.{Member, Executive}
use Rattle.host_refinement.specs.Keeping.{KeepsTo, runs_in, standing_of, LimitChecker}
use Rattle.host_refinement.specs.Statements.{AreBytes, IsStock, IsShort, IsWhole, EachRecordKeeps, BeginsSo, SeatsGoWith, AreFineInputs, RecordsAreFine}
use Rattle.host_refinement.specs.Calls.{AreTwo}
use Rattle.worked_examples.proofs.Watchpoints.{low_volts}
use Rattle.worked_examples.proofs.Reading.{low_volts_text, low_volts_rules, low_volts_compiles}
use Rattle.worked_examples.proofs.Halves.{hash, entries, entry_fits, wdt_is_half, adt_is_half}
use Rattle.worked_examples.proofs.Records.{stock, order, volts, sample}

-- ---- the mission, and the files of its text

abbrev low_volts_mission : Mission
low_volts_mission = record { edition = edition; sources = low_volts_text ∷ []; schedule = [] ∷ []; stock = stock; most_reads = 2 }

abbrev pub text : Text
text = record { source = low_volts_text; rules = low_volts_rules }

of_texts : IsOfTexts low_volts_mission (text ∷ [])
of_texts = ((refl, low_volts_compiles), tt)

schedule_fits : IsSchedule low_volts_mission.schedule
schedule_fits = record { some = lit≤ tt; few = lit≤ tt; slots = ((lit≤ tt, tt), tt) }

abbrev compiled : Kind → ℕ → List ℕ
compiled Wdt number = file_bytes (wrapped Wdt (wdt_image hash (low_volts ∷ [])))
compiled Adt number = file_bytes (wrapped Adt (adt_image compiled_actionpoints hash 1 entries))

wdt_compiled : IsCompiledFile edition Wdt (compiled Wdt 0) text
unfolding sha256 hash_after compress rounds schedule first_words digest_bytes
wdt_compiled = (wdt_image hash (low_volts ∷ []), refl, refl, wdt_is_half)

adt_compiled : IsCompiledFile edition Adt (compiled Adt 0) text
unfolding sha256 hash_after compress rounds schedule first_words digest_bytes
adt_compiled = (
  (adt_image compiled_actionpoints hash 1 entries, refl, refl, adt_is_half),
  (compiled_actionpoints, entries, refl, ((entry_fits, (λ e. absurd (cc e), tt)), tt), ((refl, refl), tt)),
)

-- a list of one has nothing else
only : {A : Type 0} (a b : A) (k : ℕ) → slice_get (a ∷ []) k ≡ Some b → a ≡ b
only a b zero is = ap (λ o. unwrap_or o a) is
only a b (suc k) is = absurd (true≢false (sym (ap is_some is)))

one_text : (a : Text) → Contains (text ∷ []) a → text ≡ a
one_text a (zero, less, is) = is
one_text a (suc k, less, is) = absurd (let none : ⊥ = omega (arith, less) in none)

are_compiled : AreCompiledFiles edition (text ∷ []) compiled
are_compiled Wdt number other is = subst (IsCompiledFile edition Wdt (compiled Wdt 0)) (only text other number is) wdt_compiled
are_compiled Adt number other is = subst (IsCompiledFile edition Adt (compiled Adt 0)) (only text other number is) adt_compiled

pub own_hashes : HaveOwnHashes (text ∷ [])
own_hashes a b in_a in_b same = ap (λ (t : Text). t.source) (sym (one_text a in_a) ∙ one_text b in_b)

-- ---- its stream

header : ℕ → ℕ → List ℕ
header kind size = kind ∷ (u32 100 ++ u16 0 ++ u32 size)

half_record : List ℕ → ℕ → List ℕ
half_record name half = header 4 43 ++ zero_filled 40 name ++ half ∷ u16 0

packet_record : List ℕ → List ℕ
packet_record bytes = header 1 (length bytes) ++ bytes

voltage : List ℕ
voltage = packet_record (0x08 ∷ 0x83 ∷ 0xC0 ∷ 0 ∷ 0 ∷ 9 ∷ 0 ∷ 0 ∷ 0 ∷ 0 ∷ 0 ∷ 0 ∷ (u16 2399 ++ 0 ∷ 0 ∷ []))

sampling : List ℕ
sampling = packet_record (command sample_mid 0 0 (0xFF ∷ 0xFF ∷ 0xFF ∷ 0xFF ∷ 0 ∷ 0 ∷ 0 ∷ 0 ∷ []))

stream : List ℕ
stream =
    half_record (codes "/cf/lc_def_wdt.tbl") 1 ++ half_record (codes "/cf/lc_def_adt.tbl") 2
    ++ packet_record (command executive_services_mid 0 1 (zero_filled 20 lc_name)) ++ voltage ++ sampling ++ voltage ++ sampling

bytes_below : (bytes : List ℕ) → list_all (λ b. nat_lt b 256) bytes ≡ true → AreBytes bytes
bytes_below [] all = tt
bytes_below (b ∷ bytes) all = by_test (nat_lt b 256) refl all (bytes_below bytes)
  where
    by_test : (test : Bool) → nat_lt b 256 ≡ test → (test && list_all (λ b. nat_lt b 256) bytes) ≡ true → (list_all (λ b. nat_lt b 256) bytes ≡ true → AreBytes bytes) → AreBytes (b ∷ bytes)
    by_test true is all others = (ltb-true b 256 is, others all)
    by_test false is all others = absurd (true≢false (sym all))

of_bytes : AreBytes stream
unfolding stream voltage sampling packet_record half_record header
of_bytes = bytes_below stream refl

fixed : HaveFixedTables (records_in low_volts_mission stream).0
unfolding stream voltage sampling packet_record half_record header
fixed = (volts 2399 ∷ sample ∷ volts 2399 ∷ sample ∷ [], refl, refl)

whole : (records_in low_volts_mission stream).1 ≡ Whole
unfolding stream voltage sampling packet_record half_record header
whole = refl

seven : 7 ≡ length (records_in low_volts_mission stream).0
unfolding stream voltage sampling packet_record half_record header
seven = refl

-- none of its records is a raw file
unfoldable pub is_no_file : Contents → Bool
is_no_file (File name bytes) = false
is_no_file (Packet bytes) = true
is_no_file Tick = true
is_no_file (Half name kind number) = true

no_files : list_all (λ (entry : StreamEntry). is_no_file entry.contents) (records_in low_volts_mission stream).0 ≡ true
unfolding is_no_file stream voltage sampling packet_record half_record header
no_files = refl

pub carries_none : (layouts : List Layout) (texts : List Text) (entries : List StreamEntry) → list_all (λ (entry : StreamEntry). is_no_file entry.contents) entries ≡ true →
    CarryHalves layouts texts entries
unfolding is_no_file
carries_none layouts texts entries all entry name bytes (k, less, there) is =
    absurd (true≢false (sym (no_file_at entries k less all entry) ∙ ap (λ (e : StreamEntry). is_no_file e.contents) there ∙ ap is_no_file is))
  where
    no_file_at : (entries : List StreamEntry) (k : ℕ) → k < length entries → list_all (λ (entry : StreamEntry). is_no_file entry.contents) entries ≡ true → (d : StreamEntry) →
        is_no_file (slice_index_or entries k d).contents ≡ true
    no_file_at [] k less all d = absurd (let none : ⊥ = omega (arith, less) in none)
    no_file_at (entry ∷ entries) zero less all d = first (is_no_file entry.contents) _ all
      where
        first : (a b : Bool) → (a && b) ≡ true → a ≡ true
        first true b e = refl
        first false b e = e
    no_file_at (entry ∷ entries) (suc k) less all d = no_file_at entries k (omega (arith, less)) (second (is_no_file entry.contents) _ all) d
      where
        second : (a b : Bool) → (a && b) ≡ true → b ≡ true
        second true b e = e
        second false b e = absurd (true≢false (sym e))

carry : CarryHalves layouts (text ∷ []) (records_in low_volts_mission stream).0
carry = carries_none layouts (text ∷ []) (records_in low_volts_mission stream).0 no_files

-- ---- its stock

abbrev spares : List Member
spares =
    record { called = lc_name; state = LcState (record { mode = mode.Active; terms = []; rules = []; watch = []; points = []; effort = no_effort }) }
    ∷ record { called = lc_name; state = LcState (record { mode = mode.Active; terms = []; rules = []; watch = []; points = []; effort = no_effort }) }
    ∷ record { called = sch_name; state = SchState low_volts_mission.schedule 0 }
    ∷ record { called = counter_name; state = CounterState 0 } ∷ []

is_stock : IsStock low_volts_mission spares
is_stock = record { names = refl; profile = (refl, (refl, ((refl, refl), (refl, tt)))) }

-- ---- a run

output : List ℕ
output = output_by_bytes low_volts_mission compiled (records_in low_volts_mission stream).0

abbrev both_devices : Devices
both_devices = devices (record { rest = Some stream; reads = 0; failed = false; retried = false }) (record { rest = Some []; reads = 2; failed = false; retried = false })
    (record { gained = Some []; failed = false; retried = false }) (record { gained = Some output; failed = false; retried = false })

abbrev ending : Ending
ending = Complete 7 (length output)

is_run : IsRun low_volts_mission both_devices ending
unfolding output
is_run = record {
  ends = record {
    texts = text ∷ [];
    compile = of_texts;
    compiled = compiled;
    files = are_compiled;
    outcome = record {
      bytes = stream;
      so = record { took = sym (append-nil stream); wrote = refl; no_write_failed = refl };
      whole = whole;
      at_the_end = refl;
      no_read_failed = refl;
      records_counted = seven;
      bytes_counted = refl;
    };
  };
  few_reads = lit≤ tt;
}

undisturbed : IsUndisturbed low_volts_mission both_devices ending
undisturbed = record { no_read_failed = refl; no_write_failed = refl; within_bound = λ e. absurd (cc e); memory = λ e. absurd (cc e) }

-- ---- what it leads to: a host that keeps to a world in which the Limit Checker runs

abbrev bytes : Interpretation (List ℕ)
bytes = as_bytes layouts

abbrev meanings : FileMeanings (List ℕ)
meanings = byte_meanings compiled

short : IsShort low_volts_mission.schedule
short = (lit≤ tt, tt)

world_after : World (List ℕ) → List StreamEntry → World (List ℕ)
world_after w [] = w
world_after w (entry ∷ entries) = world_after (handled bytes low_volts_mission.schedule entry.moment (input_of meanings entry.contents) w).0 entries

-- a world, and a host that keeps to it
record Kept (w : World (List ℕ)) : Type 0 where
  executive : Executive (List ℕ)
  keeps : KeepsTo bytes low_volts_mission.schedule w executive
  is_whole : IsWhole bytes AreBytes w

starting : List StreamEntry
starting = order 1 lc_name ∷ volts 2399 ∷ sample ∷ []

abbrev last_world : World (List ℕ)
last_world = world_after (first_world (map (λ (m : Member). m.called) spares)) starting

it_runs : runs_in (standing_of last_world) LimitChecker ≡ true
unfolding world_after starting digits
it_runs = refl

-- by the laws that `host_refinement` promises
module _ (record_keeps : EachRecordKeeps bytes AreBytes low_volts_mission.schedule) (begins : BeginsSo bytes AreBytes low_volts_mission.schedule)
    (are_fine : RecordsAreFine) (seats_go : SeatsGoWith bytes AreBytes low_volts_mission.schedule) where
  kept_after : (entries : List StreamEntry) (w : World (List ℕ)) → Kept w → AreFineInputs bytes AreBytes low_volts_mission.schedule meanings entries → Kept (world_after w entries)
  unfolding world_after
  kept_after [] w before fit = before
  kept_after (entry ∷ entries) w before fit =
      let now = record_keeps entry.moment w before.executive (input_of meanings entry.contents) short before.keeps before.is_whole fit.0 in
      kept_after entries _ (record { executive = _; keeps = now.keeps; is_whole = now.whole }) fit.1

  at_first : Kept (first_world (map (λ (m : Member). m.called) spares))
  at_first = let begun = begins spares is_stock.profile in record { executive = _; keeps = begun.0; is_whole = begun.1 }

  fine : AreFineInputs bytes AreBytes low_volts_mission.schedule meanings starting
  unfolding starting
  fine = are_fine edition (text ∷ []) compiled low_volts_mission.schedule starting are_compiled (tt, (tt, (tt, tt)))

  at_last : Kept last_world
  at_last = kept_after starting _ at_first fine

  -- its object goes with the services
  goes_with : AllByRecursion (λ seat. IfSome seat (λ (member : Member). GoesWith bytes member.state at_last.executive.services)) at_last.executive.seats
  goes_with = seats_go _ at_last.executive schedule_fits at_last.keeps at_last.is_whole

-- the Limit Checker's object is another than the scheduler's
two : (state : AppState) → own_name state ≡ lc_name → AreTwo state (SchState low_volts_mission.schedule 0)
two state is = ap (λ name. is_named sch_name name) is
