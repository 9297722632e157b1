-- The low-volts text: what it calls for over any stream without raw files, and over two failing samples, byte for byte. Streams,
-- packets and event texts are this project's own.
use Rattle.std.specs.Prelude.{◌≡◌, ℕ, ⊤, List, [], ◌∷◌, ◌++◌, length, replicate, codes, Some, Contains}
use Rattle.lc_model.specs.declared.record.Moment.{Moment}
use Rattle.lc_model.specs.declared.rule.EventKind.TheVariants.{Information, Error}
use Rattle.lc_model.specs.Rule.{NamedRule}
use Rattle.lc_model.specs.Text.Reading.{Reads}
use Rattle.lc_model.specs.Bytes.{u16, u32, zero_filled}
use Rattle.lc_model.specs.Name.{Name, app_name_size, host_name, lc_name, name_size}
use Rattle.lc_model.specs.Packet.{command, executive_services_mid, sample_mid}
use Rattle.lc_model.specs.Events.Outgoing.{event_packet, sequence_request}
use Rattle.lc_model.specs.Tables.InForce.{layouts}
use Rattle.lc_model.specs.Host.Schedule.{Schedule}
use Rattle.lc_model.specs.Host.Stream.{StreamEntry, File, records_of}
use Rattle.lc_model.specs.Host.Outcome.{Devices, Ending, Uncompiled, FailedToRead, FailedToWrite, ReachedTheBound, NoMemory, answer}
use Rattle.lc_model.specs.Host.Promise.{called_for}
use Rattle.whole_run_tests.specs.Endings.{EndsWell}
use Rattle.whole_run_tests.specs.WithStock.{names}

-- ---- any stream

abbrev pub low_volts_source : List ℕ
low_volts_source = codes "packet P = mid 0x0883 length 16; field V = P u16be at 12 stale 2; rule LOW active fails 2 sequence 7 event error 1001 \"low volts\" when V < 2400;"

-- none of these records is a raw file
abbrev pub HaveNoFiles : List StreamEntry → Type 0
HaveNoFiles entries = (entry : StreamEntry) (name : Name) (bytes : List ℕ) → Contains entries entry → ¬ (entry.contents ≡ File name bytes)

module _ (schedule : Schedule) (d : Devices) (stream before : List ℕ) where
  -- exactly what the rules of the text call for over the stream is written after what was there, and the result says how its
  -- records end
  pub record FollowsItsText (ending : Ending) : Type 0 where
    pub rules : List NamedRule
    pub reads : Reads low_volts_source rules
    pub gains : d.sink_after.gained ≡ Some (before ++ called_for layouts (record { source = low_volts_source; rules = rules } ∷ []) schedule names stream)
    pub answers : ending ≡ answer (records_of 1 stream) (length (called_for layouts (record { source = low_volts_source; rules = rules } ∷ []) schedule names stream))

  -- to the end of its records; or a read or a write failed, the bound of reads was reached, or memory was lacking. The text is
  -- not refused.
  abbrev pub EndsByItsText : Ending → Type 0
  EndsByItsText (Uncompiled number refusal) = ⊥
  EndsByItsText FailedToRead = ⊤
  EndsByItsText (FailedToWrite sent) = ⊤
  EndsByItsText ReachedTheBound = ⊤
  EndsByItsText NoMemory = ⊤
  EndsByItsText ending = FollowsItsText ending

-- this holds for every known stream without raw files
abbrev pub WritesByItsText : Schedule → Devices → Ending → Type 0
WritesByItsText schedule d ending = (stream before : List ℕ) → HaveNoFiles (records_of 1 stream).0 → d.source.rest ≡ Some stream → d.sink.gained ≡ Some before →
    EndsByItsText schedule d stream before ending

-- ---- the stream: seven records of second 100

abbrev pub record_of : ℕ → List ℕ → List ℕ
record_of kind body = kind ∷ (u32 100 ++ u16 0 ++ u32 (length body) ++ body)

-- the compiled file of this half of the first text is stored under this name
abbrev pub half_stored : List ℕ → ℕ → List ℕ
half_stored name half = record_of 4 (zero_filled name_size name ++ half ∷ u16 0)

-- 2,399 at 12 of a packet of 16 bytes with message id 0x0883
abbrev pub voltage : List ℕ
voltage = record_of 1 (0x08 ∷ 0x83 ∷ 0xC0 ∷ 0 ∷ 0 ∷ 9 ∷ (replicate 6 0 ++ u16 2399 ++ u16 0))

-- all rules are sampled
abbrev pub sampling : List ℕ
sampling = record_of 1 (command sample_mid 0 0 (u16 0xFFFF ++ u16 0xFFFF ++ u16 0 ++ u16 0))

-- both default files, the start of the Limit Checker, and twice a low voltage and a sample
abbrev pub two_failing_samples : List ℕ
two_failing_samples =
    half_stored (codes "/cf/lc_def_wdt.tbl") 1 ++ half_stored (codes "/cf/lc_def_adt.tbl") 2
    ++ record_of 1 (command executive_services_mid 0 1 (zero_filled app_name_size lc_name)) ++ voltage ++ sampling ++ voltage ++ sampling

-- ---- what is written: five events and one request for a sequence, 852 bytes

abbrev pub then : Moment
then = record { seconds = 100; subseconds = 0 }

abbrev pub what_is_called_for : List ℕ
what_is_called_for =
    event_packet 0 then host_name 2 Information (codes "file stored")
    ++ event_packet 1 then host_name 2 Information (codes "file stored")
    ++ event_packet 2 then lc_name 1 Information (codes "started with tables")
    ++ event_packet 3 then host_name 8 Information (codes "app command 1 done")
    ++ sequence_request 0 7
    ++ event_packet 4 then lc_name 1001 Error (codes "low volts: AP = 0, FailCount = 2, RTS = 7")

-- ---- how the run ends: seven records, and 852 bytes

-- whatever was written before
abbrev pub WritesTwoFailures : Devices → Ending → Type 0
WritesTwoFailures d ending = (before : List ℕ) → d.source.rest ≡ Some two_failing_samples → d.sink.gained ≡ Some before →
    EndsWell 7 852 what_is_called_for d before ending
