-- Two rule texts, and a stream that swaps the tables of one for those of the other in flight: one half of these comes as a raw
-- file, with the bytes of the compiled one. Then the Limit Checker is reloaded, and has the first text's tables again.
use Rattle.std.specs.Prelude.{◌≡◌, ℕ, List, [], ◌∷◌, ◌++◌, length, codes, pos, Some}
use Rattle.sha2.specs.Sha256.{sha256}
use Rattle.lc_model.specs.declared.field.Term.{Term}
use Rattle.lc_model.specs.declared.field.FieldType.TheVariants.{U16Be}
use Rattle.lc_model.specs.declared.field.CmpOp.TheVariants.{Less}
use Rattle.lc_model.specs.declared.kind.Kind.TheVariants.{Wdt}
use Rattle.lc_model.specs.Rule.{NamedRule}
use Rattle.lc_model.specs.Text.Reading.{Reads}
use Rattle.lc_model.specs.Bytes.{u16, zero_filled}
use Rattle.lc_model.specs.Name.{Name, lc_name, app_name_size, name_size}
use Rattle.lc_model.specs.Packet.{command, executive_services_mid, lc_housekeeping_request_mid, table_services_mid}
use Rattle.lc_model.specs.Events.Outgoing.{sequence_request}
use Rattle.lc_model.specs.Tables.File.{file_bytes, wrapped}
use Rattle.lc_model.specs.Tables.HalvesAndBytes.{Text}
use Rattle.lc_model.specs.Tables.Image.{wdt_image}
use Rattle.lc_model.specs.Tables.InForce.{layouts}
use Rattle.lc_model.specs.Host.Outcome.{Devices, Ending}
use Rattle.lc_model.specs.Host.Promise.{IsUndisturbed, Mission, called_for, sequences_called_for}
use Rattle.lc_model.specs.Host.Schedule.{Schedule}
use Rattle.whole_run_tests.specs.Endings.{EndsWell}
use Rattle.whole_run_tests.specs.LowVolts.{half_stored, low_volts_source, record_of, sampling, voltage}
use Rattle.rule_analysis.specs.Called.{GainsNoRequest, packets_called_for}
use Rattle.whole_run_tests.specs.WithStock.{mission, names}

-- the second text: one failure below 2,000 requests sequence 8; a rule that never fails would request sequence 9
abbrev pub lower_volts_source : List ℕ
lower_volts_source = codes "packet P = mid 0x0883 length 16; field V = P u16be at 12 stale 2; rule LOW active fails 1 sequence 8 event error 1002 \"lower volts\" when V < 2000; rule QUIET active fails 1 sequence 9 event error 1003 \"never\" when V < 2000 and not V < 2000;"

-- its watchpoint, and the file that is compiled of it
abbrev pub lower_volts : Term
lower_volts = record { kind = U16Be; mid = 0x0883; offset = 12; mask = 0xFFFF; stale = 2; op = Less; value = pos 2000 }

abbrev pub lower_wdt_file : List ℕ
lower_wdt_file = file_bytes (wrapped Wdt (wdt_image (sha256 lower_volts_source) (lower_volts ∷ [])))

-- ---- the stream

-- a raw file is stored under this name
abbrev pub raw_stored : List ℕ → List ℕ → List ℕ
raw_stored name bytes = record_of 3 (zero_filled name_size name ++ bytes)

-- the compiled file of the second text's half
abbrev pub second_half_stored : List ℕ → ℕ → List ℕ
second_half_stored name half = record_of 4 (zero_filled name_size name ++ half ∷ u16 1)

-- a command to the table services, and an order to the executive services, for the Limit Checker
abbrev pub manage : ℕ → List ℕ → List ℕ
manage code name = record_of 1 (command table_services_mid 0 code (zero_filled name_size name))

abbrev pub order : ℕ → List ℕ
order code = record_of 1 (command executive_services_mid 0 code (zero_filled app_name_size lc_name))

-- the Limit Checker judges the images that wait, adopts those that are activated, and reports how its rules stand
abbrev pub housekeeping : List ℕ
housekeeping = record_of 1 (command lc_housekeeping_request_mid 0 0 [])

-- 1,999 at 12 of a packet of 16 bytes
abbrev pub lower_voltage : List ℕ
lower_voltage = record_of 1 (0x08 ∷ 0x83 ∷ 0xC0 ∷ 0 ∷ 0 ∷ 9 ∷ 0 ∷ 0 ∷ 0 ∷ 0 ∷ 0 ∷ 0 ∷ (u16 1999 ++ u16 0))

-- the first text is in force, and fails once
abbrev pub first_in_force : List ℕ
first_in_force =
    half_stored (codes "/cf/lc_def_wdt.tbl") 1 ++ half_stored (codes "/cf/lc_def_adt.tbl") 2 ++ order 1 ++ voltage ++ sampling

-- the second one's tables are loaded, validated and activated
abbrev pub swapped : List ℕ
swapped =
    raw_stored (codes "/cf/lower_wdt.tbl") lower_wdt_file ++ second_half_stored (codes "/cf/lower_adt.tbl") 2
    ++ manage 1 (codes "/cf/lower_wdt.tbl") ++ manage 1 (codes "/cf/lower_adt.tbl")
    ++ manage 2 (codes "LC.LC_WDT") ++ manage 2 (codes "LC.LC_ADT") ++ housekeeping
    ++ manage 3 (codes "LC.LC_WDT") ++ manage 3 (codes "LC.LC_ADT") ++ housekeeping

-- under it 2,399 passes and 1,999 fails; and after a reload 2,399 fails twice, under the first one
abbrev pub swaps_and_reload : List ℕ
swaps_and_reload =
    first_in_force ++ swapped ++ voltage ++ sampling ++ lower_voltage ++ sampling ++ order 4 ++ voltage ++ sampling ++ sampling

-- what is run
abbrev pub own_mission : Schedule → Mission
own_mission schedule = mission (low_volts_source ∷ lower_volts_source ∷ []) schedule

-- ---- what is written

-- both texts, with the rules that they say
pub record Texts : Type 0 where
  pub low : List NamedRule
  pub lower : List NamedRule
  pub reads_low : Reads low_volts_source low
  pub reads_lower : Reads lower_volts_source lower

abbrev pub texts_of : Texts → List Text
texts_of t = record { source = low_volts_source; rules = t.low } ∷ record { source = lower_volts_source; rules = t.lower } ∷ []

-- The run ends with all 23 records and exactly the bytes that the two texts call for, each while it is in force; or a device
-- fails, or memory is lacking. Two sequences are requested: that of the second text, and after the reload that of the first.
pub record WritesBoth (schedule : Schedule) (d : Devices) (ending : Ending) : Type 0 where
  pub texts : Texts
  pub ends : (before : List ℕ) → d.source.rest ≡ Some swaps_and_reload → d.sink.gained ≡ Some before →
      EndsWell 23 (length (called_for layouts (texts_of texts) schedule names swaps_and_reload))
      (called_for layouts (texts_of texts) schedule names swaps_and_reload) d before ending
  pub requests : sequences_called_for layouts (texts_of texts) schedule names swaps_and_reload ≡ sequence_request 0 8 ∷ sequence_request 1 7 ∷ []
  -- where nothing fails, no packet requests sequence 9, though a rule of the second text names it
  pub quiet : (before : List ℕ) → d.source.rest ≡ Some swaps_and_reload → d.sink.gained ≡ Some before → IsUndisturbed (own_mission schedule) d ending →
      GainsNoRequest d before (packets_called_for (own_mission schedule) (texts_of texts) swaps_and_reload) 9
