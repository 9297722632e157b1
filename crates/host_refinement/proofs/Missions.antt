-- What the host in numbers writes over a mission is what is called for.
use Rattle.std.proofs.Common.{ap, ◌∙◌, ℕ, List, [], ◌∷◌, length}
use Rattle.std.specs.List.{AllByRecursion}
use Rattle.lc_model.specs.Name.{Name}
use Rattle.lc_model.specs.Tables.HalvesAndBytes.{as_bytes, byte_meanings}
use Rattle.lc_model.specs.Host.Schedule.{ScheduleEntry, AreEntries}
use Rattle.lc_model.specs.Host.Stream.{StreamEntry, Contents, Packet, Tick, File, Half, records_of}
use Rattle.lc_model.specs.Host.Run.{packets_of}
use Rattle.lc_model.specs.Host.Promise.{Mission}
use Rattle.lc_model.proofs.Host.RunsKept.{files_of_halves, are_read, bytes_run_as_fixed_text}
use Rattle.lc_model.proofs.Host.WholeRuns.{IsHalfBelow, AreHalvesBelow, same_packets}
use Rattle.host_refinement.specs.Statements.{AreBytes, IsShort, IsBrought, AreBrought, WritesByBytes, WritesByTexts, WritesWithFixedTables}
use Rattle.host_refinement.proofs.Brought.{streams_bring}
use Rattle.host_refinement.proofs.FineFiles.{records_are_fine}
use Rattle.host_refinement.proofs.Laws.{writes_what_is_called_for, bytes_are_sensible}

short_slots : (slots : List (List ScheduleEntry)) → AllByRecursion AreEntries slots → IsShort slots
short_slots [] all = tt
short_slots (entries ∷ slots) all = (all.0.0, short_slots slots all.1)

half_below : (texts : ℕ) (contents : Contents) → IsBrought texts contents → IsHalfBelow texts contents
half_below texts (Packet bytes) brought = tt
half_below texts Tick brought = tt
half_below texts (File name bytes) brought = tt
half_below texts (Half name kind text) brought = brought

halves_below : (texts : ℕ) (entries : List StreamEntry) → AreBrought texts entries → AreHalvesBelow texts entries
halves_below texts [] all = tt
halves_below texts (entry ∷ entries) all = (half_below texts entry.contents all.0, halves_below texts entries all.1)

module _ (m : Mission) where
  pub writes_by_bytes : WritesByBytes m
  writes_by_bytes stock texts compiled entries schedule is files all =
      writes_what_is_called_for (as_bytes m.edition.layouts) AreBytes m.schedule (bytes_are_sensible m.edition.layouts) stock (byte_meanings compiled) entries
      (short_slots m.schedule schedule.slots) is.profile (records_are_fine m.edition texts compiled m.schedule entries files all)
      ∙ ap (λ (names : List Name). packets_of (as_bytes m.edition.layouts) m.schedule names (byte_meanings compiled) entries) is.names

  pub writes_by_texts : WritesByTexts m
  writes_by_texts stock texts compiled entries schedule is files all compile hashes carry =
      writes_by_bytes stock texts compiled entries schedule is files all
      ∙ same_packets m.edition.layouts texts compiled hashes (files_of_halves m.edition texts compiled files) (are_read m.edition.limits m.sources texts compile)
      m.schedule m.stock entries (halves_below (length texts) entries all) carry

  pub writes_with_fixed_tables : WritesWithFixedTables m
  writes_with_fixed_tables stock text compiled stream schedule is files bytes compile fixed =
      writes_by_bytes stock (text ∷ []) compiled (records_of 1 stream).0 schedule is files (streams_bring 1 stream bytes)
      ∙ bytes_run_as_fixed_text m.edition.layouts text compiled m.schedule m.stock stream (are_read m.edition.limits m.sources (text ∷ []) compile)
      (files_of_halves m.edition (text ∷ []) compiled files) fixed
