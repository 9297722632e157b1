-- Laws of whole runs: the output by bytes is the output by texts, and the program writes it. This project's own.
use Rattle.std.specs.Prelude.{◌≡◌, ℕ, true, List, [], ◌∷◌, ◌++◌, length, slice_get, Some}
use Rattle.lc_model.specs.declared.kind.Kind.{Kind}
use Rattle.lc_model.specs.Name.{Name}
use Rattle.lc_model.specs.Tables.Image.{Layout}
use Rattle.lc_model.specs.Tables.Half.{IsFileOfHalf}
use Rattle.lc_model.specs.Tables.Interpretation.{FileMeanings, Interpretation}
use Rattle.lc_model.specs.Tables.HalvesAndBytes.{Text, as_bytes, as_halves, byte_meanings, text_meanings}
use Rattle.lc_model.specs.Host.Schedule.{Schedule}
use Rattle.lc_model.specs.Host.Stream.{StreamEntry, records_of}
use Rattle.lc_model.specs.Host.World.{World}
use Rattle.lc_model.specs.Host.Run.{input_of, handled, sent_from, world_after}
use Rattle.lc_model.specs.Host.Outcome.{Devices, Ending, FailedToRead, FailedToWrite}
use Rattle.lc_model.specs.Host.Promise.{HaveOwnHashes, CarryHalves, called_for, called_for_by_bytes, HaveFixedTables, Mission, records_in, IsRun, HalvesAreCarried, FollowsTexts, WritesWhatIsCalledFor, WritesWhatBytesCallFor, WritesWithFixedTables}
use Rattle.lc_model.specs.Laws.Correspondence.{IsImageOf, MeaningAlike, AreRead}

-- `compiled kind number` is a table file of that half of that text.
abbrev pub AreFilesOfHalves : List Layout → List Text → (Kind → ℕ → List ℕ) → Type 0
AreFilesOfHalves layouts texts compiled = (kind : Kind) (number : ℕ) (text : Text) → slice_get texts number ≡ Some text →
    IsFileOfHalf layouts kind (compiled kind number) text.source

-- Law: a compiled file has the same meaning by bytes and by texts.
abbrev pub CompiledFilesMeanAlike : Type 0
CompiledFilesMeanAlike = (layouts : List Layout) (texts : List Text) (compiled : Kind → ℕ → List ℕ) → AreFilesOfHalves layouts texts compiled →
    (kind : Kind) (number : ℕ) (text : Text) → slice_get texts number ≡ Some text →
    MeaningAlike (IsImageOf layouts texts) (as_bytes layouts) (as_halves layouts)
    ((byte_meanings compiled).of_half kind number) ((text_meanings layouts texts).of_half kind number)

-- Law: for every stream, the bytes of the files call for the same output as the texts do, if no two texts have the same hash
-- and raw files carry halves.
abbrev pub BytesRunAsTexts : Type 0
BytesRunAsTexts = (layouts : List Layout) (texts : List Text) (compiled : Kind → ℕ → List ℕ) (schedule : Schedule) (stock : List Name) (stream : List ℕ) →
    AreRead texts → HaveOwnHashes texts → AreFilesOfHalves layouts texts compiled → CarryHalves layouts texts (records_of (length texts) stream).0 →
    called_for_by_bytes layouts compiled (length texts) schedule stock stream ≡ called_for layouts texts schedule stock stream

-- Law: for one text and streams with fixed tables, the bytes of the files call for the same output as the text does, without
-- these premises.
abbrev pub BytesRunAsFixedText : Type 0
BytesRunAsFixedText = (layouts : List Layout) (text : Text) (compiled : Kind → ℕ → List ℕ) (schedule : Schedule) (stock : List Name) (stream : List ℕ) →
    AreRead (text ∷ []) → AreFilesOfHalves layouts (text ∷ []) compiled → HaveFixedTables (records_of 1 stream).0 →
    called_for_by_bytes layouts compiled 1 schedule stock stream ≡ called_for layouts (text ∷ []) schedule stock stream

-- ---- one more record

-- The packets sent for one more record, and the world after it.
pub record GoesOn {Image : Type 0} (images : Interpretation Image) (schedule : Schedule) (w : World Image) (meanings : FileMeanings Image)
    (entries : List StreamEntry) (entry : StreamEntry) : Type 0 where
  pub packets : sent_from images schedule w meanings (entries ++ entry ∷ [])
      ≡ sent_from images schedule w meanings entries
      ++ (handled images schedule entry.moment (input_of meanings entry.contents) (world_after images schedule w meanings entries)).1
  pub world : world_after images schedule w meanings (entries ++ entry ∷ [])
      ≡ (handled images schedule entry.moment (input_of meanings entry.contents) (world_after images schedule w meanings entries)).0

-- Law: one more record adds its packets after those of the earlier records, and leads to the next world.
abbrev pub RunsGoOn : {Image : Type 0} → Interpretation Image → Type 0
RunsGoOn {Image} images = (schedule : Schedule) (w : World Image) (meanings : FileMeanings Image) (entries : List StreamEntry) (entry : StreamEntry) →
    GoesOn images schedule w meanings entries entry

-- ---- `run`

-- 143 is returned exactly if a read failed, 144 exactly if a write failed.
pub record AreFailuresTold (d : Devices) (ending : Ending) : Type 0 where
  pub read : d.source_after.failed ≡ true → ending ≡ FailedToRead
  pub failed_to_read : ending ≡ FailedToRead → d.source_after.failed ≡ true
  pub write : d.sink_after.failed ≡ true → (sent : ℕ) × (ending ≡ FailedToWrite sent)
  pub failed_to_write : (sent : ℕ) → ending ≡ FailedToWrite sent → d.sink_after.failed ≡ true

-- Law: every run returns 143 exactly if a read failed, and 144 exactly if a write failed.
abbrev pub RunsTellFailures : Type 0
RunsTellFailures = (m : Mission) (d : Devices) (ending : Ending) → IsRun m d ending → AreFailuresTold d ending

-- Law: if the stream is known, the premise on raw files for the whole stream implies it for the bytes that were read.
abbrev pub CarriedByTheStream : Type 0
CarriedByTheStream = (m : Mission) (d : Devices) (texts : List Text) (stream : List ℕ) → d.source.rest ≡ Some stream →
    CarryHalves m.edition.layouts texts (records_in m stream).0 → HalvesAreCarried m d texts

-- Law: if no two texts have the same hash and raw files carry halves, the output is what the texts call for over the bytes that
-- were read, or a prefix of it after a failed write.
abbrev pub RunsFollowTexts : Type 0
RunsFollowTexts = (m : Mission) (d : Devices) (ending : Ending) → IsRun m d ending → FollowsTexts m d ending

-- Law: the headline holds for every run that `IsRun` describes.
abbrev pub RunsWriteWhatIsCalledFor : Type 0
RunsWriteWhatIsCalledFor = (m : Mission) (d : Devices) (ending : Ending) → IsRun m d ending → WritesWhatIsCalledFor m d ending

-- Law: without the premises on hashes and raw files, the output is what the bytes of the files call for.
abbrev pub RunsWriteWhatBytesCallFor : Type 0
RunsWriteWhatBytesCallFor = (m : Mission) (d : Devices) (ending : Ending) → IsRun m d ending → WritesWhatBytesCallFor m d ending

-- Law: with fixed tables, the output is what the text calls for.
abbrev pub RunsWriteWithFixedTables : Type 0
RunsWriteWithFixedTables = (m : Mission) (d : Devices) (ending : Ending) → IsRun m d ending → WritesWithFixedTables m d ending
