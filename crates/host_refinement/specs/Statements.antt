-- Laws of the host in numbers: it agrees with the world at the start and after each record, and writes the same packets.
use Rattle.std.specs.Prelude.{◌≡◌, [], ◌∷◌, ◌++◌, ⊤, ℕ, ◌<◌, ◌≤◌, ◌^◌, List, length, map, IsTrue, None, IfSome, IfOk}
use Rattle.std.specs.List.{AllByRecursion, concat}
use Rattle.lc_model.specs.declared.record.Moment.{Moment}
use Rattle.lc_model.specs.declared.field.Term.{Term}
use Rattle.lc_model.specs.declared.kind.Kind.TheVariants.{Wdt, Adt}
use Rattle.lc_model.specs.Name.{Name}
use Rattle.lc_model.specs.Packet.{is_telemetry_mid}
use Rattle.lc_model.specs.Tables.Image.{Layout, IsSound}
use Rattle.lc_model.specs.Tables.Spelled.{spelled_terms}
use Rattle.lc_model.specs.Tables.HalvesAndBytes.{Text, as_bytes, byte_meanings}
use Rattle.lc_model.specs.Tables.Edition.{Edition, AreCompiledFiles}
use Rattle.lc_model.specs.declared.kind.Kind.{Kind}
use Rattle.lc_model.specs.Tables.Interpretation.{Interpretation, Pair, FileMeanings}
use Rattle.lc_model.specs.Host.Schedule.{Schedule, ScheduleEntry, IsSchedule, most_entries}
use Rattle.lc_model.specs.Host.ScheduleText.{schedule_in}
use Rattle.lc_model.specs.Host.Stream.{StreamEntry, Contents, File, Half, records_of}
use Rattle.lc_model.specs.Host.World.{World, Running, Lc, first_world}
use Rattle.lc_model.specs.Host.React.{Input}
use Rattle.lc_model.specs.Host.Run.{Sent, handled, input_of, packets_of}
use Rattle.lc_model.specs.Host.Promise.{Mission, IsOfTexts, HaveOwnHashes, CarryHalves, HaveFixedTables, output_by_bytes, output_by_texts}
use Rattle.lc_model.specs.Kept.Executive.{Member, Executive, Written, step_by, written_from, first_executive}
use Rattle.lc_model.specs.Kept.GoesWith.{GoesWith}
use Rattle.lc_model.specs.Laws.LimitChecker.{IsSensible, IsSettled}
use Rattle.lc_model.specs.Laws.Correspondence.{WorldAlike, InputAlike}
use Rattle.host_refinement.specs.Keeping.{KeepsTo, IsSpare}

module _ {Image : Type 0} (images : Interpretation Image) (IsFine : Image → Type 0) where
  -- The two images are equal, and fine.
  abbrev pub IsOne : Image → Image → Type 0
  IsOne a b = (a ≡ b) × IsFine a

  -- Each sound matching pair of fine images has rules in range over its own watchpoints, all of them of telemetry.
  pub record PairsAreSensible : Type 0 where
    pub sensible : (pair : Pair Image) → IsFine pair.wdt → IsFine pair.adt → images.fault_of Wdt pair.wdt ≡ None → images.fault_of Adt pair.adt ≡ None →
        IsTrue (images.matches pair) → IsSensible images pair
    pub telemetry : (pair : Pair Image) → IsFine pair.wdt → IsFine pair.adt → images.fault_of Wdt pair.wdt ≡ None → images.fault_of Adt pair.adt ≡ None →
        IsTrue (images.matches pair) → AllByRecursion (λ (t : Term). IsTrue (is_telemetry_mid t.mid)) (images.terms pair)

  -- All images of the world are fine, active ones and those about to become active are sound, and there is one point for each
  -- rule in force.
  pub record IsWhole (w : World Image) : Type 0 where
    pub images_fit : WorldAlike IsOne images images w w
    pub settled : IfSome w.lc.running (λ (r : Running (Lc Image)). IsSettled images r.state)

  -- All images of the input are fine.
  abbrev pub IsFineInput : Input Image → Type 0
  IsFineInput input = InputAlike IsOne images images input input

-- Each slot of the schedule has at most eight entries.
abbrev pub IsShort : Schedule → Type 0
IsShort schedule = AllByRecursion (λ (entries : List ScheduleEntry). length entries ≤ most_entries) schedule

module _ {Image : Type 0} (images : Interpretation Image) (IsFine : Image → Type 0) (schedule : Schedule) where
  -- After a step host and world agree, and both gave the same packets.
  pub record SameStep (s : Written Image) (t : Sent Image) : Type 0 where
    pub keeps : KeepsTo images schedule t.0 s.0
    pub whole : IsWhole images IsFine t.0
    pub packets : s.1 ≡ t.1

  -- Law: each record keeps host and world in agreement.
  abbrev pub EachRecordKeeps : Type 0
  EachRecordKeeps = (moment : Moment) (w : World Image) (e : Executive Image) (input : Input Image) →
      IsShort schedule → KeepsTo images schedule w e → IsWhole images IsFine w → IsFineInput images IsFine input →
      SameStep (step_by images moment e input) (handled images schedule moment input w)

  -- Law: host and world agree at the start.
  abbrev pub BeginsSo : Type 0
  BeginsSo = (stock : List Member) → AllByRecursion (IsSpare images schedule) stock →
      let names : List Name = map (λ (member : Member). member.called) stock in
      let world : World Image = first_world names in
      KeepsTo images schedule world (first_executive stock) × IsWhole images IsFine world

  -- Law: each object on a seat agrees with the services.
  abbrev pub SeatsGoWith : Type 0
  SeatsGoWith = (w : World Image) (e : Executive Image) → IsSchedule schedule → KeepsTo images schedule w e → IsWhole images IsFine w →
      AllByRecursion (λ seat. IfSome seat (λ (member : Member). GoesWith images member.state e.services)) e.seats

  -- All images of these records are fine.
  abbrev pub AreFineInputs : FileMeanings Image → List StreamEntry → Type 0
  AreFineInputs meanings entries = AllByRecursion (λ (entry : StreamEntry). IsFineInput images IsFine (input_of meanings entry.contents)) entries

  -- Law: over any records the host in numbers writes exactly the packets that are called for.
  abbrev pub WritesWhatIsCalledFor : Type 0
  WritesWhatIsCalledFor = (stock : List Member) (meanings : FileMeanings Image) (entries : List StreamEntry) →
      IsShort schedule → AllByRecursion (IsSpare images schedule) stock → AreFineInputs meanings entries →
      concat (written_from images (first_executive stock) meanings entries) ≡ packets_of images schedule (map (λ (member : Member). member.called) stock) meanings entries

-- ---- one more record

module _ {Image : Type 0} (images : Interpretation Image) where
  -- The executive after these records.
  unfoldable pub executive_after : Executive Image → FileMeanings Image → List StreamEntry → Executive Image
  executive_after e meanings [] = e
  executive_after e meanings (entry ∷ entries) = executive_after (step_by images entry.moment e (input_of meanings entry.contents)).0 meanings entries

  -- The packets written for one more record, and the executive after it.
  pub record GoesOn (e : Executive Image) (meanings : FileMeanings Image) (entries : List StreamEntry) (entry : StreamEntry) : Type 0 where
    pub packets : written_from images e meanings (entries ++ entry ∷ [])
        ≡ written_from images e meanings entries ++ (step_by images entry.moment (executive_after e meanings entries) (input_of meanings entry.contents)).1
    pub executive : executive_after e meanings (entries ++ entry ∷ [])
        ≡ (step_by images entry.moment (executive_after e meanings entries) (input_of meanings entry.contents)).0

  -- Law: one more record adds its packets after those of the earlier records, and leads to the next executive.
  abbrev pub RunsGoOn : Type 0
  RunsGoOn = (e : Executive Image) (meanings : FileMeanings Image) (entries : List StreamEntry) (entry : StreamEntry) → GoesOn e meanings entries entry

-- ---- images as bytes

-- Each number is below 256.
abbrev pub AreBytes : List ℕ → Type 0
AreBytes bytes = AllByRecursion (λ byte. byte < 2 ^ 8) bytes

-- Law: a sound WDT watches only telemetry.
abbrev pub TermsAreTelemetry : List Layout → Type 0
TermsAreTelemetry layouts = (wdt : List ℕ) → AreBytes wdt → IsSound layouts Wdt wdt →
    AllByRecursion (λ (t : Term). IsTrue (is_telemetry_mid t.mid)) (spelled_terms wdt)

-- ---- the records of a stream

-- The contents are a file of bytes, a half of one of `texts` texts, a packet or a tick.
abbrev pub IsBrought : ℕ → Contents → Type 0
IsBrought texts (File name bytes) = AreBytes bytes
IsBrought texts (Half name kind text) = text < texts
IsBrought texts other = ⊤

-- Each record brings such contents.
abbrev pub AreBrought : ℕ → List StreamEntry → Type 0
AreBrought texts entries = AllByRecursion (λ (entry : StreamEntry). IsBrought texts entry.contents) entries

-- Law: the records of any stream of bytes bring such contents.
abbrev pub StreamsBring : Type 0
StreamsBring = (texts : ℕ) (stream : List ℕ) → AreBytes stream → AreBrought texts (records_of texts stream).0

-- Law: the images of such records are fine, with the compiled files for halves.
abbrev pub RecordsAreFine : Type 0
RecordsAreFine = (e : Edition) (texts : List Text) (compiled : Kind → ℕ → List ℕ) (schedule : Schedule) (entries : List StreamEntry) →
    AreCompiledFiles e texts compiled → AreBrought (length texts) entries →
    AreFineInputs (as_bytes e.layouts) AreBytes schedule (byte_meanings compiled) entries

-- Law: the schedule of a text is a valid one.
abbrev pub SchedulesFit : Type 0
SchedulesFit = (text : List ℕ) → IfOk (schedule_in text) (λ (schedule : Schedule). IsSchedule schedule)

-- ---- missions

module _ (m : Mission) where
  -- The objects are the mission's stock, and of this profile.
  pub record IsStock (stock : List Member) : Type 0 where
    pub names : map (λ (member : Member). member.called) stock ≡ m.stock
    pub profile : AllByRecursion (IsSpare (as_bytes m.edition.layouts) m.schedule) stock

  -- The output of the host in numbers over these records.
  abbrev pub written_over : List Member → (Kind → ℕ → List ℕ) → List StreamEntry → List ℕ
  written_over stock compiled entries =
      concat (written_from (as_bytes m.edition.layouts) (first_executive stock) (byte_meanings compiled) entries)

  -- Law: the output of the host in numbers is what the bytes of the files call for.
  abbrev pub WritesByBytes : Type 0
  WritesByBytes = (stock : List Member) (texts : List Text) (compiled : Kind → ℕ → List ℕ) (entries : List StreamEntry) →
      IsSchedule m.schedule → IsStock stock → AreCompiledFiles m.edition texts compiled → AreBrought (length texts) entries →
      written_over stock compiled entries ≡ output_by_bytes m compiled entries

  -- Law: the output of the host in numbers is what the rule texts in force call for, if no two texts have the same hash and raw
  -- files carry halves.
  abbrev pub WritesByTexts : Type 0
  WritesByTexts = (stock : List Member) (texts : List Text) (compiled : Kind → ℕ → List ℕ) (entries : List StreamEntry) →
      IsSchedule m.schedule → IsStock stock → AreCompiledFiles m.edition texts compiled → AreBrought (length texts) entries →
      IsOfTexts m texts → HaveOwnHashes texts → CarryHalves m.edition.layouts texts entries →
      written_over stock compiled entries ≡ output_by_texts m texts entries

  -- Law: with one text and fixed tables, the output of the host in numbers is what this text calls for, without these premises.
  abbrev pub WritesWithFixedTables : Type 0
  WritesWithFixedTables = (stock : List Member) (text : Text) (compiled : Kind → ℕ → List ℕ) (stream : List ℕ) →
      IsSchedule m.schedule → IsStock stock → AreCompiledFiles m.edition (text ∷ []) compiled → AreBytes stream →
      IsOfTexts m (text ∷ []) → HaveFixedTables (records_of 1 stream).0 →
      written_over stock compiled (records_of 1 stream).0 ≡ output_by_texts m (text ∷ []) (records_of 1 stream).0
