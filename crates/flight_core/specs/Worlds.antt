-- Law: between two records the host agrees with the world that its records so far give, by the rule texts; and for the next
-- record it writes the packets that this world sends.
use Rattle.std.specs.Prelude.{◌≡◌, ℕ, List, [], ◌∷◌, length, take, map}
use Rattle.std.specs.List.{AllByRecursion, concat}
use Rattle.std.specs.Io.KnownBytes.{Appends}
use Rattle.lc_model.specs.declared.kind.Kind.{Kind}
use Rattle.lc_model.specs.declared.record.Moment.{Moment}
use Rattle.lc_model.specs.Device.{Sink}
use Rattle.lc_model.specs.Name.{Name}
use Rattle.lc_model.specs.Tables.Edition.{AreCompiledFiles}
use Rattle.lc_model.specs.Tables.HalvesAndBytes.{Text, TextImage, as_bytes, as_halves, byte_meanings, text_meanings}
use Rattle.lc_model.specs.Tables.InForce.{edition, layouts}
use Rattle.lc_model.specs.Host.Promise.{CarriesHalf, HaveOwnHashes}
use Rattle.lc_model.specs.Host.React.{Input}
use Rattle.lc_model.specs.Host.Run.{Sent, handled, input_of, world_after}
use Rattle.lc_model.specs.Host.Schedule.{Schedule}
use Rattle.lc_model.specs.Host.Stream.{StreamEntry, Contents, File}
use Rattle.lc_model.specs.Host.World.{World, first_world}
use Rattle.lc_model.specs.Kept.Executive.{Member}
use Rattle.lc_model.specs.Kept.Stations.{first_host}
use Rattle.lc_model.specs.Laws.Correspondence.{AreRead, IsImageOf, WorldAlike}
use Rattle.host_refinement.specs.Keeping.{IsSpare, KeepsTo}
use Rattle.host_refinement.specs.Statements.{AreBytes, IsBrought, IsShort, IsWhole}
use Rattle.app_host.specs.Delivered.{executive_in}
use Rattle.app_host.specs.Hosted.{Hosted, in_numbers}
use Rattle.app_host.specs.Step.{StepsWhole, StepsPart}
use Rattle.flight_core.specs.Flight.{AreAllKnown}

-- ---- texts and files

-- A schedule, texts with their rules and different hashes, and their compiled files.
pub record AreOnBoard (schedule : Schedule) (texts : List Text) (compiled : Kind → ℕ → List ℕ) : Type 0 where
  pub slots : IsShort schedule
  pub read : AreRead texts
  pub hashes : HaveOwnHashes texts
  pub files : AreCompiledFiles edition texts compiled

-- The record brings bytes or a half of one of these texts, and a sound raw file carries a half of one of them.
pub record BringsHalves (texts : List Text) (contents : Contents) : Type 0 where
  pub brought : IsBrought (length texts) contents
  pub carries : (name : Name) (bytes : List ℕ) → contents ≡ File name bytes → CarriesHalf layouts texts bytes

-- Every record brings such contents.
abbrev pub AllBringHalves : List Text → List StreamEntry → Type 0
AllBringHalves texts entries = AllByRecursion (λ (entry : StreamEntry). BringsHalves texts entry.contents) entries

-- ---- host and world

-- Host `h` stands for world `w`, which is by texts: there is a world by bytes that is related to `w` image by image and that the
-- host's numbers agree with, and all objects are of this profile.
pub record StandsFor (schedule : Schedule) (texts : List Text) (w : World TextImage) (h : Hosted) : Type 0 where
  pub bytes : World (List ℕ)
  pub alike : WorldAlike (IsImageOf layouts texts) (as_bytes layouts) (as_halves layouts) bytes w
  pub keeps : KeepsTo (as_bytes layouts) schedule bytes (executive_in h)
  pub whole : IsWhole (as_bytes layouts) AreBytes bytes
  pub known : AreAllKnown h

-- A new host with this stock, which is of this profile.
pub record IsFirst (schedule : Schedule) (stock : List Member) (h : Hosted) : Type 0 where
  pub host : in_numbers h ≡ first_host stock
  pub profile : AllByRecursion (IsSpare (as_bytes layouts) schedule) stock

module _ (schedule : Schedule) (texts : List Text) (compiled : Kind → ℕ → List ℕ) where
  -- The record as an input by bytes.
  abbrev pub brought_by : Contents → Input (List ℕ)
  brought_by contents = input_of (byte_meanings compiled) contents

  -- The world after the record, with the packets sent, by texts.
  abbrev pub sent_for : Moment → Contents → World TextImage → Sent TextImage
  sent_for moment contents w = handled (as_halves layouts) schedule moment (input_of (text_meanings layouts texts) contents) w

  -- After a step the host stands for the new world, and has written the packets that this world sends.
  pub record FollowsTheWorld (moment : Moment) (contents : Contents) (w : World TextImage) (new : Hosted) (before now : Sink) : Type 0 where
    pub stands : StandsFor schedule texts (sent_for moment contents w).0 new
    pub gains : Appends before.gained now.gained (concat (sent_for moment contents w).1)

  -- The host handles these records one by one, and no write fails.
  pub data Takes : Hosted → List StreamEntry → Hosted → Type 0 where
    none : {h : Hosted} → Takes h [] h
    one : {old between new : Hosted} {entry : StreamEntry} {entries : List StreamEntry} (before now : Sink) →
        StepsWhole entry.moment (brought_by entry.contents) old between before now → Takes between entries new →
        Takes old (entry ∷ entries) new

  -- A new host stands for the first world; each record keeps this; and after any records the host stands for the world of its
  -- history. If a write fails, the bytes written are the first of what the world sends.
  pub record StandForTheTexts : Type 0 where
    pub begins : (stock : List Member) (h : Hosted) → IsFirst schedule stock h →
        StandsFor schedule texts (first_world (map (λ (member : Member). member.called) stock)) h
    pub goes_on : (w : World TextImage) (old new : Hosted) (moment : Moment) (contents : Contents) (before now : Sink) →
        StandsFor schedule texts w old → BringsHalves texts contents →
        StepsWhole moment (brought_by contents) old new before now → FollowsTheWorld moment contents w new before now
    pub stops : (w : World TextImage) (old new : Hosted) (moment : Moment) (contents : Contents) (sent : ℕ) (before now : Sink) →
        StandsFor schedule texts w old → BringsHalves texts contents →
        StepsPart moment (brought_by contents) sent old new before now →
        Appends before.gained now.gained (take sent (concat (sent_for moment contents w).1))
    pub history : (w : World TextImage) (old new : Hosted) (entries : List StreamEntry) →
        StandsFor schedule texts w old → AllBringHalves texts entries → Takes old entries new →
        StandsFor schedule texts (world_after (as_halves layouts) schedule w (text_meanings layouts texts) entries) new

-- Law: for every schedule, texts with different hashes, and their compiled files, hosts stand for the worlds by these texts.
abbrev pub HostsStandForTheTexts : Type 0
HostsStandForTheTexts = (schedule : Schedule) (texts : List Text) (compiled : Kind → ℕ → List ℕ) →
    AreOnBoard schedule texts compiled → StandForTheTexts schedule texts compiled
