-- A host between two records stands for the world of the rule texts.
use Rattle.std.proofs.Common.{◌≡◌, ap, subst, sym, ◌∙◌, ℕ, List, [], ◌∷◌, length, take, map}
use Rattle.std.specs.List.{concat}
use Rattle.std.specs.Io.KnownBytes.{Appends}
use Rattle.lc_model.specs.declared.kind.Kind.{Kind}
use Rattle.lc_model.specs.declared.record.Moment.{Moment}
use Rattle.lc_model.specs.Device.{Sink}
use Rattle.lc_model.specs.Tables.HalvesAndBytes.{Text, TextImage, as_bytes, as_halves, text_meanings}
use Rattle.lc_model.specs.Tables.InForce.{edition, layouts}
use Rattle.lc_model.specs.Host.React.{Input, react}
use Rattle.lc_model.specs.Host.Run.{input_of, handled, world_after}
use Rattle.lc_model.specs.Host.Schedule.{Schedule}
use Rattle.lc_model.specs.Host.Stream.{StreamEntry, Contents, Packet, Tick, File, Half}
use Rattle.lc_model.specs.Host.World.{World, first_world}
use Rattle.lc_model.specs.Kept.Executive.{Member, step_by}
use Rattle.lc_model.specs.Kept.Stations as model
use Rattle.lc_model.specs.Laws.Correspondence.{IsImageOf, WorldAlike}
use Rattle.lc_model.proofs.Tables.SpellingLaws.{bytes_agree_with_texts, bytes_follow_texts}
use Rattle.lc_model.proofs.Host.RunsKept.{files_of_halves}
use Rattle.lc_model.proofs.Host.SentOfTwo.{first_alike, step_alike}
use Rattle.lc_model.proofs.Host.WholeRuns.{IsHalfBelow, brings_alike}
use Rattle.host_refinement.specs.Keeping.{KeepsTo}
use Rattle.host_refinement.specs.Statements.{AreBytes, BeginsSo, EachRecordKeeps, IsBrought, RecordsAreFine, SameStep}
use Rattle.app_host.specs.Delivered.{executive_in}
use Rattle.app_host.specs.Hosted.{Hosted}
use Rattle.app_host.specs.Shared.{on_board}
use Rattle.app_host.specs.Step.{StepsWhole, StepsPart, called_for, party_of}
use Rattle.flight_core.specs.Worlds.{AllBringHalves, AreOnBoard, BringsHalves, FollowsTheWorld, IsFirst, StandForTheTexts, StandsFor, Takes, brought_by, none, one, sent_for}
use Rattle.flight_core.proofs.Known.{all_not_other, known_first, party_known, still_known}

half_below : (texts : ℕ) (contents : Contents) → IsBrought texts contents → IsHalfBelow texts contents
half_below texts (Packet bytes) brought = tt
half_below texts Tick brought = tt
half_below texts (File name bytes) brought = tt
half_below texts (Half name kind text) brought = brought

-- on board files are read as bytes
keeps_on_board : (schedule : Schedule) → EachRecordKeeps (as_bytes layouts) AreBytes schedule → EachRecordKeeps on_board AreBytes schedule
unfolding on_board
keeps_on_board schedule law = law

module _ (schedule : Schedule) (texts : List Text) (compiled : Kind → ℕ → List ℕ) (are : AreOnBoard schedule texts compiled)
    (keep : EachRecordKeeps (as_bytes layouts) AreBytes schedule) (begin : BeginsSo (as_bytes layouts) AreBytes schedule) (fine : RecordsAreFine) where
  begins : (stock : List Member) (h : Hosted) → IsFirst schedule stock h →
      StandsFor schedule texts (first_world (map (λ (member : Member). member.called) stock)) h
  begins stock h first =
      let first_keeps = begin stock first.profile in
      record {
        bytes = first_world (map (λ (member : Member). member.called) stock);
        alike = first_alike (IsImageOf layouts texts) (as_bytes layouts) (as_halves layouts) (bytes_agree_with_texts layouts texts are.read are.hashes)
            (map (λ (member : Member). member.called) stock);
        keeps = subst (λ e. KeepsTo (as_bytes layouts) schedule (first_world (map (λ (member : Member). member.called) stock)) e) (sym (ap (λ (x : model.Host (List ℕ)). x.executive) first.host)) first_keeps.0;
        whole = first_keeps.1;
        known = known_first h stock first.host (all_not_other schedule stock first.profile);
      }

  -- ---- one record

  module _ (w : World TextImage) (old : Hosted) (moment : Moment) (contents : Contents) (stands : StandsFor schedule texts w old) (brings : BringsHalves texts contents) where
    abbrev input : Input (List ℕ)
    input = brought_by schedule texts compiled contents

    -- the world of bytes after it, and the step of the host in numbers
    kept : SameStep (as_bytes layouts) AreBytes schedule (step_by (as_bytes layouts) moment (executive_in old) input) (handled (as_bytes layouts) schedule moment input stands.bytes)
    kept =
        keep moment stands.bytes (executive_in old) input are.slots stands.keeps stands.whole
        (fine edition texts compiled schedule (record { moment = moment; contents = contents } ∷ []) are.files (brings.brought, tt)).0

    -- with the world of the texts it goes on as before
    together : WorldAlike (IsImageOf layouts texts) (as_bytes layouts) (as_halves layouts) (handled (as_bytes layouts) schedule moment input stands.bytes).0 (sent_for schedule texts compiled moment contents w).0
        × ((handled (as_bytes layouts) schedule moment input stands.bytes).1 ≡ (sent_for schedule texts compiled moment contents w).1)
    together =
        let agree = bytes_agree_with_texts layouts texts are.read are.hashes in
        let alike = brings_alike layouts texts compiled are.hashes (files_of_halves edition texts compiled are.files) contents (half_below (length texts) contents brings.brought) brings.carries in
        step_alike (IsImageOf layouts texts) (as_bytes layouts) (as_halves layouts) agree moment
        (react (as_bytes layouts) schedule stands.bytes input) (react (as_halves layouts) schedule w (input_of (text_meanings layouts texts) contents))
        (bytes_follow_texts layouts texts are.read are.hashes schedule stands.bytes w input (input_of (text_meanings layouts texts) contents) stands.alike alike)

    -- what the record calls for is what the world of the texts sends
    same_bytes : called_for moment input old ≡ concat (sent_for schedule texts compiled moment contents w).1
    unfolding on_board
    same_bytes = ap concat (kept.packets ∙ together.1)

    goes_on : (new : Hosted) (before now : Sink) → StepsWhole moment input old new before now →
        FollowsTheWorld schedule texts compiled moment contents w new before now
    unfolding on_board
    goes_on new before now steps =
        let those = party_known (party_of input) old stands.known in
        let exact = steps.exact those in
        record {
          stands = record {
            bytes = (handled (as_bytes layouts) schedule moment input stands.bytes).0;
            alike = together.0;
            keeps = subst (λ e. KeepsTo (as_bytes layouts) schedule (handled (as_bytes layouts) schedule moment input stands.bytes).0 e)
                (sym (ap (λ (x : model.Host (List ℕ)). x.executive) exact.host)) kept.keeps;
            whole = kept.whole;
            known = record { spares = still_known old.stock new.stock stands.known.spares steps.stock; seated = steps.known stands.known.seated those };
          };
          gains = subst (Appends before.gained now.gained) same_bytes exact.gains;
        }

    stops : (new : Hosted) (sent : ℕ) (before now : Sink) → StepsPart moment input sent old new before now →
        Appends before.gained now.gained (take sent (concat (sent_for schedule texts compiled moment contents w).1))
    stops new sent before now steps =
        subst (λ (bytes : List ℕ). Appends before.gained now.gained (take sent bytes)) same_bytes
        (steps.exact (party_known (party_of input) old stands.known)).gains

  -- ---- all records

  history : (w : World TextImage) (old new : Hosted) (entries : List StreamEntry) → StandsFor schedule texts w old → AllBringHalves texts entries →
      Takes schedule texts compiled old entries new →
      StandsFor schedule texts (world_after (as_halves layouts) schedule w (text_meanings layouts texts) entries) new
  history w old _ [] stands all none = stands
  history w old new (entry ∷ entries) stands all (one {between = between} before now steps others) =
      history (sent_for schedule texts compiled entry.moment entry.contents w).0 between new entries
      (goes_on w old entry.moment entry.contents stands all.0 between before now steps).stands all.1 others

  pub stand_for_the_texts : StandForTheTexts schedule texts compiled
  stand_for_the_texts = record {
    begins = begins;
    goes_on = λ w old new moment contents before now stands brings steps. goes_on w old moment contents stands brings new before now steps;
    stops = λ w old new moment contents sent before now stands brings steps. stops w old moment contents stands brings new sent before now steps;
    history = history;
  }
