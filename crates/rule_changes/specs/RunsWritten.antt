-- What two runs write, one with a rule text and one with a changed text in its place. This project's own.
use Rattle.std.specs.Prelude.{◌≡◌, ℕ, ◌==◌, List, ◌∷◌, ◌++◌, filter, Some}
use Rattle.std.specs.List.{concat}
use Rattle.lc_model.specs.Packet.{message_id, sequence_mid}
use Rattle.lc_model.specs.Rule.{actions}
use Rattle.lc_model.specs.Tables.HalvesAndBytes.{Text}
use Rattle.lc_model.specs.Host.Outcome.{Devices, Ending}
use Rattle.lc_model.specs.Host.Promise.{Mission, IsOfTexts, HaveOwnHashes, CarryHalves, IsUndisturbed, WritesWhatIsCalledFor, records_in}
use Rattle.rule_analysis.specs.Called.{packets_called_for}
use Rattle.rule_changes.specs.Runs.{every, AreAlikeFor, ComeByNumber}

-- An undisturbed run of the mission over the stream, with a sink that has `before`: the promise `by_texts` of `run` for these texts, and
-- its premises.
pub record FliesTexts (m : Mission) (d : Devices) (ending : Ending) (texts : List Text) (stream before : List ℕ) : Type 0 where
  pub promise : WritesWhatIsCalledFor m d ending
  pub compiled : IsOfTexts m texts
  pub hashes : HaveOwnHashes texts
  pub halves : CarryHalves m.edition.layouts texts (records_in m stream).0
  pub source : d.source.rest ≡ Some stream
  pub sink : d.sink.gained ≡ Some before
  pub undisturbed : IsUndisturbed m d ending

-- The old run wrote the packets `olds`, the new one `news`, and their sequence requests are the same, byte for byte.
pub record WriteSameRequests (old new : Devices) (before before' : List ℕ) (olds news : List (List ℕ)) : Type 0 where
  pub old_gains : old.sink_after.gained ≡ Some (before ++ concat olds)
  pub new_gains : new.sink_after.gained ≡ Some (before' ++ concat news)
  pub requests : filter (λ packet. message_id packet == sequence_mid) olds ≡ filter (λ packet. message_id packet == sequence_mid) news

-- Law: two undisturbed runs over one stream, of missions that differ in their first text, write the same sequence requests if rules of
-- the same number request alike, or never fail.
abbrev pub AlikeTextsWriteSameRequests : Type 0
AlikeTextsWriteSameRequests =
    (m : Mission) (sources : List (List ℕ)) (d d' : Devices) (ending ending' : Ending) (old new : Text) (others : List Text)
    (stream before before' : List ℕ) →
    FliesTexts m d ending (old ∷ others) stream before →
    FliesTexts (record m { sources = sources }) d' ending' (new ∷ others) stream before' →
    ComeByNumber others stream old new → AreAlikeFor every (actions old.rules) (actions new.rules) →
    WriteSameRequests d d' before before' (packets_called_for m (old ∷ others) stream) (packets_called_for m (new ∷ others) stream)
