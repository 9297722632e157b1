-- If only rules that never fail request a sequence, nothing calls for it. This project's own.
use Rattle.std.specs.Prelude.{◌≡◌, ◌≢◌, ℕ, List, ◌++◌, length, Some, Contains}
use Rattle.std.specs.List.{AllByRecursion, concat}
use Rattle.lc_model.specs.Bytes.{u16_at}
use Rattle.lc_model.specs.Rule.{NamedRule}
use Rattle.lc_model.specs.Tables.HalvesAndBytes.{Text, as_halves, text_meanings}
use Rattle.lc_model.specs.Packet.{message_id, sequence_mid}
use Rattle.lc_model.specs.Host.Stream.{records_of}
use Rattle.lc_model.specs.Host.World.{first_world}
use Rattle.lc_model.specs.Host.Run.{sent_from}
use Rattle.lc_model.specs.Host.Outcome.{Devices, Ending}
use Rattle.lc_model.specs.Host.Promise.{Mission, IsOfTexts, HaveOwnHashes, CarryHalves, IsUndisturbed, WritesWhatIsCalledFor, records_in, sequences_called_for}
use Rattle.rule_analysis.specs.Judgement.{NeverFails}

-- the number of the sequence that a request asks for
abbrev pub sequence_number : List ℕ → ℕ
sequence_number request = u16_at request 8

-- in each of these texts each rule with this sequence never fails
abbrev pub NeverFailIn : List Text → ℕ → Type 0
NeverFailIn texts sequence = (text : Text) → Contains texts text →
    AllByRecursion (λ (rule : NamedRule). rule.action.sequence ≡ sequence → NeverFails rule.action.condition) text.rules

-- then, whatever comes, none of the requests that the texts call for is one of this sequence
abbrev pub IsNeverCalledFor : Mission → Type 0
IsNeverCalledFor m = (texts : List Text) (stream : List ℕ) (sequence : ℕ) → IsOfTexts m texts → NeverFailIn texts sequence →
    AllByRecursion (λ request. sequence_number request ≢ sequence)
    (sequences_called_for m.edition.layouts texts m.schedule m.stock stream)

-- ---- what is written

-- the packets that the rule texts in force call for over a stream, one by one
abbrev pub packets_called_for : Mission → List Text → List ℕ → List (List ℕ)
packets_called_for m texts stream =
    sent_from (as_halves m.edition.layouts) m.schedule (first_world m.stock) (text_meanings m.edition.layouts texts) (records_of (length texts) stream).0

-- the writer gained these packets after what it had, and none of them requests this sequence
pub record GainsNoRequest (d : Devices) (before : List ℕ) (packets : List (List ℕ)) (sequence : ℕ) : Type 0 where
  pub gains : d.sink_after.gained ≡ Some (before ++ concat packets)
  pub none : AllByRecursion (λ packet. message_id packet ≡ sequence_mid → sequence_number packet ≢ sequence) packets

-- the same holds for a run that writes what is called for, under the premises of that promise
abbrev pub IsNeverWritten : Type 0
IsNeverWritten = (m : Mission) (d : Devices) (ending : Ending) → WritesWhatIsCalledFor m d ending →
    (texts : List Text) (stream before : List ℕ) (sequence : ℕ) → IsOfTexts m texts → HaveOwnHashes texts →
    CarryHalves m.edition.layouts texts (records_in m stream).0 → d.source.rest ≡ Some stream → d.sink.gained ≡ Some before → IsUndisturbed m d ending →
    NeverFailIn texts sequence → GainsNoRequest d before (packets_called_for m texts stream) sequence
