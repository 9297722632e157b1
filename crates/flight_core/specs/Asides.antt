-- Non-interference, for `run`: asides (see `Isolation`) do not change the sequence requests.
use Rattle.std.specs.Prelude.{◌≡◌, ℕ, ◌==◌, List, ◌++◌, filter, Some}
use Rattle.std.specs.List.{concat}
use Rattle.lc_model.specs.declared.kind.Kind.{Kind}
use Rattle.lc_model.specs.Packet.{sequence_mid, message_id}
use Rattle.lc_model.specs.Tables.HalvesAndBytes.{Text, as_halves, text_meanings, as_bytes, byte_meanings}
use Rattle.lc_model.specs.Tables.Edition.{AreCompiledFiles}
use Rattle.lc_model.specs.Host.Stream.{StreamEntry}
use Rattle.lc_model.specs.Host.World.{first_world}
use Rattle.lc_model.specs.Host.Run.{sent_from}
use Rattle.lc_model.specs.Host.Outcome.{Devices, Ending}
use Rattle.lc_model.specs.Host.Promise.{Mission, IsOfTexts, HaveOwnHashes, CarryHalves, records_in, IsUndisturbed}
use Rattle.lc_model.specs.Laws.Isolation.{without_asides}

-- The sequence requests among these packets.
abbrev pub sequences_among : List (List ℕ) → List (List ℕ)
sequences_among packets = filter (λ packet. message_id packet == sequence_mid) packets

module _ (m : Mission) where
  -- The packets that the rule texts in force call for, over these records.
  abbrev pub packets_by_texts : List Text → List StreamEntry → List (List ℕ)
  packets_by_texts texts entries = sent_from (as_halves m.edition.layouts) m.schedule (first_world m.stock) (text_meanings m.edition.layouts texts) entries

  -- The packets that the bytes of the files call for, over these records.
  abbrev pub packets_by_bytes : (Kind → ℕ → List ℕ) → List StreamEntry → List (List ℕ)
  packets_by_bytes compiled entries = sent_from (as_bytes m.edition.layouts) m.schedule (first_world m.stock) (byte_meanings compiled) entries

  module _ (d : Devices) where
    -- The writer, which had `before`, took exactly these packets, and `requests` are the sequence requests among them.
    pub record WritesRequests (before : List ℕ) (packets requests : List (List ℕ)) : Type 0 where
      pub gains : d.sink_after.gained ≡ Some (before ++ concat packets)
      pub among : sequences_among packets ≡ requests

    -- Under the headline's premises: for any records `others` that differ from the stream's only in asides, the sequence requests
    -- that were written are those that `others` call for, byte for byte and in order.
    abbrev pub IsNotTouchedByAsides : Ending → Type 0
    IsNotTouchedByAsides ending = (texts : List Text) (stream before : List ℕ) (others : List StreamEntry) → IsOfTexts m texts → HaveOwnHashes texts →
        CarryHalves m.edition.layouts texts (records_in m stream).0 → d.source.rest ≡ Some stream → d.sink.gained ≡ Some before → IsUndisturbed m d ending →
        without_asides others ≡ without_asides (records_in m stream).0 →
        WritesRequests before (packets_by_texts texts (records_in m stream).0) (sequences_among (packets_by_texts texts others))

    -- Without the premises on hashes and raw files: for any records `others` that differ from the stream's only in asides, the
    -- sequence requests that were written are those that the bytes of the files call for over `others`.
    abbrev pub IsNotTouchedByAsidesInBytes : Ending → Type 0
    IsNotTouchedByAsidesInBytes ending = (texts : List Text) (stream before : List ℕ) → IsOfTexts m texts →
        d.source.rest ≡ Some stream → d.sink.gained ≡ Some before → IsUndisturbed m d ending →
        (compiled : Kind → ℕ → List ℕ) × AreCompiledFiles m.edition texts compiled
        × ((others : List StreamEntry) → without_asides others ≡ without_asides (records_in m stream).0 →
        WritesRequests before (packets_by_bytes compiled (records_in m stream).0) (sequences_among (packets_by_bytes compiled others)))
