-- Asides don't touch the sequence requests that a run writes.
use Rattle.std.proofs.Common.{sym, ◌∙◌, ap, ◌++◌, Some}
use Rattle.std.specs.List.{concat}
use Rattle.lc_model.specs.Tables.HalvesAndBytes.{as_halves, text_meanings, as_bytes, byte_meanings}
use Rattle.lc_model.specs.Host.Stream.{records_of}
use Rattle.lc_model.specs.Host.Outcome.{Devices, Ending}
use Rattle.lc_model.specs.Host.Promise.{Mission, records_in, WritesWhatIsCalledFor, WritesWhatBytesCallFor}
use Rattle.lc_model.specs.Laws.Isolation.{AsidesDoNotCount}
use Rattle.lc_model.proofs.Host.RunsKept.{as_many}
use Rattle.flight_core.specs.Asides.{packets_by_texts, packets_by_bytes, IsNotTouchedByAsides, IsNotTouchedByAsidesInBytes}

module _ (m : Mission) (d : Devices) (ending : Ending) where
  pub by_texts : WritesWhatIsCalledFor m d ending → AsidesDoNotCount (as_halves m.edition.layouts) → IsNotTouchedByAsides m d ending
  by_texts writes law texts stream before others are hashes carry left gained calm same = record {
    gains = (writes texts stream before are hashes carry left gained calm).gains
        ∙ ap (λ n. Some (before ++ concat (packets_by_texts m texts (records_of n stream).0))) (sym (as_many m.edition.limits m.sources texts are));
    among = law m.schedule m.stock (text_meanings m.edition.layouts texts) (records_in m stream).0 others (sym same);
  }

  pub by_bytes : WritesWhatBytesCallFor m d ending → AsidesDoNotCount (as_bytes m.edition.layouts) → IsNotTouchedByAsidesInBytes m d ending
  by_bytes writes law texts stream before are left gained calm =
      let wrote = writes texts stream before are left gained calm in (
        wrote.0,
        wrote.1,
        λ others same. record {
          gains = wrote.2.gains
              ∙ ap (λ n. Some (before ++ concat (packets_by_bytes m wrote.0 (records_of n stream).0))) (sym (as_many m.edition.limits m.sources texts are));
          among = law m.schedule m.stock (byte_meanings wrote.0) (records_in m stream).0 others (sym same);
        },
      )
