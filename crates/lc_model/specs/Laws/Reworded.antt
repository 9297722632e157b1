-- Two rule texts that say the same in other words call for the same packets, whatever stream comes. This project's own.
use Rattle.std.specs.Prelude.{◌≡◌, ℕ, false, List, ◌∷◌, length, bytes_eq, Contains, Ok}
use Rattle.std.specs.List.{AllByRecursion, AllZip}
use Rattle.sha2.specs.Sha256.{sha256}
use Rattle.lc_model.specs.Name.{Name}
use Rattle.lc_model.specs.Rule.{actions}
use Rattle.lc_model.specs.Tables.Equation.{terms_of}
use Rattle.lc_model.specs.Tables.Image.{Layout, hash_of}
use Rattle.lc_model.specs.Tables.File.{TableFile, opened}
use Rattle.lc_model.specs.Tables.HalvesAndBytes.{Text}
use Rattle.lc_model.specs.LimitChecker.Steps.{is_short}
use Rattle.lc_model.specs.Host.Schedule.{Schedule}
use Rattle.lc_model.specs.Host.Stream.{StreamEntry, Contents, File, records_of}
use Rattle.lc_model.specs.Host.Promise.{called_for}
use Rattle.lc_model.specs.Laws.Tables.{IsReworded}

-- The texts have the same rules in the same order, up to the wording of conditions, and the same packets are too short for a field
-- of one as for a field of the other.
pub record SaysTheSame (old new : Text) : Type 0 where
  pub rules : AllZip IsReworded (actions old.rules) (actions new.rules)
  pub short : (packet : List ℕ) → is_short (terms_of old.rules) packet ≡ is_short (terms_of new.rules) packet

-- The text differs from each of the others.
abbrev pub IsApart : Text → List Text → Type 0
IsApart text others = AllByRecursion (λ (other : Text). (bytes_eq text.source other.source ≡ false) × (bytes_eq other.source text.source ≡ false)) others

-- If a record is a raw table file, its image does not have the hash of this text.
abbrev pub IsNotOf : Text → Contents → Type 0
IsNotOf text contents = (name : Name) (bytes : List ℕ) (file : TableFile) → contents ≡ File name bytes → opened bytes ≡ Ok file →
    bytes_eq (sha256 text.source) (hash_of file.image) ≡ false

-- No raw file of the stream has the hash of this text.
abbrev pub AreNotOf : Text → List StreamEntry → Type 0
AreNotOf text entries = AllByRecursion (λ (entry : StreamEntry). IsNotOf text entry.contents) entries

-- Law: exchange a run's first text for one with the same meaning. Then the run calls for the same bytes, whatever other texts, schedule,
-- stock and stream it has, if no raw file of the stream has the hash of either text and neither text is among the others.
abbrev pub RewordedTextsRunAlike : Type 0
RewordedTextsRunAlike = (layouts : List Layout) (old new : Text) (others : List Text) (schedule : Schedule) (stock : List Name) (stream : List ℕ) →
    SaysTheSame old new → IsApart old others → IsApart new others →
    AreNotOf old (records_of (length (old ∷ others)) stream).0 → AreNotOf new (records_of (length (old ∷ others)) stream).0 →
    called_for layouts (old ∷ others) schedule stock stream ≡ called_for layouts (new ∷ others) schedule stock stream
