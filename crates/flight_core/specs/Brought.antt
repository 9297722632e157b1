-- The records of a stream as the host gets them.
use Rattle.std.specs.Prelude.{◌≡◌, ℕ, ◌+◌, ◌<◌, ⊤, List, length, Option, Some, None}
use Rattle.lc_model.specs.declared.kind.Kind.{Kind}
use Rattle.lc_model.specs.declared.record.Record.{Record as Given}
use Rattle.lc_model.specs.Tables.File.{headers_length}
use Rattle.lc_model.specs.Tables.Interpretation.{FileMeanings}
use Rattle.lc_model.specs.Tables.HalvesAndBytes.{byte_meanings}
use Rattle.lc_model.specs.Host.Run.{input_of, size_in}
use Rattle.lc_model.specs.Host.Stream.{StreamEntry}
use Rattle.lc_model.specs.Services.Seen.{meaning_of}
use Rattle.rpn_compiler.specs.declared.files.TablePair.{TablePair}
use Rattle.app_host.specs.Step.{input_by, IsNamed}
use Rattle.flight_core.specs.declared.found.Found.{Found}
use Rattle.flight_core.specs.declared.found.Found.TheVariants.{Record, Half, Bad}
use Rattle.flight_core.specs.Answer.{Answer, Entry}
use Rattle.flight_core.specs.Found.{answer_of}
use Rattle.flight_core.specs.Compiled.{file_in}

-- What files mean by their bytes, with these pairs as the compiled texts.
abbrev pub meanings_of : List TablePair → FileMeanings (List ℕ)
meanings_of pairs = byte_meanings (file_in pairs)

-- Each compiled file has exactly its headers and its image.
abbrev pub AreWhole : List TablePair → Type 0
AreWhole pairs = (kind : Kind) (number : ℕ) → number < length pairs →
    headers_length + size_in (meaning_of (file_in pairs kind number)) ≡ length (file_in pairs kind number)

-- The host gets the stream's record: the same moment and the same input, with a valid file name.
pub record IsTaken (pairs : List TablePair) (found : Answer) (given : Given) : Type 0 where
  pub entry : StreamEntry
  pub is : found ≡ Entry entry
  pub moment : given.moment ≡ entry.moment
  pub input : input_by given.body ≡ input_of (meanings_of pairs) entry.contents
  pub named : IsNamed given.body

-- The host gets a record if there is one, and nothing for a bad record.
abbrev pub IsBrought : List TablePair → Found → Option Given → Type 0
IsBrought pairs (Bad number) None = ⊤
IsBrought pairs (Bad number) (Some given) = ⊥
IsBrought pairs (Record entry) None = ⊥
IsBrought pairs (Half moment name kind text) None = ⊥
IsBrought pairs (Record entry) (Some given) = IsTaken pairs (answer_of (Record entry)) given
IsBrought pairs (Half moment name kind text) (Some given) = IsTaken pairs (answer_of (Half moment name kind text)) given
