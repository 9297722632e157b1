-- The output of a run and its result.
use Rattle.std.specs.Prelude.{◌≡◌, ℕ, ◌+◌, ◌-◌, List, [], ◌∷◌, length, All, Result, Ok, Err, ⊤}
use Rattle.std.specs.List.{concat}
use Rattle.lc_model.specs.Host.Outcome.{Devices, IsOutcome}
use Rattle.lc_model.specs.Host.Stream.{StreamEntry, records_of}
use Rattle.lc_model.specs.Tables.Interpretation.{FileMeanings}
use Rattle.lc_model.specs.Kept.Executive.{written_from}
use Rattle.rpn_compiler.specs.declared.files.TablePair.{TablePair}
use Rattle.host_refinement.specs.Statements.{AreBrought}
use Rattle.app_host.specs.Shared.{on_board}
use Rattle.app_host.specs.Hosted.{Hosted}
use Rattle.app_host.specs.Whole.{IsKnown, AreKnown}
use Rattle.app_host.specs.Delivered.{executive_in}
use Rattle.flight_core.specs.declared.halt.Halt.{Halt}
use Rattle.flight_core.specs.declared.halt.Halt.TheVariants as halt
use Rattle.flight_core.specs.declared.error.Report.{Report}
use Rattle.flight_core.specs.declared.error.RunError.{RunError}
use Rattle.flight_core.specs.declared.error.RunError.TheVariants as error
use Rattle.flight_core.specs.Brought.{meanings_of}
use Rattle.flight_core.specs.Ending.{ending_of}

-- The error of a run that stops for `halt`; `held` of the `bytes` written so far are still in the buffer and have not reached the
-- device.
abbrev pub stopped_by : Halt → (records bytes held : ℕ) → RunError
stopped_by halt.NoRecord records bytes held = error.BadRecord (records + 1)
stopped_by halt.Fault records bytes held = error.Read
stopped_by halt.Bound records bytes held = error.ReadBound
stopped_by (halt.Unsent sent) records bytes held = error.Write (bytes + sent - held)

-- The result at the end of the stream, with these bytes unread: complete, or cut inside a record.
abbrev pub ended_by : List ℕ → Report → Result Report RunError
ended_by [] report = Ok report
ended_by (byte ∷ bytes) report = Err (error.Truncated (report.records + 1))

-- A run that started returns neither a text's refusal nor `Memory`.
abbrev pub RunHasBegun : Result Report RunError → Type 0
RunHasBegun (Err (error.Compile text refusal)) = ⊥
RunHasBegun (Err error.Memory) = ⊥
RunHasBegun other = ⊤

-- The output of host `h` over these records.
abbrev pub written_by : FileMeanings (List ℕ) → Hosted → List StreamEntry → List ℕ
written_by meanings h entries = concat (written_from on_board (executive_in h) meanings entries)

-- `output` gives the output of host `h` over all records that a stream may bring.
abbrev pub IsOutputOf : List TablePair → Hosted → (List StreamEntry → List ℕ) → Type 0
IsOutputOf pairs h output = (entries : List StreamEntry) → AreBrought (length pairs) entries → written_by (meanings_of pairs) h entries ≡ output entries

-- All objects, spares and running ones, are of this profile.
pub record AreAllKnown (h : Hosted) : Type 0 where
  pub spares : All IsKnown h.stock
  pub seated : AreKnown h

-- If all objects are of this profile, the run ends as `IsOutcome` states, for every `output` that `IsOutputOf` describes.
abbrev pub FliesSo : List TablePair → ℕ → Hosted → Devices → Result Report RunError → Type 0
FliesSo pairs most h d result = AreAllKnown h → (output : List StreamEntry → List ℕ) → IsOutputOf pairs h output →
    IsOutcome (records_of (length pairs)) output most d (ending_of result)
