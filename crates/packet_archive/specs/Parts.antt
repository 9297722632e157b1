-- What an import passes of an archive, part by part. This project's own.
use Rattle.std.specs.Prelude.{◌≡◌, ℕ, zero, suc, ◌+◌, List, [], ◌∷◌, ◌++◌, length, take, drop, map, Option, Some, None}
use Rattle.std.specs.List.{concat}
use Rattle.packet_archive.specs.declared.front.Resync.TheVariants.{AtEnd}
use Rattle.packet_archive.specs.declared.import.Met.{Met}
use Rattle.packet_archive.specs.Clock.{Clocked}
use Rattle.packet_archive.specs.Import.{Asking, Step, imported, next_step, passed}

-- the bytes that a step passes, with what it met: a packet that became a record or was left out, a gap of zeros, or a skipped byte;
-- the function continues with what follows
abbrev pub parts_by : (List ℕ → List (Met × List ℕ)) → Met → List ℕ → Option ℕ → List (Met × List ℕ)
parts_by others met bytes None = []
parts_by others met bytes (Some size) = (met, take size bytes) ∷ others (drop size bytes)

-- the parts that at most this number of steps pass
unfoldable pub parts_within : ℕ → Asking → Clocked → List ℕ → List (Met × List ℕ)
parts_within zero asking clock bytes = []
parts_within (suc most) asking clock bytes =
    let step : Step = next_step asking clock bytes in
    parts_by (parts_within most asking step.clock) step.met bytes (passed step.met)

-- the parts that an import passes, in order
abbrev pub parts_of : Asking → Clocked → List ℕ → List (Met × List ℕ)
parts_of asking clock bytes = parts_within (length bytes + 1) asking clock bytes

-- the bytes of parts, one behind the other
abbrev pub bytes_of : List (Met × List ℕ) → List ℕ
bytes_of parts = concat (map (λ (part : Met × List ℕ). part.1) parts)

-- Each byte of an archive is in one part or is left. An import that resynchronizes, of the last bytes of an archive, leaves none.
pub record HasPlaces (asking : Asking) (clock : Clocked) (archive : List ℕ) : Type 0 where
  pub all : bytes_of (parts_of asking clock archive) ++ (imported asking clock archive).left ≡ archive
  pub none_left : asking.resync ≡ AtEnd → (imported asking clock archive).left ≡ []

abbrev pub EachByteHasAPlace : Type 0
EachByteHasAPlace = (asking : Asking) (clock : Clocked) (archive : List ℕ) → HasPlaces asking clock archive
