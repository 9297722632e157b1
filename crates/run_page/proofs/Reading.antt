-- What is read of a stream, piece by piece.
use Rattle.std.proofs.Common.{◌≡◌, ℕ, List, ◌++◌, length, Option}
use Rattle.std.specs.Io.KnownBytes.{Consumes}
use Rattle.std.proofs.KnownBytes.{Consumes-trans}
use Rattle.sha2.specs.Sha256.{sha256}
use Rattle.run_account.specs.Clock.{capped}
use Rattle.run_page.specs.declared.intake.Intake.{Intake}
use Rattle.run_page.specs.Reading.{HasRead, IsMeasured, ReadsRest}

-- these bytes of a source were read after `front`
pub record ReadsOn (before now : Option (List ℕ)) (front : List ℕ) (it : Intake) : Type 0 where
  pub taken : List ℕ
  pub consumes : Consumes before now taken
  pub read : HasRead it (front ++ taken)

-- some bytes of a source were read, and then the rest
pub measured : (first then last : Option (List ℕ)) (it : Intake) (bytes : ℕ) (digest taken : List ℕ) → Consumes first then taken → ReadsRest then last taken it →
    ((stream : List ℕ) → HasRead it stream → bytes ≡ capped (length stream)) → ((stream : List ℕ) → HasRead it stream → digest ≡ sha256 stream) → IsMeasured first last bytes digest
measured first then last it bytes digest taken consumes rest counted hashed = record {
  taken = taken ++ rest.taken;
  consumes = Consumes-trans first then last taken rest.taken consumes rest.consumes;
  at_end = rest.at_end;
  counted = counted (taken ++ rest.taken) rest.read;
  hashed = hashed (taken ++ rest.taken) rest.read;
}
