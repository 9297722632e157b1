-- The bytes that the page of a run has read of a stream, and the records that it was shown. This project's own.
use Rattle.std.specs.Prelude.{◌≡◌, ℕ, List, ◌++◌, length, Option}
use Rattle.run_account.specs.Account.{IsAccountOf}
use Rattle.run_account.specs.Clock.{capped}
use Rattle.run_account.specs.declared.account.RunAccount.{RunAccount}
use Rattle.std.specs.Io.KnownBytes.{Consumes, IsAtEnd}
use Rattle.sha2.specs.Sha256.{sha256}
use Rattle.sha2.specs.Hashers.{Holds256}
use Rattle.lc_model.specs.Host.Schedule.{Schedule}
use Rattle.flight_core.specs.Feeding.{Feeding}
use Rattle.run_stepper.specs.Stepping.{BeginsWith}
use Rattle.run_stepper.specs.Steps.{Step}
use Rattle.run_stepper.specs.Watching.{Watched}
use Rattle.run_stepper.specs.declared.ending.Ending.{Ending}
use Rattle.run_page.specs.declared.intake.Intake.{Intake}

-- these bytes were counted and hashed
pub record HasRead (it : Intake) (taken : List ℕ) : Type 0 where
  pub counted : it.count ≡ capped (length taken)
  pub hashed : Holds256 it.hasher taken

-- these bytes were counted and hashed, and these records were taken into an account
pub record HasSeen (it : Intake) (account : RunAccount) (taken : List ℕ) (steps : List Step) : Type 0 where
  pub read : HasRead it taken
  pub looked : IsAccountOf account steps

-- after `front` the rest of a source was read to its end
pub record ReadsRest (before now : Option (List ℕ)) (front : List ℕ) (it : Intake) : Type 0 where
  pub taken : List ℕ
  pub consumes : Consumes before now taken
  pub at_end : IsAtEnd now
  pub read : HasRead it (front ++ taken)

-- a source was read to its end: this number of bytes, with this SHA-256
pub record IsMeasured (before now : Option (List ℕ)) (bytes : ℕ) (digest : List ℕ) : Type 0 where
  pub taken : List ℕ
  pub consumes : Consumes before now taken
  pub at_end : IsAtEnd now
  pub counted : bytes ≡ capped (length taken)
  pub hashed : digest ≡ sha256 taken

-- A new host with these texts under this schedule was watched over a source: each record was shown once and in order, and `account` is
-- that of these records.
pub record IsShown (sources : List (List ℕ)) (schedule : Schedule) (before : Option (List ℕ)) (account : RunAccount) (ending : Ending) : Type 0 where
  pub first : Feeding
  pub begins : BeginsWith sources schedule first
  pub between : Option (List ℕ)
  pub watched : Watched first before between (λ taken steps. IsAccountOf account steps) ending
