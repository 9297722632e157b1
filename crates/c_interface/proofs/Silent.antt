-- Where nothing is refused nothing is said.
use Rattle.std.proofs.Common.{◌≡◌, ◌<◌, ℕ, Result, Ok, Err, IfOk, IfErr, arith}
use Rattle.flight_core.specs.declared.error.Report.{Report}
use Rattle.flight_core.specs.declared.error.RunError.{RunError}
use Rattle.c_interface.specs.declared.sentence.Sentence.{Sentence}
use Rattle.c_interface.specs.Said.{no_sentence}

pub silent_where_done : (answer : Result Report RunError) (code : ℕ) (sentence : Sentence) → IfErr answer (λ _. 0 < code)
    → IfOk answer (λ _. sentence ≡ no_sentence) → code ≡ 0 → sentence ≡ no_sentence
silent_where_done (Ok report) code sentence some none done = none
silent_where_done (Err error) code sentence some none done = absurd (omega (arith, some, done))
