-- What each record leads to, one behind the other, is what is written over all.
use Rattle.std.proofs.Common.{refl, sym, ◌∙◌, ap, ℕ, List, [], ◌∷◌, ◌++◌}
use Rattle.std.specs.List.{concat}
use Rattle.std.proofs.lemmas.List.Folds.{concat-append}
use Rattle.lc_model.specs.Host.Run.{input_of}
use Rattle.lc_model.specs.Kept.Executive.{Written, step_by, written_from}
use Rattle.app_host.specs.Shared.{on_board}
use Rattle.run_stepper.specs.Trace.{PartsAreTheOutput, parts_from}

pub parts_are_the_output : PartsAreTheOutput
unfolding parts_from written_from
parts_are_the_output meanings e [] = refl
parts_are_the_output meanings e (entry ∷ entries) =
    let step : Written (List ℕ) = step_by on_board entry.moment e (input_of meanings entry.contents) in
    ap (λ bytes. concat step.1 ++ bytes) (parts_are_the_output meanings step.0 entries)
    ∙ sym (concat-append step.1 (written_from on_board step.0 meanings entries))
