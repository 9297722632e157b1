-- The words are those of the line at the place.
use Rattle.std.proofs.Common.{◌≡◌, rules, subst, List, ℕ, Ok}
use Rattle.std.specs.Prelude.{IfErr, IfOk}
use Rattle.text_lines.specs.Lines.{texts_of}
use Rattle.scenarios.specs.Error.{IsRefused}
use Rattle.scenarios.specs.Plain.{step}
use Rattle.scenarios.proofs.Places.{same_words}
use Rattle.scenarios.proofs.plain.step_on.Goals as goal

pub returns-clause-said : goal.returns-clause-said
returns-clause-said c =
    subst (λ (words : List (List ℕ)). IfOk c.step.result (λ after. step c.args.rules.now c.args.changes.now (texts_of c.args.lines.now) words c.args.going ≡ Ok after))
    (same_words c.args.lines.now _ c.as_slice.result.now _ c.args.going c.going.inside.place (search rules) (search rules) c.as_slice.ensures.value c.in_ok-words.ensures) c.step.ensures.said

pub returns-clause-refused : goal.returns-clause-refused
returns-clause-refused c =
    subst (λ (words : List (List ℕ)). IfErr c.step.result (IsRefused (step c.args.rules.now c.args.changes.now (texts_of c.args.lines.now) words c.args.going)))
    (same_words c.args.lines.now _ c.as_slice.result.now _ c.args.going c.going.inside.place (search rules) (search rules) c.as_slice.ensures.value c.in_ok-words.ensures) c.step.ensures.refused
