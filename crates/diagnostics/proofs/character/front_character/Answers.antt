use Rattle.std.proofs.Common.{sym, ◌∙◌, subst, ◌<◌, ◌≤◌, length}
use Rattle.diagnostics.proofs.Decoding.{within_decoded}
use Rattle.diagnostics.proofs.character.front_character.Goals as goal

pub returns-in-Some-default-clause-some : goal.returns-in-Some-default-clause-some
returns-in-Some-default-clause-some c =
    subst (λ size. 0 < size) (sym c.decode.ensures.size)
    (within_decoded c.args.rest.now c.in-Some-default.character (sym c.decode.ensures.char ∙ c.in-Some-default.is-0)).0

pub returns-in-Some-default-clause-within : goal.returns-in-Some-default-clause-within
returns-in-Some-default-clause-within c =
    subst (λ size. size ≤ length c.args.rest.now) (sym c.decode.ensures.size)
    (within_decoded c.args.rest.now c.in-Some-default.character (sym c.decode.ensures.char ∙ c.in-Some-default.is-0)).1
