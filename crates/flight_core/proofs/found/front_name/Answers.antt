use Rattle.std.proofs.Common.{◌≤◌, ℕ, length, List, take, arith}
use Rattle.std.proofs.lemmas.List.{length-take}
use Rattle.flight_core.proofs.found.front_name.Goals as goal

few : (name body : List ℕ) → length name ≤ length (take 40 body) → length name ≤ 40
few name body inside = omega (arith, inside, length-take 40 body)

pub returns-clause-few : goal.returns-clause-few
returns-clause-few c = few c.name_in.result.now c.args.body.now c.name_in.ensures.inside
