use Rattle.std.proofs.Common.{◌≡◌, map, take}
use Rattle.lc_model.specs.Rule.{rules_of}
use Rattle.lc_model.specs.Tables.Equation.{terms_of}
use Rattle.lc_model.specs.Tables.InForce.{arranged}
use Rattle.lc_model.specs.Tables.Lowering.{words_in}
use Rattle.rpn_compiler.specs.Numbered.{words_of}
use Rattle.rpn_compiler.proofs.equation.words_of_rules.Given as goal

abbrev pub invariant-loop-number : goal.invariant-loop-number
invariant-loop-number l =
    words_of l.found.items ≡ map (words_in arranged (terms_of (rules_of l.rules))) (rules_of (take l.number l.rules))
