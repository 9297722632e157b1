-- Rules as watchpoints and words. This project's own.
use Rattle.std.specs.Prelude.{◌≡◌, List, map}
use Rattle.lc_model.specs.Rule.{NamedRule}
use Rattle.lc_model.specs.Tables.Equation.{terms_of}
use Rattle.lc_model.specs.Tables.InForce.{arranged}
use Rattle.lc_model.specs.Tables.Lowering.{words_in}
use Rattle.rpn_compiler.specs.Numbered.{words_of}
use Rattle.rpn_compiler.specs.declared.lowered.Lowered.{Lowered}

-- `l` has the distinct watchpoints of the rules, and the words of each rule's condition.
pub record IsLowered (rules : List NamedRule) (l : Lowered) : Type 0 where
  pub watchpoints : l.terms.items ≡ terms_of rules
  pub words : words_of l.words.items ≡ map (words_in arranged l.terms.items) rules
