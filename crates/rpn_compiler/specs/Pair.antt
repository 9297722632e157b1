-- The compiled pair of a rule text. This project's own.
use Rattle.std.specs.Prelude.{◌≡◌, ℕ, List, length}
use Rattle.std.specs.List.{AllByRecursion}
use Rattle.lc_model.specs.declared.kind.Kind.TheVariants.{Wdt, Adt}
use Rattle.lc_model.specs.Rule.{NamedRule}
use Rattle.lc_model.specs.Tables.Equation.{terms_of}
use Rattle.lc_model.specs.Tables.Image.{own_count}
use Rattle.lc_model.specs.Tables.InForce.{layouts, limits, arranged}
use Rattle.lc_model.specs.Tables.Lowering.{NeedsFew}
use Rattle.lc_model.specs.Tables.Half.{HasWords, IsFileOfHalf}
use Rattle.lc_model.specs.Rule.{actions}
use Rattle.rpn_compiler.specs.declared.files.TablePair.{TablePair}

-- `pair` has both table files of `text`, whose rules are `rules`: words with the heavier operand first, a small stack depth, and
-- the two counts.
pub record AreTables (text : List ℕ) (rules : List NamedRule) (pair : TablePair) : Type 0 where
  pub wdt : IsFileOfHalf layouts Wdt pair.wdt.items text
  pub adt : IsFileOfHalf layouts Adt pair.adt.items text
  pub words : HasWords arranged (terms_of rules) (actions rules) adt.0
  pub light : AllByRecursion (NeedsFew limits arranged) rules
  pub own_watchpoints : pair.watchpoints ≡ own_count wdt.0
  pub own_rules : pair.rules ≡ own_count adt.0
  pub watchpoints_of_text : pair.watchpoints ≡ length (terms_of rules)
  pub rules_of_text : pair.rules ≡ length rules
