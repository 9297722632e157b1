use Rattle.std.proofs.Common.{◌≡◌, List, map, take, drop}
use Rattle.lc_model.specs.declared.field.Term.{Term}
use Rattle.lc_model.specs.Rule.{rules_of}
use Rattle.lc_model.specs.Tables.Half.{entry_over}
use Rattle.lc_model.specs.Tables.InForce.{arranged}
use Rattle.lc_model.specs.Tables.Lowering.{words_in}
use Rattle.rpn_compiler.specs.Numbered.{words_of}
use Rattle.rpn_compiler.proofs.images.entries.Given as goal

abbrev pub invariant-loop-number : goal.invariant-loop-number
invariant-loop-number l =
    (l.number-iterator.iter.rest.items ≡ drop l.number-iterator.count l.fn.words.items)
    × ((terms : List Term) → words_of l.fn.words.items ≡ map (words_in arranged terms) (rules_of l.rules)
    → l.entries.items ≡ map (entry_over arranged terms) (rules_of (take l.number-iterator.count l.rules)))
