use Rattle.std.proofs.Common.{◌≡◌, ◌||◌, ◌==◌, not, drop}
use Rattle.std.specs.List.{list_all}
use Rattle.lc_model.specs.Tables.Image.{all_words}
use Rattle.table_validator.proofs.equation_words.has_word_from.Given as goal

abbrev pub invariant-loop-number : goal.invariant-loop-number
invariant-loop-number l =
    (l.found || not (list_all (◌==◌ 0) (drop l.number (all_words l.entry)))) ≡ not (list_all (◌==◌ 0) (drop l.first (all_words l.entry)))
