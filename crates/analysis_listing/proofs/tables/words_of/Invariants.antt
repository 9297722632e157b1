use Rattle.std.proofs.Common.{◌≡◌, take}
use Rattle.lc_model.specs.Tables.Image.{all_words, words_before_equal}
use Rattle.analysis_listing.proofs.tables.words_of.Given as goal

abbrev pub invariant-loop-number : goal.invariant-loop-number
invariant-loop-number l = l.words.items ≡ take l.number (words_before_equal (all_words l.entry))
