use Rattle.std.proofs.Common.{◌≡◌, ◌+◌, take, count_by, vec_len}
use Rattle.lc_model.specs.Tables.Equation.{is_mention, is_binary}
use Rattle.table_listing.specs.Formula.{AreNumbers, mentioned_by_all, words_of_all}
use Rattle.table_listing.proofs.decompiler.decompile.Given as goal

abbrev pub invariant-loop-word : goal.invariant-loop-word
invariant-loop-word l =
    (words_of_all l.waiting.items ≡ take l.word-index l.words)
    × AreNumbers (mentioned_by_all l.waiting.items)
    × (vec_len l.waiting + count_by is_binary (take l.word-index l.words) ≡ count_by is_mention (take l.word-index l.words))
