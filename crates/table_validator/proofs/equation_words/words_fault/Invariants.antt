use Rattle.std.proofs.Common.{◌≡◌, ◌≤◌, false, fold, take}
use Rattle.lc_model.specs.Tables.Image.{all_words}
use Rattle.table_validator.specs.Scan.{unread, word_read}
use Rattle.table_validator.proofs.equation_words.words_fault.Given as goal

abbrev pub invariant-loop-number : goal.invariant-loop-number
invariant-loop-number l = record {
  read : l.scan ≡ fold (word_read l.watchpoints) unread (take l.number (all_words l.entry));
  goes_on : l.scan.ended ≡ false;
  mentions : l.scan.operands.mentions ≤ l.number;
  joins : l.scan.operands.joins ≤ l.number;
}
