-- A pass over the words of an entry: its state after each word, and the tests that it decides. This project's own.
use Rattle.std.specs.Prelude.{ℕ, ◌+◌, ◌-◌, Bool, true, false, not, ◌&&◌, ◌||◌, if◌then◌else◌, nat_lt, nat_le, ◌==◌, List, [], ◌∷◌}
use Rattle.std.specs.List.{list_any, list_all}
use Rattle.std.specs.Int.{is_in_range}
use Rattle.lc_model.specs.Codes.{table_entries}
use Rattle.lc_model.specs.Condition.{And}
use Rattle.lc_model.specs.Tables.Equation.{operator_word, not_word, equal_word, is_mention, is_binary}
use Rattle.lc_model.specs.Tables.Image.{operands_of, most_waiting, words_before_equal, words_after_equal, equation_tests}
use Rattle.table_validator.specs.declared.operands.OperandCount.{OperandCount}
use Rattle.table_validator.specs.declared.equation_words.WordScan.{WordScan}

-- The number of operands on the stack.
abbrev pub operands_waiting : OperandCount → ℕ
operands_waiting o = o.mentions - o.joins

-- The counts of operands after one more word.
abbrev pub word_counted : OperandCount → ℕ → OperandCount
word_counted o w = record {
  mentions = o.mentions + (if is_mention w then 1 else 0);
  joins = o.joins + (if is_binary w then 1 else 0);
  missing = o.missing || nat_lt (operands_waiting o) (operands_of w);
  crowded = o.crowded || nat_lt most_waiting (operands_waiting o);
}

-- The pass before the first word.
abbrev pub unread : WordScan
unread = record {
  ended = false;
  word_behind = false;
  unknown_word = false;
  unknown_watchpoint = false;
  operands = record { mentions = 0; joins = 0; missing = false; crowded = false };
}

-- The pass after one more word, over `count` watchpoints.
abbrev pub word_read : ℕ → WordScan → ℕ → WordScan
word_read count scan w =
    if scan.ended then record scan { word_behind = scan.word_behind || not (0 == w) }
    else if w == equal_word then record scan { ended = true; operands = word_counted scan.operands w }
    else record scan {
      unknown_word = scan.unknown_word || not (nat_lt w table_entries || is_in_range (operator_word And) not_word w);
      unknown_watchpoint = scan.unknown_watchpoint || (nat_lt w table_entries && nat_le count w);
      operands = word_counted scan.operands w;
    }

-- The tests that the pass has decided, by ascending code (74 to 80).
abbrev pub scan_tests : WordScan → List (Bool × ℕ)
scan_tests scan =
    (not scan.ended, 74)
    ∷ (scan.word_behind, 75)
    ∷ (scan.unknown_word, 76)
    ∷ (scan.unknown_watchpoint, 77)
    ∷ (scan.operands.missing, 78)
    ∷ (scan.operands.crowded, 79)
    ∷ (nat_lt 1 (operands_waiting scan.operands), 80) ∷ []

-- The tests of an entry's words, by ascending code (74 to 80).
abbrev pub word_tests : ℕ → List ℕ → List (Bool × ℕ)
word_tests count ws =
    (not (list_any (◌==◌ equal_word) ws), 74)
    ∷ (not (list_all (◌==◌ 0) (words_after_equal ws)), 75)
    ∷ equation_tests count (words_before_equal ws)
