use Rattle.std.proofs.Common.{◌∙◌, ◌<◌, ap, fold, List, ℕ, length, sym, arith, rules}
use Rattle.std.proofs.Math.Seq.{take_all}
use Rattle.std.proofs.lemmas.List.Sums.{fold_more}
use Rattle.lc_model.specs.Tables.Image.{first_code, all_words}
use Rattle.table_validator.specs.declared.equation_words.WordScan.{WordScan}
use Rattle.table_validator.specs.Scan.{unread, word_read, scan_tests}
use Rattle.table_validator.proofs.Reading.{read_to_the_end, words_are_read}
use Rattle.table_validator.proofs.equation_words.words_fault.Goals as goal

pub returns : goal.returns
returns c =
    let ws : List ℕ = all_words c.args.entry.now in
    let all = take_all c.loop-number.number ws (omega arith) in
    c.fault-2.ensures
    ∙ ap (λ (scan : WordScan). first_code (scan_tests scan)) (c.loop-number.invariant.read ∙ ap (fold (word_read c.args.watchpoints) unread) all)
    ∙ words_are_read c.args.watchpoints ws

pub returns-then-scan : goal.returns-then-scan
returns-then-scan c =
    let ws : List ℕ = all_words c.args.entry.now in
    let test = c.loop-number-test.true in
    let end = c.word_count-number-end.ensures in
    let within : c.loop-number.number < length ws = omega (arith, test, end) in
    c.fault.ensures
    ∙ ap (λ (scan : WordScan). first_code (scan_tests scan))
    (read_to_the_end c.args.watchpoints ws c.loop-number.number c.loop-number.scan c.read.new.self c.read_behind.new.self within c.loop-number.invariant.read
    (c.read.ensures ∙ ap (word_read c.args.watchpoints c.loop-number.scan) c.word.ensures) (c.read_behind.ensures c.args.watchpoints))
    ∙ words_are_read c.args.watchpoints ws

pub loop-number-preserved : goal.loop-number-preserved
loop-number-preserved c = record {
  read =
      c.read.ensures
      ∙ (λ i. word_read c.args.watchpoints (c.loop-number.invariant.read i) (c.word.ensures i))
      ∙ sym (fold_more (word_read c.args.watchpoints) unread (all_words c.args.entry.now) c.loop-number.number 0
      (let test = c.loop-number-test.true in let end = c.word_count-number-end.ensures in omega (arith, test, end)));
  goes_on = c.if-scan.false;
  mentions = search rules;
  joins = search rules;
}
