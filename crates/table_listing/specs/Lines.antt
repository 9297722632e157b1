-- The lines of a listing, each without its end. This project's own.
use Rattle.std.specs.Prelude.{ℕ, List, ◌++◌, codes}
use Rattle.std.specs.Fmt.{decimal, signed_decimal}
use Rattle.lc_model.specs.declared.field.Term.{Term}
use Rattle.lc_model.specs.Tables.Image.{TableEntry}
use Rattle.lc_model.specs.Words.{type_word, comparison_sign, state_word, level_word}
use Rattle.table_listing.specs.Formula.{Formula}
use Rattle.table_listing.specs.ConditionText.{condition_text}
use Rattle.table_listing.specs.Shown.{four_digits, hex_digits, shown}

-- w0: u16be at 12 mask 0xFFFF of 0x0883 < 2400 stale 2
abbrev pub watchpoint_line : ℕ → Term → List ℕ
watchpoint_line n t =
    codes "w" ++ (decimal n ++ (codes ": " ++ (type_word t.kind ++ (codes " at " ++ (decimal t.offset ++ (codes " mask 0x" ++ (hex_digits t.mask
    ++ (codes " of 0x" ++ (four_digits t.mid ++ (codes " " ++ (comparison_sign t.op ++ (codes " " ++ (signed_decimal t.value ++ (codes " stale " ++ decimal t.stale))))))))))))))

-- a0: active fails 2 sequence 7 event error 1001 "low volts" report 0 0 0 when w0
abbrev pub actionpoint_line : ℕ → TableEntry → Formula → List ℕ
actionpoint_line n e f =
    codes "a" ++ (decimal n ++ (codes ": " ++ (state_word e.mode ++ (codes " fails " ++ (decimal e.fails ++ (codes " sequence " ++ (decimal e.sequence
    ++ (codes " event " ++ (level_word e.event_kind ++ (codes " " ++ (decimal e.event_id ++ (codes " \"" ++ (shown e.text ++ (codes "\" report "
    ++ (decimal e.report.passive ++ (codes " " ++ (decimal e.report.pass_to_fail ++ (codes " " ++ (decimal e.report.fail_to_pass
    ++ (codes " when " ++ condition_text f))))))))))))))))))))
