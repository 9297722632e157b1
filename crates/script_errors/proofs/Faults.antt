-- The line of a reader's fault is one of the text's.
use Rattle.std.proofs.Common.{◌≡◌, ◌+◌, ◌<◌, ◌≤◌, ℕ, Bool, true, false, suc, cond, List, [], ◌∷◌, length, count_by, nat_lt, nat_le, not, refl, sym, ◌∙◌, ap, subst, arith, Option, Some, None, Result, Ok, Err}
use Rattle.std.specs.Prelude.{slice_index_or}
use Rattle.lc_model.specs.Host.Schedule.{Schedule, ScheduleEntry, most_slots, most_entries}
use Rattle.lc_model.specs.Host.ScheduleText.{ScheduleFault, entry_added, entry_in, empty_slots, is_silent, line_read, lines_of, lines_read, schedule_in, slots_in, words_of}
use Rattle.diagnostics.specs.Line.{is_line_feed}
use Rattle.text_lines.proofs.Splits.{length-parted}
use Rattle.script_errors.specs.Line.{line_count}

-- the line of a fault, or 0 where there is none
abbrev fault_line : Result Schedule ScheduleFault → ℕ
fault_line (Ok schedule) = 0
fault_line (Err fault) = fault.line

by_test : (b : Bool) (line : ℕ) (x y : Result Schedule ScheduleFault) → fault_line x ≤ line → fault_line y ≤ line → fault_line (cond b x y) ≤ line
by_test true line x y holds fails = holds
by_test false line x y holds fails = fails

of_slots : (slots : Option ℕ) (line : ℕ) → fault_line (empty_slots slots line) ≤ line
of_slots None line = omega arith
of_slots (Some n) line = by_test (nat_lt most_slots n) line _ _ (omega arith) (omega arith)

of_entry : (schedule : Schedule) (placed : Option (ℕ × ScheduleEntry)) (line : ℕ) → fault_line (entry_added schedule placed line) ≤ line
of_entry schedule None line = omega arith
of_entry schedule (Some placed) line =
    let entries : List ScheduleEntry = slice_index_or schedule placed.0 [] in
    by_test (not (nat_lt placed.0 (length schedule))) line _ _ (omega arith)
    (by_test (nat_le most_entries (length entries)) line _ _ (omega arith) (omega arith))

of_line : (known : Option Schedule) (words : List (List ℕ)) (line : ℕ) → fault_line (line_read known words line) ≤ line
of_line None words line = of_slots (slots_in words) line
of_line (Some schedule) words line = of_entry schedule (entry_in words) line

-- a line, and those behind it
abbrev goes_on : Result Schedule ScheduleFault → (Schedule → Result Schedule ScheduleFault) → Result Schedule ScheduleFault
goes_on answer next = elim answer [ Err fault ↦ Err fault | Ok schedule ↦ next schedule ]

of_more : (answer : Result Schedule ScheduleFault) (next : Schedule → Result Schedule ScheduleFault) (line count : ℕ) → fault_line answer ≤ line
    → ((schedule : Schedule) → fault_line (next schedule) < line + 1 + count) → fault_line (goes_on answer next) < line + suc count
of_more (Err fault) next line count here later = omega (arith, here)
of_more (Ok schedule) next line count here later = let l = later schedule in omega (arith, l)

by_words : (silent : Bool) (line count : ℕ) (x y : Result Schedule ScheduleFault) → fault_line x < line + 1 + count → fault_line y < line + suc count
    → fault_line (cond silent x y) < line + suc count
by_words true line count x y passed read = omega (arith, passed)
by_words false line count x y passed read = read

of_lines : (texts : List (List ℕ)) (known : Option Schedule) (line : ℕ) → 1 ≤ line → fault_line (lines_read known line texts) < line + length texts
of_lines [] None line some = omega (arith, some)
of_lines [] (Some schedule) line some = omega (arith, some)
of_lines (text ∷ texts) None line some =
    by_words (is_silent (words_of text)) line (length texts) _ _ (of_lines texts None (line + 1) (omega arith))
    (of_more (line_read None (words_of text) line) (λ schedule. lines_read (Some schedule) (line + 1) texts) line (length texts)
    (of_line None (words_of text) line) (λ schedule. of_lines texts (Some schedule) (line + 1) (omega arith)))
of_lines (text ∷ texts) (Some known) line some =
    by_words (is_silent (words_of text)) line (length texts) _ _ (of_lines texts (Some known) (line + 1) (omega arith))
    (of_more (line_read (Some known) (words_of text) line) (λ schedule. lines_read (Some schedule) (line + 1) texts) line (length texts)
    (of_line (Some known) (words_of text) line) (λ schedule. of_lines texts (Some schedule) (line + 1) (omega arith)))

-- the line of a schedule's fault is one of the text's
pub of_schedule : (text : List ℕ) (code number : ℕ) → schedule_in text ≡ Err (record { code = code; line = number }) → number ≤ line_count text
of_schedule text code number fault =
    let line : fault_line (schedule_in text) ≡ number = ap fault_line fault in
    let below = of_lines (lines_of text) None 1 (omega arith) in
    let count = length-parted is_line_feed text in
    omega (arith, line, below, count)
