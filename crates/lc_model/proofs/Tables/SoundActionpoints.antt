-- A sound entry of an actionpoint is spelled by the actionpoint that is read of it.
use Rattle.std.proofs.Common.{◌≡◌, ◌≢◌, refl, sym, ◌∙◌, ap, ℕ, ◌+◌, ◌-◌, ◌*◌, ◌<◌, ◌≤◌, true, false, not, ◌&&◌, nat_lt, nat_le, ◌==◌, List, [], ◌∷◌, ◌++◌, length, flat_map, drop, take_while, replicate, None, arith, length-drop, length-take-le}
use Rattle.std.specs.List.{AllByRecursion, list_any, list_all}
use Rattle.std.specs.Int.{is_in_range}
use Rattle.std.proofs.lemmas.List.Folds.{drop_split}
use Rattle.lc_model.specs.declared.field.Term.{Term}
use Rattle.lc_model.specs.Bytes.{u16, zero_filled}
use Rattle.lc_model.specs.Name.{name_in}
use Rattle.lc_model.specs.Codes.{state_code, event_code, table_entries}
use Rattle.lc_model.specs.Condition.{Condition}
use Rattle.lc_model.specs.Text.Token.{is_text_byte}
use Rattle.lc_model.specs.Tables.Equation.{SpellsInOrder, IsEquation, equal_word}
use Rattle.lc_model.specs.Tables.Image.{Layout, words_in, entry_bytes, FitsEntry, EndsOnce, all_words, words_before_equal, words_after_equal, is_text_field, equation_tests, most_waiting, actionpoint_code, actionpoint_tests}
use Rattle.lc_model.specs.Tables.Spelled.{state_of_code, event_of_code, read_entry}
use Rattle.lc_model.specs.Laws.Equations.{IsSpelled}
use Rattle.lc_model.specs.Tables.Entry.{event_id_field, event_type_field, fail_to_pass_field, fails_field, pass_to_fail_field, passive_field, sequence_field, state_field, text_field, words_field}
use Rattle.lc_model.proofs.Tables.SoundWords.{none_stands, stands_none, sound_words_spell}
use Rattle.lc_model.proofs.Facts.{or_first, not_false, and_first, and_second, tested_at_most, tested_less}
use Rattle.lc_model.proofs.Tables.SpelledEquations.{condition_of_equation}
use Rattle.lc_model.proofs.Tables.FileLaws.{bytes_behind, each_byte, with_part}
use Rattle.lc_model.proofs.Tables.SoundImages.{below_2_16, two_at}
use Rattle.lc_model.proofs.Tables.SoundFields.{IsTextField, text_again, HoldsWords, words_again, IsWordField, equation_again}
use Rattle.lc_model.proofs.CodesAgain.{state_again, event_again}

-- ---- tests

-- ---- codes

state_in_range : (n : ℕ) → not (is_in_range 1 3 n) ≡ false → state_code (state_of_code n) ≡ n
state_in_range n e =
    let range : (nat_le 1 n && nat_le n 3) ≡ true = not_false (nat_le 1 n && nat_le n 3) e in
    state_again n (tested_at_most 1 n (and_first (nat_le 1 n) (nat_le n 3) range)) (tested_at_most n 3 (and_second (nat_le 1 n) (nat_le n 3) range))

event_in_range : (n : ℕ) → not (is_in_range 1 4 n) ≡ false → event_code (event_of_code n) ≡ n
event_in_range n e =
    let range : (nat_le 1 n && nat_le n 4) ≡ true = not_false (nat_le 1 n && nat_le n 4) e in
    event_again n (tested_at_most 1 n (and_first (nat_le 1 n) (nat_le n 4) range)) (tested_at_most n 4 (and_second (nat_le 1 n) (nat_le n 4) range))

-- ---- the parts of an entry

-- the bytes of an entry, by its places
by_places : (e : List ℕ) → AllByRecursion (λ b. b < 256) e → 46 ≤ length e →
    e ≡ state_field e ∷ passive_field e ∷ u16 (pass_to_fail_field e) ++ u16 (fail_to_pass_field e) ++ u16 (sequence_field e) ++ u16 (fails_field e) ++ u16 (event_type_field e)
    ++ u16 (event_id_field e) ++ text_field e ++ words_field e
by_places [] all long = absurd (omega (arith, long))
by_places (a ∷ []) all long = absurd (omega (arith, long))
by_places (a ∷ b ∷ bytes) all long =
    let e : List ℕ = a ∷ b ∷ bytes in
    let to_2 : List ℕ = a ∷ b ∷ [] in
    let to_4 : List ℕ = to_2 ++ u16 (pass_to_fail_field e) in
    let to_6 : List ℕ = to_4 ++ u16 (fail_to_pass_field e) in
    let to_8 : List ℕ = to_6 ++ u16 (sequence_field e) in
    let to_10 : List ℕ = to_8 ++ u16 (fails_field e) in
    let to_12 : List ℕ = to_10 ++ u16 (event_type_field e) in
    let to_14 : List ℕ = to_12 ++ u16 (event_id_field e) in
    with_part e to_14 (text_field e) 14 46 (drop_split e 14 46 (omega arith))
    (with_part e to_12 (u16 (event_id_field e)) 12 14 (two_at e 12 14 all refl (omega (arith, long)))
    (with_part e to_10 (u16 (event_type_field e)) 10 12 (two_at e 10 12 all refl (omega (arith, long)))
    (with_part e to_8 (u16 (fails_field e)) 8 10 (two_at e 8 10 all refl (omega (arith, long)))
    (with_part e to_6 (u16 (sequence_field e)) 6 8 (two_at e 6 8 all refl (omega (arith, long)))
    (with_part e to_4 (u16 (fail_to_pass_field e)) 4 6 (two_at e 4 6 all refl (omega (arith, long)))
    (with_part e to_2 (u16 (pass_to_fail_field e)) 2 4 (two_at e 2 4 all refl (omega (arith, long))) refl))))))

-- the text that is read of an entry
record HasText (e : List ℕ) : Type 0 where
  again : zero_filled 32 (name_in (text_field e)) ≡ text_field e
  each : AllByRecursion (λ b. (0 < b) × (b < 256)) (name_in (text_field e))
  short : length (name_in (text_field e)) < 32

has_text : (e : List ℕ) → 46 ≤ length e → is_text_field (text_field e) ≡ true → HasText e
has_text e long sound =
    let field : List ℕ = text_field e in
    let text : List ℕ = take_while is_text_byte field in
    let size : length field ≡ 32 = length-take-le 32 (drop 14 e) (omega (arith, length-drop 14 e, long)) in
    let read : IsTextField field = text_again field (and_second (nat_lt (length text) 32) (list_all (◌==◌ 0) (drop (length text) field)) sound) in
    let few : length text < 32 = tested_less (length text) 32 (and_first (nat_lt (length text) 32) (list_all (◌==◌ 0) (drop (length text) field)) sound) in
    record {
      again = ap (λ n. name_in field ++ replicate (n - length (name_in field)) 0) (sym size) ∙ read.again;
      each = read.each;
      short = omega (arith, read.long, few);
    }

-- the words that are read of an entry
record HasEquation (l : Layout) (e : List ℕ) : Type 0 where
  again : flat_map u16 (zero_filled (words_in l) (words_before_equal (all_words e) ++ equal_word ∷ [])) ≡ words_field e
  each : AllByRecursion (λ w. w < 65536) (words_before_equal (all_words e))
  once : AllByRecursion (λ w. w ≢ equal_word) (words_before_equal (all_words e))
  short : length (words_before_equal (all_words e)) < words_in l

has_equation : (l : Layout) (e : List ℕ) → AllByRecursion (λ b. b < 256) e → length e ≡ 46 + 2 * words_in l →
    list_any (◌==◌ equal_word) (all_words e) ≡ true → list_all (◌==◌ 0) (words_after_equal (all_words e)) ≡ true → HasEquation l e
has_equation l e all long ends behind =
    let ws : List ℕ = all_words e in
    let held : HoldsWords (words_in l) (words_field e) = words_again (words_in l) (words_field e) (bytes_behind 46 e all) (omega (arith, length-drop 46 e, long)) in
    let read : IsWordField ws = equation_again ws held.each ends behind in
    let front : List ℕ = words_before_equal ws ++ equal_word ∷ [] in
    record {
      again = ap (flat_map u16) (ap (λ n. front ++ replicate (n - length front) 0) (sym held.long) ∙ read.again) ∙ held.again;
      each = read.each;
      once = read.once;
      short = omega (arith, read.short, held.long);
    }

-- ---- an entry

-- an entry that is read as an actionpoint over these terms
pub record IsActionpoint (l : Layout) (terms : List Term) (e : List ℕ) : Type 0 where
  pub again : entry_bytes l (read_entry e) ≡ e
  pub fits : FitsEntry l (read_entry e)
  pub once : EndsOnce (read_entry e)
  pub condition : Condition
  pub spells : SpellsInOrder terms (words_before_equal (all_words e)) condition

-- an entry without a fault is one
pub actionpoint_again : (l : Layout) (terms : List Term) (e : List ℕ) → length terms ≤ table_entries → AllByRecursion (λ b. b < 256) e →
    length e ≡ 46 + 2 * words_in l → actionpoint_code (length terms) e ≡ None → IsActionpoint l terms e
actionpoint_again l terms e few all long sound =
    let ws : List ℕ = words_before_equal (all_words e) in
    let tests : AllByRecursion (λ t. t.0 ≡ false) (actionpoint_tests (length terms) e) = none_stands (actionpoint_tests (length terms) e) sound in
    let behind = tests.1.1.1.1.1 in
    let state : state_code (state_of_code (state_field e)) ≡ state_field e = state_in_range (state_field e) tests.0 in
    let event : event_code (event_of_code (event_type_field e)) ≡ event_type_field e =
    event_in_range (event_type_field e) (or_first (not (is_in_range 1 4 (event_type_field e))) (nat_lt (event_id_field e) 1_000) tests.1.0) in
    let text : HasText e = has_text e (omega (arith, long)) (not_false (is_text_field (text_field e)) tests.1.1.0) in
    let equation : HasEquation l e =
    has_equation l e all long (not_false (list_any (◌==◌ equal_word) (all_words e)) tests.1.1.1.0)
    (not_false (list_all (◌==◌ 0) (words_after_equal (all_words e))) tests.1.1.1.1.0) in
    let spelled : (k : ℕ) × (k ≤ most_waiting) × IsEquation (length terms) ws k =
    (sound_words_spell (length terms) ws few).0 (stands_none (equation_tests (length terms) ws)
    (behind.0, (behind.1.0, (behind.1.1.0, (behind.1.1.1.0, (behind.1.1.1.1.0, tt)))))) in
    let condition : IsSpelled terms ws spelled.0 = condition_of_equation terms spelled.2 in
    record {
      again =
          (λ i. state i ∷ passive_field e ∷ u16 (pass_to_fail_field e) ++ u16 (fail_to_pass_field e) ++ u16 (sequence_field e) ++ u16 (fails_field e) ++ u16 (event i)
          ++ u16 (event_id_field e) ++ text.again i ++ equation.again i)
          ∙ sym (by_places e all (omega (arith, long)));
      fits = record {
        passive = each_byte e all 1;
        pass_to_fail = below_2_16 e 2 all;
        fail_to_pass = below_2_16 e 4 all;
        sequence = below_2_16 e 6 all;
        fails = below_2_16 e 8 all;
        event_id = below_2_16 e 12 all;
        text_length = text.short;
        text = text.each;
        words_length = equation.short;
        words = equation.each;
      };
      once = equation.once;
      condition = condition.0;
      spells = condition.1;
    }
