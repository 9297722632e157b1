-- The facts on which readers of a sound image may rely. This project's own.
use Rattle.std.specs.Prelude.{◌≡◌, ◌≢◌, ℕ, ◌<◌, ◌≤◌, ◌⊎◌, ◌==◌, List, length, take, Some, None, unwrap_or, slice_index, IsTrue}
use Rattle.std.specs.List.{list_all}
use Rattle.lc_model.specs.declared.kind.Kind.{Kind}
use Rattle.lc_model.specs.declared.kind.Kind.TheVariants.{Adt}
use Rattle.lc_model.specs.Codes.{operator_code, state_code, event_code, table_entries}
use Rattle.lc_model.specs.Field.{full_mask, is_in_type}
use Rattle.lc_model.specs.Packet.{is_telemetry_mid, event_mid, lc_housekeeping_mid}
use Rattle.lc_model.specs.Tables.Entry.{operator_field, type_field, event_id_field, event_type_field, fails_field, sequence_field, state_field, text_field}
use Rattle.lc_model.specs.Condition.{And}
use Rattle.lc_model.specs.Tables.Equation.{operator_word, not_word, IsEquation, waiting}
use Rattle.lc_model.specs.Tables.Image.{Layout, Watchpoints, Actionpoints, kind_of, image_length, layout_of, own_count, watchpoint_count, entry_at, all_words, words_before_equal, words_after_equal, operands_of, type_of_code, is_text_field, first_code, equation_tests, most_waiting}
use Rattle.lc_model.specs.Tables.InForce.{layouts}
use Rattle.lc_model.specs.Tables.Spelled.{spelled_term, state_of_code, event_of_code}

-- An image, and the table for which it is sound.
pub record TableImage : Type 0 where
  pub kind : Kind
  pub bytes : List ℕ

-- ---- watchpoints

-- A WDT entry has a known type and comparison, a message id that a rule may watch, and a mask and a comparison value in the
-- type's range.
pub record IsSoundWatchpoint (e : List ℕ) : Type 0 where
  pub has_type : type_of_code (type_field e) ≡ Some (spelled_term e).kind
  pub has_operator : operator_code (spelled_term e).op ≡ operator_field e
  pub telemetry : IsTrue (is_telemetry_mid (spelled_term e).mid)
  pub no_event : (spelled_term e).mid ≢ event_mid
  pub no_housekeeping : (spelled_term e).mid ≢ lc_housekeeping_mid
  pub mask_from : 1 ≤ (spelled_term e).mask
  pub mask_to : (spelled_term e).mask ≤ full_mask (spelled_term e).kind
  pub value : IsTrue (is_in_type (spelled_term e).kind (spelled_term e).value)

-- A WDT image has its size and at most 176 entries, and each used entry is sound.
pub record HasSoundWatchpoints (image : List ℕ) : Type 0 where
  pub size : length image ≡ image_length Watchpoints
  pub own : own_count image ≤ table_entries
  pub same : watchpoint_count image ≡ own_count image
  pub each : (n : ℕ) → n < own_count image → IsSoundWatchpoint (entry_at Watchpoints image n)

-- ---- equations

-- At word `n` the evaluation finds a watchpoint below the count or an operator, enough operands for it, and at most eight
-- operands on the stack.
pub record IsMet (count : ℕ) (ws : List ℕ) (n : ℕ) : Type 0 where
  pub known : (slice_index ws n < count) ⊎ ((operator_word And ≤ slice_index ws n) × (slice_index ws n ≤ not_word))
  pub enough : operands_of (slice_index ws n) ≤ waiting (take n ws)
  pub few : waiting (take n ws) ≤ most_waiting

-- The words can be evaluated over this number of watchpoints. They pass the tests of equations and spell a condition with a
-- `need` of at most 8. So each word is valid in turn, and EQUAL finds one operand.
pub record IsSoundEquation (count : ℕ) (ws : List ℕ) : Type 0 where
  pub passes : first_code (equation_tests count ws) ≡ None
  pub need : ℕ
  pub few : need ≤ most_waiting
  pub spells : IsEquation count ws need
  pub met : (n : ℕ) → n < length ws → IsMet count ws n
  pub one_left : waiting ws ≡ 1

-- ---- actionpoints

-- An ADT entry has a known default state, event and text, an equation that can be evaluated, and a sequence and `fails` that
-- are not 0.
pub record IsSoundActionpoint (count : ℕ) (e : List ℕ) : Type 0 where
  pub has_state : state_code (state_of_code (state_field e)) ≡ state_field e
  pub has_event : event_code (event_of_code (event_type_field e)) ≡ event_type_field e
  pub event_id : 1_000 ≤ event_id_field e
  pub text : IsTrue (is_text_field (text_field e))
  pub ends : length (words_before_equal (all_words e)) < length (all_words e)
  pub nothing_behind : IsTrue (list_all (◌==◌ 0) (words_after_equal (all_words e)))
  pub equation : IsSoundEquation count (words_before_equal (all_words e))
  pub sequence : sequence_field e ≢ 0
  pub fails : fails_field e ≢ 0

-- The layout of an ADT image, by its length.
unfoldable pub adt_layout : List ℕ → Layout
adt_layout image = unwrap_or (layout_of layouts Adt image) Actionpoints

-- An ADT image has the size of its layout and at most 176 entries, and each used entry is sound.
pub record HasSoundActionpoints (image : List ℕ) : Type 0 where
  pub layout : layout_of layouts Adt image ≡ Some (adt_layout image)
  pub kind : kind_of (adt_layout image) ≡ Adt
  pub size : length image ≡ image_length (adt_layout image)
  pub own : own_count image ≤ table_entries
  pub watchpoints : watchpoint_count image ≤ table_entries
  pub each : (n : ℕ) → n < own_count image → IsSoundActionpoint (watchpoint_count image) (entry_at (adt_layout image) image n)
