-- What a sound image gives its readers.
use Rattle.std.proofs.Common.{◌≡◌, refl, sym, ap, ◌∙◌, subst, ℕ, ◌<◌, ◌≤◌, Bool, true, false, not, ◌&&◌, ◌||◌, nat_lt, nat_le, ◌==◌, List, [], ◌∷◌, length, Option, Some, None, is_none, unwrap_or, arith}
use Rattle.std.specs.List.{AllByRecursion, list_any, list_all}
use Rattle.std.specs.Option.{option_map_or}
use Rattle.std.specs.Int.{is_in_range}
use Rattle.lc_model.specs.declared.kind.Kind.TheVariants.{Wdt, Adt}
use Rattle.lc_model.specs.declared.field.FieldType.{FieldType}
use Rattle.lc_model.specs.declared.field.FieldType.TheVariants.{U8}
use Rattle.lc_model.specs.Bytes.{u16_at}
use Rattle.lc_model.specs.Codes.{kind_code, is_kind, table_entries}
use Rattle.lc_model.specs.Field.{full_mask, is_in_type}
use Rattle.lc_model.specs.Packet.{is_telemetry_mid, event_mid, lc_housekeeping_mid, reserved_mids}
use Rattle.lc_model.specs.Tables.Entry.{mask_field, mid_field, operator_field, type_field, value_field, event_id_field, event_type_field, fails_field, sequence_field, state_field, text_field}
use Rattle.lc_model.specs.Tables.Equation.{equal_word}
use Rattle.lc_model.specs.Tables.Image as model
use Rattle.lc_model.specs.Tables.Image.{Watchpoints, Actionpoints, WideActionpoints, image_length, own_count, watchpoint_count, entry_at, entry_code, used_code, preamble_code, IsSound, all_words, words_before_equal, words_after_equal, type_of_code, twos_complement_32, is_text_field, first_code, equation_tests, most_waiting, actionpoint_code, watchpoint_code, watchpoint_tests, actionpoint_tests}
use Rattle.lc_model.specs.Tables.InForce.{layouts}
use Rattle.lc_model.specs.Tables.Spelled.{spelled_term}
use Rattle.lc_model.proofs.Tables.SoundWords.{none_stands, stands_none}
use Rattle.lc_model.proofs.Facts.{tested_not_less, or_second, or_first, not_false, and_first, and_second, tested_at_most, test_less, tested_equal, tested_unequal}
use Rattle.lc_model.proofs.Tables.SoundImages.{SoundParts, sound_parts, operator_again}
use Rattle.lc_model.proofs.CodesAgain.{state_again, event_again}
use Rattle.table_validator.specs.Sound.{adt_layout, IsSoundWatchpoint, IsSoundActionpoint, HasSoundWatchpoints, HasSoundActionpoints}
use Rattle.table_validator.proofs.FirstFault.{same_kind}
use Rattle.table_validator.proofs.Used.{judged}
use Rattle.table_validator.proofs.Reading.{ends_before}
use Rattle.table_validator.proofs.Evaluated.{sound_equation}

-- ---- ranges

-- a number in a range
record Within (low high n : ℕ) : Type 0 where
  from : low ≤ n
  to : n ≤ high

within : (low high n : ℕ) → not (is_in_range low high n) ≡ false → Within low high n
within low high n e =
    let range : (nat_le low n && nat_le n high) ≡ true = not_false (nat_le low n && nat_le n high) e in
    record {
      from = tested_at_most low n (and_first (nat_le low n) (nat_le n high) range);
      to = tested_at_most n high (and_second (nat_le low n) (nat_le n high) range);
    }

-- ---- watchpoints

-- the type that is there, and what holds of it
typed : (o : Option FieldType) → is_none o ≡ false → o ≡ Some (unwrap_or o U8)
typed None e = absurd (cc e)
typed (Some k) e = refl

of_type : (o : Option FieldType) (test : FieldType → Bool) → is_none o ≡ false → option_map_or (λ k. not (test k)) o false ≡ false →
    not (test (unwrap_or o U8)) ≡ false
of_type None test e passes = absurd (cc e)
of_type (Some k) test e passes = passes

sound_watchpoint : (e : List ℕ) → watchpoint_code e ≡ None → IsSoundWatchpoint e
sound_watchpoint e sound =
    let tests : AllByRecursion (λ t. t.0 ≡ false) (watchpoint_tests e) = none_stands (watchpoint_tests e) sound in
    let some : is_none (type_of_code (type_field e)) ≡ false = tests.1.0 in
    let operator : Within 1 6 (operator_field e) = within 1 6 (operator_field e) tests.1.1.0 in
    let mid : ℕ = mid_field e in
    let telemetry : not (is_telemetry_mid mid) ≡ false = or_first (not (is_telemetry_mid mid)) (list_any (◌==◌ mid) reserved_mids) tests.1.1.1.0 in
    let others : (mid == event_mid || (mid == lc_housekeeping_mid || false)) ≡ false =
    or_second (not (is_telemetry_mid mid)) (list_any (◌==◌ mid) reserved_mids) tests.1.1.1.0 in
    let mask : Within 1 (full_mask (spelled_term e).kind) (mask_field e) =
    within 1 (full_mask (spelled_term e).kind) (mask_field e)
    (of_type (type_of_code (type_field e)) (λ k. is_in_range 1 (full_mask k) (mask_field e)) some tests.1.1.1.1.0) in
    record {
      has_type = typed (type_of_code (type_field e)) some;
      has_operator = operator_again (operator_field e) operator.from operator.to;
      telemetry = not_false (is_telemetry_mid mid) telemetry;
      no_event = tested_unequal mid event_mid (or_first (mid == event_mid) (mid == lc_housekeeping_mid || false) others);
      no_housekeeping = tested_unequal mid lc_housekeeping_mid
          (or_first (mid == lc_housekeeping_mid) false (or_second (mid == event_mid) (mid == lc_housekeeping_mid || false) others));
      mask_from = mask.from;
      mask_to = mask.to;
      value = not_false (is_in_type (spelled_term e).kind (spelled_term e).value)
          (of_type (type_of_code (type_field e)) (λ k. is_in_type k (twos_complement_32 k (value_field e))) some tests.1.1.1.1.1.0);
    }

-- ---- actionpoints

sound_actionpoint : (count : ℕ) (e : List ℕ) → count ≤ table_entries → actionpoint_code count e ≡ None → IsSoundActionpoint count e
sound_actionpoint count e few sound =
    let ws : List ℕ = words_before_equal (all_words e) in
    let tests : AllByRecursion (λ t. t.0 ≡ false) (actionpoint_tests count e) = none_stands (actionpoint_tests count e) sound in
    let behind = tests.1.1.1.1.1 in
    let last : (sequence_field e == 0 || fails_field e == 0) ≡ false = behind.1.1.1.1.1.0 in
    let state : Within 1 3 (state_field e) = within 1 3 (state_field e) tests.0 in
    let event : Within 1 4 (event_type_field e) = within 1 4 (event_type_field e) (or_first (not (is_in_range 1 4 (event_type_field e))) (nat_lt (event_id_field e) 1_000) tests.1.0) in
    record {
      has_state = state_again (state_field e) state.from state.to;
      has_event = event_again (event_type_field e) event.from event.to;
      event_id = tested_not_less (event_id_field e) 1_000 (or_second (not (is_in_range 1 4 (event_type_field e))) (nat_lt (event_id_field e) 1_000) tests.1.0);
      text = not_false (is_text_field (text_field e)) tests.1.1.0;
      nothing_behind = not_false (list_all (◌==◌ 0) (words_after_equal (all_words e))) tests.1.1.1.1.0;
      equation = sound_equation count ws few (stands_none (equation_tests count ws)
          (behind.0, (behind.1.0, (behind.1.1.0, (behind.1.1.1.0, (behind.1.1.1.1.0, tt))))));
      ends = ends_before (all_words e) (not_false (list_any (◌==◌ equal_word) (all_words e)) tests.1.1.1.0);
      sequence = tested_unequal (sequence_field e) 0 (or_first (sequence_field e == 0) (fails_field e == 0) last);
      fails = tested_unequal (fails_field e) 0 (or_second (sequence_field e == 0) (fails_field e == 0) last);
    }

-- ---- images

-- an entry that is used
used : (l : model.Layout) (image : List ℕ) (n : ℕ) → n < own_count image → entry_code l image n ≡ None →
    used_code l (watchpoint_count image) (entry_at l image n) ≡ None
used l image n below e = rw (test_less n (own_count image) below) at e

-- the tests of a preamble's counts
abbrev counts_test : model.Layout → List ℕ → Bool
counts_test l image =
    nat_lt table_entries (own_count image) || nat_lt table_entries (watchpoint_count image)
    || (is_kind (model.kind_of l) Wdt && not (own_count image == watchpoint_count image))

counts : (l : model.Layout) (image : List ℕ) → preamble_code l image ≡ None → counts_test l image ≡ false
counts l image e =
    (none_stands ((not (u16_at image 0 == model.version_of l), 61) ∷ (not (u16_at image 2 == kind_code (model.kind_of l)), 62) ∷ (counts_test l image, 64) ∷ []) e).1.1.0

few_own : (l : model.Layout) (image : List ℕ) → counts_test l image ≡ false → own_count image ≤ table_entries
few_own l image e =
    tested_not_less table_entries (own_count image) (or_first (nat_lt table_entries (own_count image)) (nat_lt table_entries (watchpoint_count image))
    (or_first (nat_lt table_entries (own_count image) || nat_lt table_entries (watchpoint_count image)) _ e))

few_watchpoints : (l : model.Layout) (image : List ℕ) → counts_test l image ≡ false → watchpoint_count image ≤ table_entries
few_watchpoints l image e =
    tested_not_less table_entries (watchpoint_count image) (or_second (nat_lt table_entries (own_count image)) (nat_lt table_entries (watchpoint_count image))
    (or_first (nat_lt table_entries (own_count image) || nat_lt table_entries (watchpoint_count image)) _ e))

same_counts : (image : List ℕ) → counts_test Watchpoints image ≡ false → watchpoint_count image ≡ own_count image
same_counts image e =
    sym (tested_equal (own_count image) (watchpoint_count image) (not_false (own_count image == watchpoint_count image)
    (or_second (nat_lt table_entries (own_count image) || nat_lt table_entries (watchpoint_count image)) (not (own_count image == watchpoint_count image)) e)))

watchpoint_parts : (image : List ℕ) (l : model.Layout) → is_kind Wdt (model.kind_of l) ≡ true → image_length l ≡ length image →
    preamble_code l image ≡ None → ((n : ℕ) → n < table_entries → entry_code l image n ≡ None) → HasSoundWatchpoints image
watchpoint_parts image Watchpoints kind size preamble entries =
    let tests : counts_test Watchpoints image ≡ false = counts Watchpoints image preamble in
    let few : own_count image ≤ table_entries = few_own Watchpoints image tests in
    record {
      size = sym size;
      own = few;
      same = same_counts image tests;
      each = λ n below. sound_watchpoint (entry_at Watchpoints image n) (used Watchpoints image n below (entries n (omega (arith, below, few))));
    }
watchpoint_parts image Actionpoints kind size preamble entries = absurd (cc kind)
watchpoint_parts image WideActionpoints kind size preamble entries = absurd (cc kind)

-- the layout that is found is the image's
pub is_layout : (image : List ℕ) (l : model.Layout) → model.layout_of layouts Adt image ≡ Some l → adt_layout image ≡ l
unfolding adt_layout
is_layout image l found = ap (λ o. unwrap_or o Actionpoints) found

actionpoint_parts : (image : List ℕ) (l : model.Layout) → model.layout_of layouts Adt image ≡ Some l → model.kind_of l ≡ Adt →
    image_length l ≡ length image → preamble_code l image ≡ None → ((n : ℕ) → n < table_entries → entry_code l image n ≡ None) →
    adt_layout image ≡ l → HasSoundActionpoints image
actionpoint_parts image l found kind size preamble entries is =
    let tests : counts_test l image ≡ false = counts l image preamble in
    let few : own_count image ≤ table_entries = few_own l image tests in
    let watched : watchpoint_count image ≤ table_entries = few_watchpoints l image tests in
    record {
      layout = found ∙ ap (λ m. Some m) (sym is);
      kind = ap model.kind_of is ∙ kind;
      size = sym size ∙ ap image_length (sym is);
      own = few;
      watchpoints = watched;
      each = λ n below. subst (λ m. IsSoundActionpoint (watchpoint_count image) (entry_at m image n)) (sym is)
          (sound_actionpoint (watchpoint_count image) (entry_at l image n) watched
          (sym (judged l kind (watchpoint_count image) (entry_at l image n)) ∙ used l image n below (entries n (omega (arith, below, few)))));
    }

-- of an image in this layout
pub watchpoints_of : (l : model.Layout) (image : List ℕ) → IsSound layouts (model.kind_of l) image → model.kind_of l ≡ Wdt → HasSoundWatchpoints image
watchpoints_of l image sound kind =
    let parts : SoundParts layouts Wdt image = sound_parts layouts Wdt image (subst (λ k. IsSound layouts k image) kind sound) in
    watchpoint_parts image parts.layout parts.of_kind parts.size parts.preamble parts.entries

pub actionpoints_of : (l : model.Layout) (image : List ℕ) → IsSound layouts (model.kind_of l) image → model.kind_of l ≡ Adt → HasSoundActionpoints image
actionpoints_of l image sound kind =
    let parts : SoundParts layouts Adt image = sound_parts layouts Adt image (subst (λ k. IsSound layouts k image) kind sound) in
    actionpoint_parts image parts.layout parts.found (same_kind Adt (model.kind_of parts.layout) parts.of_kind) parts.size parts.preamble parts.entries
    (is_layout image parts.layout parts.found)
