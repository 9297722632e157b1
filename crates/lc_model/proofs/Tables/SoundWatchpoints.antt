-- A sound entry of a watchpoint is spelled by the watchpoint that is read of it.
use Rattle.std.proofs.Common.{◌≡◌, refl, sym, ◌∙◌, ap, ℕ, ◌<◌, Bool, true, false, not, ◌&&◌, nat_le, ◌==◌, List, [], ◌∷◌, ◌++◌, length, drop, Option, Some, None, is_none, unwrap_or, arith}
use Rattle.std.specs.List.{AllByRecursion}
use Rattle.std.specs.Option.{option_map_or}
use Rattle.lc_model.specs.declared.field.FieldType.{FieldType}
use Rattle.lc_model.specs.declared.field.FieldType.TheVariants.{U8}
use Rattle.lc_model.specs.Bytes.{u16, u32}
use Rattle.lc_model.specs.Codes.{type_code, operator_code}
use Rattle.lc_model.specs.Field.{is_in_type}
use Rattle.lc_model.specs.Tables.Entry.{mask_field, mid_field, offset_field, operator_field, stale_field, type_field, value_field, zero_field}
use Rattle.lc_model.specs.Tables.Image.{bits_32, twos_complement_32, term_bytes, types, type_of_code, watchpoint_code, FitsWatchpoint, ComparesInType, watchpoint_tests}
use Rattle.lc_model.specs.Tables.Spelled.{operator_of_code, spelled_term}
use Rattle.std.proofs.lemmas.List.{drop_all}
use Rattle.lc_model.proofs.Tables.SoundWords.{none_stands}
use Rattle.lc_model.proofs.Tables.NumbersIn32Bits.{in_type_fits}
use Rattle.lc_model.proofs.Tables.FileLaws.{with_part, four_at}
use Rattle.lc_model.proofs.Tables.SoundImages.{found_passes, operator_again, bits_again, below_2_16, below_2_32, two_at}
use Rattle.lc_model.proofs.Facts.{tested_equal, not_false, and_first, and_second, tested_at_most}

-- the type that is read, with its code
record ReadType (code : ℕ) (test : FieldType → Bool) : Type 0 where
  again : type_code (unwrap_or (type_of_code code) U8) ≡ code
  passes : test (unwrap_or (type_of_code code) U8) ≡ true

abbrev Found : ℕ → (FieldType → Bool) → Option FieldType → Type 0
Found code test o = (type_code (unwrap_or o U8) ≡ code) × (test (unwrap_or o U8) ≡ true)

read_type : (code : ℕ) (test : FieldType → Bool) → is_none (type_of_code code) ≡ false →
    option_map_or (λ k. not (test k)) (type_of_code code) false ≡ false → ReadType code test
read_type code test some passes =
    let found : Found code test (type_of_code code) = go (type_of_code code) refl some passes in
    record { again = found.0; passes = found.1 }
  where
    go : (o : Option FieldType) → type_of_code code ≡ o → is_none o ≡ false → option_map_or (λ k. not (test k)) o false ≡ false → Found code test o
    go None is e f = absurd (cc e)
    go (Some k) is e f = (tested_equal (type_code k) code (found_passes (λ k. type_code k == code) types k is), not_false (test k) f)

-- the bytes of an entry, by its places
by_places : (e : List ℕ) → AllByRecursion (λ b. b < 256) e → length e ≡ 24 →
    e ≡ type_field e ∷ operator_field e ∷ u16 (mid_field e) ++ u32 (offset_field e) ++ u32 (mask_field e) ++ u32 (zero_field e) ++ u32 (stale_field e) ++ u32 (value_field e)
by_places [] all long = absurd (omega (arith, long))
by_places (a ∷ []) all long = absurd (omega (arith, long))
by_places (a ∷ b ∷ bytes) all long =
    let e : List ℕ = a ∷ b ∷ bytes in
    let to_2 : List ℕ = a ∷ b ∷ [] in
    let to_4 : List ℕ = to_2 ++ u16 (mid_field e) in
    let to_8 : List ℕ = to_4 ++ u32 (offset_field e) in
    let to_12 : List ℕ = to_8 ++ u32 (mask_field e) in
    let to_16 : List ℕ = to_12 ++ u32 (zero_field e) in
    let to_20 : List ℕ = to_16 ++ u32 (stale_field e) in
    let to_24 : List ℕ = to_20 ++ u32 (value_field e) in
    let whole : e ≡ to_24 ++ drop 24 e =
    with_part e to_20 (u32 (value_field e)) 20 24 (four_at e 20 24 all refl (omega (arith, long)))
    (with_part e to_16 (u32 (stale_field e)) 16 20 (four_at e 16 20 all refl (omega (arith, long)))
    (with_part e to_12 (u32 (zero_field e)) 12 16 (four_at e 12 16 all refl (omega (arith, long)))
    (with_part e to_8 (u32 (mask_field e)) 8 12 (four_at e 8 12 all refl (omega (arith, long)))
    (with_part e to_4 (u32 (offset_field e)) 4 8 (four_at e 4 8 all refl (omega (arith, long)))
    (with_part e to_2 (u16 (mid_field e)) 2 4 (two_at e 2 4 all refl (omega (arith, long))) refl))))) in
    whole ∙ ap (λ (rest : List ℕ). to_24 ++ rest) (drop_all 24 e (omega (arith, long)))

-- an entry that is read as a watchpoint
pub record IsWatchpoint (e : List ℕ) : Type 0 where
  pub again : term_bytes (spelled_term e) ≡ e
  pub fits : FitsWatchpoint (spelled_term e)
  pub in_type : ComparesInType (spelled_term e)

pub watchpoint_again : (e : List ℕ) → AllByRecursion (λ b. b < 256) e → length e ≡ 24 → watchpoint_code e ≡ None → IsWatchpoint e
watchpoint_again e all long sound =
    let tests : AllByRecursion (λ t. t.0 ≡ false) (watchpoint_tests e) = none_stands (watchpoint_tests e) sound in
    let zeros : zero_field e ≡ 0 = tested_equal (zero_field e) 0 (not_false (zero_field e == 0) tests.0) in
    let kind : ReadType (type_field e) (λ k. is_in_type k (twos_complement_32 k (value_field e))) =
    read_type (type_field e) (λ k. is_in_type k (twos_complement_32 k (value_field e))) tests.1.0 tests.1.1.1.1.1.0 in
    let range : (nat_le 1 (operator_field e) && nat_le (operator_field e) 6) ≡ true = not_false (nat_le 1 (operator_field e) && nat_le (operator_field e) 6) tests.1.1.0 in
    let op : operator_code (operator_of_code (operator_field e)) ≡ operator_field e =
    operator_again (operator_field e) (tested_at_most 1 _ (and_first (nat_le 1 (operator_field e)) (nat_le (operator_field e) 6) range))
    (tested_at_most _ 6 (and_second (nat_le 1 (operator_field e)) (nat_le (operator_field e) 6) range)) in
    let value : bits_32 (spelled_term e).value ≡ value_field e = bits_again (spelled_term e).kind (value_field e) (below_2_32 e 20 all) in
    record {
      again =
          (λ i. kind.again i ∷ op i ∷ u16 (mid_field e) ++ u32 (offset_field e) ++ u32 (mask_field e) ++ u32 (sym zeros i) ++ u32 (stale_field e) ++ u32 (value i))
          ∙ sym (by_places e all long);
      fits = record {
        mid = below_2_16 e 2 all;
        offset = below_2_32 e 4 all;
        mask = below_2_32 e 8 all;
        stale = below_2_32 e 16 all;
        value = in_type_fits (spelled_term e).kind (spelled_term e).value kind.passes;
      };
      in_type = kind.passes;
    }
