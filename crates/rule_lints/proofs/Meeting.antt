-- Places at which two fields read a bit, and the message ids of a text without a fault.
use Rattle.std.proofs.Common.{◌≡◌, ◌∙◌, refl, ap, sym, ℕ, zero, suc, ◌+◌, ◌<◌, ◌≤◌, ◌^◌, ◌==◌, Bool, true, false, not, ◌||◌, List, [], ◌∷◌, Some, nat_abs, bytes_eq, arith}
use Rattle.std.specs.Prelude.{bit_and}
use Rattle.std.specs.List.{list_any}
use Rattle.std.proofs.lemmas.List.Folds.{list_any-append}
use Rattle.lc_model.specs.Tables.Image.{numbers_below}
use Rattle.lc_model.specs.Text.Token.{Token}
use Rattle.lc_model.specs.Text.Syntax.{Item, PacketItem}
use Rattle.lc_model.specs.Text.Meaning.{faults, packet_named}
use Rattle.lc_model.proofs.Facts.{or_false, or_true, or_neither, tested_equal, tested_unequal}
use Rattle.lc_model.proofs.Texts.ItemsInRange.{HasMid, all_identified, packet_found}
use Rattle.rule_analysis.specs.declared.fields.Field.{Field}
use Rattle.rule_analysis.specs.Bits.{bits_read}

-- ---- places

-- both fields read a bit this many bytes after the second one's first byte
abbrev pub meets : (f g : Field) → ℕ → Bool
meets f g = λ behind. not (bit_and (bits_read f (g.offset + behind)) (bits_read g (g.offset + behind)) == 0)

one_more : (n : ℕ) → n + 1 ≡ suc n
one_more n = omega arith

-- no place so far, and not the next one
pub none_more : (test : ℕ → Bool) (n : ℕ) → list_any test (numbers_below n) ≡ false → test n ≡ false → list_any test (numbers_below (n + 1)) ≡ false
none_more test n none not_here =
    ap (λ count. list_any test (numbers_below count)) (one_more n)
    ∙ list_any-append test (numbers_below n) (n ∷ [])
    ∙ or_neither (list_any test (numbers_below n)) (test n || false) none (or_false (test n) ∙ not_here)

less_by : (k n : ℕ) → k < suc n → (k == n) ≡ false → k < n
less_by k n below apart = omega (arith, below, tested_unequal k n apart)

-- one place is enough
pub some_place : (test : ℕ → Bool) (k n : ℕ) → k < n → test k ≡ true → list_any test (numbers_below n) ≡ true
some_place test k zero below here = absurd (omega (arith, below))
some_place test k (suc n) below here =
    list_any-append test (numbers_below n) (n ∷ []) ∙ by_test (k == n) refl (λ less. some_place test k n less here)
  where
    by_test : (same : Bool) → (k == n) ≡ same → (k < n → list_any test (numbers_below n) ≡ true) → (list_any test (numbers_below n) || (test n || false)) ≡ true
    by_test true is before =
        ap (λ b. list_any test (numbers_below n) || (b || false)) (ap test (sym (tested_equal k n is)) ∙ here) ∙ or_true (list_any test (numbers_below n))
    by_test false is before = ap (λ b. b || (test n || false)) (before (less_by k n below is))

-- ---- message ids

of_16_bits : (mid : ℕ) → mid ≤ 0x0FFF → mid < 2 ^ 16
of_16_bits mid most = omega (arith, most)

-- the message id of a packet that a name names has 16 bits
pub short_id : (items : List Item) (name : Token) (p : PacketItem) → faults items ≡ [] → packet_named items name ≡ Some p → nat_abs p.mid.value < 2 ^ 16
short_id items name p accepted is =
    let has : HasMid p = packet_found HasMid (λ (q : PacketItem). bytes_eq q.name.text name.text) items (all_identified items accepted) p is in
    of_16_bits (nat_abs p.mid.value) has.range.1
