-- A packet that is laid for a telemetry message id is one that a stream may bring.
use Rattle.std.proofs.Common.{◌≡◌, ℕ, ◌+◌, ◌*◌, ◌/◌, ◌%◌, ◌≤◌, ◌<◌, nat_le, nat_lt, Bool, true, false, ◌&&◌, ◌||◌, ◌==◌, not, if◌then◌else◌, List, length, drop, refl, ap, ◌∙◌, arith, get_or, Some, None, bit_or}
use Rattle.std.specs.Prelude.{IsTrue}
use Rattle.std.specs.Option.{option_or}
use Rattle.std.specs.List.{list_any}
use Rattle.std.proofs.lemmas.Bool.Decides.{nat_tests}
use Rattle.std.proofs.lemmas.List.{get_or-drop}
use Rattle.std.proofs.lemmas.Nat.{le_or_r, or_of_8}
use Rattle.lc_model.specs.Bytes.{u16_at}
use Rattle.lc_model.specs.Packet.{message_id, is_command, version, has_secondary_header, sequence_flags, is_telemetry_mid, reserved_mids, is_own_mid, stream_fault, short_packet, other_version, no_secondary_header, part_of_packet, other_length, long_packet, own_message_id}
use Rattle.rule_analysis.specs.declared.packets.Chosen.{Chosen}
use Rattle.rule_analysis.specs.Laid.{IsLaid, byte_over}
use Rattle.rule_analysis.proofs.LaidLaws.{own_id}
use Rattle.rule_analysis.proofs.BitLaws.{all_small, be_two}

pub first_holds : (a b : Bool) → (a && b) ≡ true → a ≡ true
first_holds true b e = refl
first_holds false b e = cc

pub second_holds : (a b : Bool) → (a && b) ≡ true → b ≡ true
second_holds true b e = e
second_holds false b e = cc

pub first_none : (a b : Bool) → (a || b) ≡ false → a ≡ false
first_none true b e = cc
first_none false b e = refl

pub second_none : (a b : Bool) → (a || b) ≡ false → b ≡ false
second_none true b e = cc
second_none false b e = e

neither : (a b c : Bool) → a ≡ false → b ≡ false → (a || (c && b)) ≡ false
neither true b c first second = cc
neither false b true first second = second
neither false b false first second = refl

pub no_less : (m n : ℕ) → n ≤ m → nat_lt m n ≡ false
no_less m n above = grind (arith, nat_tests)

same_number : (m n : ℕ) → m ≡ n → not (m == n) ≡ false
same_number m n e = grind (arith, nat_tests)

other_number : (m n : ℕ) → m < n → (m == n) ≡ false
other_number m n below = grind (arith, nat_tests)

pub at_least : (m : ℕ) → IsTrue (is_telemetry_mid m) → 0x0800 ≤ m
at_least m e = le_of (first_holds (nat_le 0x0800 m) (nat_le m 0x0FFF) e)
  where
    le_of : nat_le 0x0800 m ≡ true → 0x0800 ≤ m
    le_of e = grind (arith, nat_tests)

pub at_most : (m : ℕ) → IsTrue (is_telemetry_mid m) → m ≤ 0x0FFF
at_most m e = le_of (second_holds (nat_le 0x0800 m) (nat_le m 0x0FFF) e)
  where
    le_of : nat_le m 0x0FFF ≡ true → m ≤ 0x0FFF
    le_of e = grind (arith, nat_tests)

flags : (high low : ℕ) → 192 ≤ high → high < 256 → low < 256 → (high * 256 + low) / 16384 ≡ 3
flags high low above below small = omega (arith, above, below, small)

pair_at : (bytes : List ℕ) (place : ℕ) → u16_at bytes place ≡ get_or bytes (place + 0) 0 * 256 + get_or bytes (place + 1) 0
pair_at bytes place = be_two (drop place bytes) ∙ (λ i. get_or-drop place bytes 0 0 i * 256 + get_or-drop place bytes 1 0 i)

pub fault_free : (chosen : List Chosen) (mid : ℕ) (packet : List ℕ) → IsLaid chosen mid packet → IsTrue (is_telemetry_mid mid) → list_any (◌==◌ mid) reserved_mids ≡ false →
    stream_fault packet ≡ None
fault_free chosen mid packet is telemetry free =
    λ i. option_or (if short i then Some short_packet else if other_one i then Some other_version else if secondary i then Some no_secondary_header
    else if part i then Some part_of_packet else if size i then Some other_length else if long i then Some long_packet else None)
    (if own i then Some own_message_id else None)
  where
    id : message_id packet ≡ mid
    id = own_id chosen mid packet is

    short : (nat_lt (length packet) 8 || (not (is_command packet) && nat_lt (length packet) 12)) ≡ false
    short = neither (nat_lt (length packet) 8) (nat_lt (length packet) 12) (not (is_command packet))
        (no_less (length packet) 8 (omega (arith, is.size.least))) (no_less (length packet) 12 is.size.least)

    other_one : not (version packet == 0) ≡ false
    other_one = same_number (version packet) 0 (ap (λ m. m / 8192) id ∙ omega (arith, at_most mid telemetry))

    secondary : not (has_secondary_header packet) ≡ false
    secondary = same_number (message_id packet / 2048 % 2) 1 (ap (λ m. m / 2048 % 2) id ∙ omega (arith, at_most mid telemetry, at_least mid telemetry))

    high : get_or packet 2 0 ≡ bit_or (byte_over chosen mid 2) 0xC0
    high = is.bytes 2 (omega (arith, is.size.least))

    low : get_or packet 3 0 ≡ byte_over chosen mid 3
    low = is.bytes 3 (omega (arith, is.size.least))

    part : not (sequence_flags packet == 3) ≡ false
    part = same_number (sequence_flags packet) 3 (ap (λ n. n / 16384) (pair_at packet 2 ∙ (λ i. high i * 256 + low i))
        ∙ flags (bit_or (byte_over chosen mid 2) 0xC0) (byte_over chosen mid 3) (le_or_r (byte_over chosen mid 2) 0xC0)
        (or_of_8 (byte_over chosen mid 2) 0xC0 (all_small mid 2 chosen 0 (omega arith)) (omega arith)) (all_small mid 3 chosen 0 (omega arith)))

    size : not (u16_at packet 4 + 7 == length packet) ≡ false
    size = same_number (u16_at packet 4 + 7) (length packet)
        (omega (arith, pair_at packet 4, is.bytes 4 (omega (arith, is.size.least)), is.bytes 5 (omega (arith, is.size.least)), is.size.least, is.size.most))

    long : nat_lt 2048 (length packet) ≡ false
    long = no_less 2048 (length packet) is.size.most

    own : is_own_mid (message_id packet) ≡ false
    own = ap is_own_mid id ∙ (λ i. first_none (mid == 0x0808) _ free i || first_none (mid == 0x08A7) false (second_none (mid == 0x0808) _ free) i
        || other_number mid 0x18A9 (omega (arith, at_most mid telemetry)) i || other_number mid 0x18C0 (omega (arith, at_most mid telemetry)) i)
