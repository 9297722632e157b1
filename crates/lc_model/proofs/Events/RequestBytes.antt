-- The bytes of a sequence request.
use Rattle.std.proofs.Common.{◌≡◌, ◌∙◌, ℕ, ◌+◌, List, [], ◌∷◌, get_or}
use Rattle.std.specs.Prelude.{bit_xor}
use Rattle.std.specs.Int.{w16, to_be_bytes}
use Rattle.std.specs.Int.Bits.{xor_zero_r}
use Rattle.lc_model.specs.Packet.{parity}
use Rattle.lc_model.specs.Events.Outgoing.{sequence_request}

-- with a zero in the place of the checksum the exclusive or of all bytes is that of all others
zero_skipped : (a b c d : ℕ) → parity (24 ∷ 169 ∷ a ∷ b ∷ 0 ∷ 5 ∷ 4 ∷ 0 ∷ c ∷ d ∷ 0 ∷ 0 ∷ []) ≡ parity (24 ∷ 169 ∷ a ∷ b ∷ 0 ∷ 5 ∷ 4 ∷ c ∷ d ∷ 0 ∷ 0 ∷ [])
zero_skipped a b c d = simp xor_zero_r

pub request_bytes : (count number : ℕ) (counted numbered : List ℕ) (all : ℕ) → counted ≡ to_be_bytes w16 (49152 + count) →
    numbered ≡ to_be_bytes w16 number →
    all ≡ parity (24 ∷ 169 ∷ get_or counted 0 0 ∷ get_or counted 1 0 ∷ 0 ∷ 5 ∷ 4 ∷ 0 ∷ get_or numbered 0 0 ∷ get_or numbered 1 0 ∷ 0 ∷ 0 ∷ []) →
    24 ∷ 169 ∷ get_or counted 0 0 ∷ get_or counted 1 0 ∷ 0 ∷ 5 ∷ 4 ∷ bit_xor 255 all ∷ get_or numbered 0 0 ∷ get_or numbered 1 0 ∷ 0 ∷ 0 ∷ []
    ≡ sequence_request count number
request_bytes count number counted numbered all is_count is_number is_all =
    (λ i. 24 ∷ 169 ∷ get_or (is_count i) 0 0 ∷ get_or (is_count i) 1 0 ∷ 0 ∷ 5 ∷ 4 ∷ bit_xor 255 (whole i) ∷ get_or (is_number i) 0 0 ∷ get_or (is_number i) 1 0 ∷ 0 ∷ 0 ∷ [])
  where
    whole : all ≡ parity (24 ∷ 169 ∷ get_or (to_be_bytes w16 (49152 + count)) 0 0 ∷ get_or (to_be_bytes w16 (49152 + count)) 1 0 ∷ 0 ∷ 5 ∷ 4
        ∷ get_or (to_be_bytes w16 number) 0 0 ∷ get_or (to_be_bytes w16 number) 1 0 ∷ 0 ∷ 0 ∷ [])
    whole = is_all ∙ zero_skipped (get_or counted 0 0) (get_or counted 1 0) (get_or numbered 0 0) (get_or numbered 1 0)
        ∙ (λ i. parity (24 ∷ 169 ∷ get_or (is_count i) 0 0 ∷ get_or (is_count i) 1 0 ∷ 0 ∷ 5 ∷ 4 ∷ get_or (is_number i) 0 0 ∷ get_or (is_number i) 1 0 ∷ 0 ∷ 0 ∷ []))
