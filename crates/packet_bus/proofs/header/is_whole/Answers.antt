use Rattle.std.proofs.Common.{◌≡◌, ap, ℕ, ◌+◌, ◌*◌, ◌/◌, ◌<◌, ◌≤◌, ◌==◌, List, [], ◌∷◌, length, arith, rules}
use Rattle.std.specs.Prelude.{slice_index}
use Rattle.lc_model.specs.Packet.{sequence_flags}
use Rattle.packet_bus.proofs.header.is_whole.Goals as goal

-- the flags are the high bits of the third byte
high_bits : (high low : ℕ) → low < 256 → high / 64 ≡ (high * 256 + low) / 16384
high_bits high low byte = omega (arith, byte)

flags_are : (bytes : List ℕ) → 4 ≤ length bytes → slice_index bytes 3 < 256 → slice_index bytes 2 / 64 ≡ sequence_flags bytes
flags_are [] long byte = absurd (omega arith)
flags_are (a ∷ []) long byte = absurd (omega arith)
flags_are (a ∷ b ∷ []) long byte = absurd (omega arith)
flags_are (a ∷ b ∷ c ∷ []) long byte = absurd (omega arith)
flags_are (a ∷ b ∷ c ∷ d ∷ bytes) long byte = high_bits c d byte

pub returns : goal.returns
returns c = ap (λ flags. flags == 3) (flags_are c.args.bytes.now (omega (arith, c.requires)) (search rules))
