-- A bus without pipes.
use Rattle.std.proofs.Common.{◌≡◌, ◌∙◌, ap, sym, refl, ℕ, zero, suc, length, map, replicate, arith}
use Rattle.std.specs.Prelude.{None}
use Rattle.lc_model.proofs.Facts.{same_at}
use Rattle.packet_bus.specs.Slots.{PooledPacket, slot_at, no_packet}
use Rattle.packet_bus.specs.Line.{hears_mid}
use Rattle.packet_bus.specs.Inside.{no_lines, nobody, place_at, audience_of, IsBus}

length_of : {X : Type 0} (n : ℕ) (x : X) → length (replicate n x) ≡ n
length_of zero x = refl
length_of (suc n) x = ap suc (length_of n x)

rows_are : (n : ℕ) → n ≡ 8192 → length (replicate n nobody) ≡ 8192
rows_are n e = length_of n nobody ∙ e

nobody_hears : (n mid : ℕ) → audience_of (replicate n nobody) mid ≡ map (hears_mid mid) no_lines
nobody_hears n mid = same_at n mid nobody

nothing_kept : (n slot : ℕ) → 0 ≡ (slot_at (replicate n no_packet) slot).readers
nothing_kept n slot = ap (λ (kept : PooledPacket). kept.readers) (sym (same_at n slot no_packet))

module _ (slots rows : ℕ) (all_rows : rows ≡ 8192) where
  pub fresh : IsBus no_lines (replicate slots no_packet) (replicate rows nobody) nobody nobody
  fresh = record {
    eight = refl;
    readers = λ slot. nothing_kept slots slot;
    short = λ seat. let none : place_at no_lines seat ≡ None = same_at 8 seat None in rw none (omega arith);
    good = λ slot less. absurd (omega (arith, nothing_kept slots slot));
    rows = rows_are rows all_rows;
    heard = λ mid below. nobody_hears rows mid;
    waits = refl;
    is_full = refl;
  }
