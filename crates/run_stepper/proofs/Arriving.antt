-- The packets that came, one after the other.
use Rattle.std.proofs.Common.{◌≡◌, refl, sym, ◌∙◌, ap, ℕ, zero, suc, ◌<◌, ◌≤◌, ◌&&◌, Bool, true, false, nat_le, List, [], ◌∷◌, ◌++◌, length, take, drop, map, length-drop, append_assoc, append-nil, arith}
use Rattle.std.proofs.Math.Seq.{take-append_seam, drop-append_seam}
use Rattle.lc_model.proofs.Facts.{and_both, tested_at_most}
use Rattle.run_stepper.specs.Trace.{Arrived, Part, arrived_by, packet_size, packets_by, packets_in, packets_within}

abbrev is_there : List ℕ → Bool
is_there bytes = nat_le 6 (length bytes) && nat_le (packet_size bytes) (length bytes)

enough : (m n : ℕ) (bytes : List ℕ) → length bytes ≤ m → length bytes ≤ n → packets_within m bytes ≡ packets_within n bytes
unfolding packets_within
enough zero zero bytes p q = refl
enough zero (suc n) [] p q = refl
enough zero (suc n) (b ∷ bytes) p q = absurd (omega (arith, p))
enough (suc m) zero [] p q = refl
enough (suc m) zero (b ∷ bytes) p q = absurd (omega (arith, q))
enough (suc m) (suc n) bytes p q = by_test (is_there bytes) refl (λ less. enough m n (drop (packet_size bytes) bytes) (omega (arith, less, p)) (omega (arith, less, q)))
  where
    by_test : (b : Bool) → is_there bytes ≡ b → (length (drop (packet_size bytes) bytes) < length bytes → packets_within m (drop (packet_size bytes) bytes) ≡ packets_within n (drop (packet_size bytes) bytes)) →
        packets_by (packets_within m) bytes ≡ packets_by (packets_within n) bytes
    by_test true is others =
        let whole = and_both (nat_le 6 (length bytes)) (nat_le (packet_size bytes) (length bytes)) is in
        let inside : packet_size bytes ≤ length bytes = tested_at_most (packet_size bytes) (length bytes) whole.1 in
        rw is (ap (λ packets. take (packet_size bytes) bytes ∷ packets) (others (omega (arith, length-drop (packet_size bytes) bytes, inside))))
    by_test false is others = rw is refl

pub packets_front : (bytes : List ℕ) → packets_in bytes ≡ packets_by packets_in bytes
unfolding packets_within
packets_front [] = refl
packets_front (b ∷ bytes) = by_test (is_there (b ∷ bytes)) refl
  where
    by_test : (t : Bool) → is_there (b ∷ bytes) ≡ t → packets_by (packets_within (length bytes)) (b ∷ bytes) ≡ packets_by packets_in (b ∷ bytes)
    by_test true is =
        let rest : List ℕ = drop (packet_size (b ∷ bytes)) (b ∷ bytes) in
        rw is (ap (λ packets. take (packet_size (b ∷ bytes)) (b ∷ bytes) ∷ packets) (enough (length bytes) (length rest) rest (omega (arith, length-drop (packet_size (b ∷ bytes)) (b ∷ bytes))) (omega arith)))
    by_test false is = rw is refl

-- ---- of one record

-- those of what is left come behind those so far
pub record Arriving (place : ℕ) (part : Part) (base came : List Arrived) (rest : List ℕ) : Type 0 where
  pub comes : came ++ arrived_by place (record { moment = part.moment; packets = rest }) ≡ base ++ arrived_by place part

pub begun : (place : ℕ) (part : Part) (base : List Arrived) → Arriving place part base base part.packets
begun place part base = record { comes = refl }

pub over : (place : ℕ) (part : Part) (base came : List Arrived) (rest : List ℕ) → Arriving place part base came rest → is_there rest ≡ false → came ≡ base ++ arrived_by place part
over place part base came rest far none =
    let left : packets_in rest ≡ [] = packets_front rest ∙ rw none refl in
    sym (append-nil came)
    ∙ ap (λ packets. came ++ map (λ packet. record { place = place; moment = part.moment; packet = packet }) packets) (sym left)
    ∙ far.comes

pub one_more : (place : ℕ) (part : Part) (base came after : List Arrived) (rest packet behind : List ℕ) → Arriving place part base came rest → is_there rest ≡ true →
    rest ≡ packet ++ behind → length packet ≡ packet_size rest → after ≡ came ++ record { place = place; moment = part.moment; packet = packet } ∷ [] →
    Arriving place part base after behind
one_more place part base came after rest packet behind far there parts size gains =
    let front : take (packet_size rest) rest ≡ packet = (λ i. take (sym size i) (parts i)) ∙ take-append_seam packet behind in
    let back : drop (packet_size rest) rest ≡ behind = (λ i. drop (sym size i) (parts i)) ∙ drop-append_seam packet behind in
    let first : packets_in rest ≡ packet ∷ packets_in behind = packets_front rest ∙ rw there (λ i. front i ∷ packets_in (back i)) in
    record {
      comes =
          ap (λ (all : List Arrived). all ++ arrived_by place (record { moment = part.moment; packets = behind })) gains
          ∙ append_assoc came (record { place = place; moment = part.moment; packet = packet } ∷ []) (arrived_by place (record { moment = part.moment; packets = behind }))
          ∙ ap (λ packets. came ++ map (λ packet. record { place = place; moment = part.moment; packet = packet }) packets) (sym first)
          ∙ far.comes;
    }
