-- The meanings of packets that follow one another, packet by packet.
use Rattle.std.proofs.Common.{◌≡◌, refl, sym, ◌∙◌, ap, ℕ, ◌+◌, ◌<◌, ◌&&◌, ◌==◌, Bool, true, false, nat_le, List, [], ◌∷◌, ◌++◌, length, take, drop, get_or, Option, Some, None, if◌then◌else◌}
use Rattle.std.specs.List.{filter_map}
use Rattle.std.proofs.Math.Seq.{take-append_seam, drop-append_seam}
use Rattle.std.proofs.lemmas.List.{append_assoc, append-nil, drop_more, map-append}
use Rattle.std.proofs.lemmas.List.Elements.{filter_map-append}
use Rattle.run_stepper.specs.Trace.{packet_size, packets_in}
use Rattle.run_stepper.proofs.Arriving.{packets_front}
use Rattle.run_comparison.specs.Meaning.{Meaning, all_held, last_colon, meaning_in, meanings_in, of_held}
use Rattle.run_comparison.specs.declared.meaning.Meaning.{Meaning as HeldMeaning}
use Rattle.run_comparison.specs.declared.meaning.Sort.{Sort}

abbrev is_there : List ℕ → Bool
is_there bytes = nat_le 6 (length bytes) && nat_le (packet_size bytes) (length bytes)

-- the first packet, and those behind it
packets_more : (rest packet behind : List ℕ) → is_there rest ≡ true → rest ≡ packet ++ behind → length packet ≡ packet_size rest → packets_in rest ≡ packet ∷ packets_in behind
packets_more rest packet behind there parts size =
    let front : take (packet_size rest) rest ≡ packet = (λ i. take (sym size i) (parts i)) ∙ take-append_seam packet behind in
    let back : drop (packet_size rest) rest ≡ behind = (λ i. drop (sym size i) (parts i)) ∙ drop-append_seam packet behind in
    packets_front rest ∙ rw there (λ i. front i ∷ packets_in (back i))

-- one packet more
pub meaning_more : (which : Sort) (done after total : List Meaning) (rest packet behind : List ℕ) → done ++ meanings_in which rest ≡ total → is_there rest ≡ true → rest ≡ packet ++ behind → length packet ≡ packet_size rest →
    after ≡ done ++ filter_map (meaning_in which) (packet ∷ []) → after ++ meanings_in which behind ≡ total
meaning_more which done after total rest packet behind so there parts size gains =
    let first : packets_in rest ≡ packet ∷ packets_in behind = packets_more rest packet behind there parts size in
    let here : meanings_in which rest ≡ filter_map (meaning_in which) (packet ∷ []) ++ meanings_in which behind =
    ap (filter_map (meaning_in which)) first ∙ filter_map-append (meaning_in which) (packet ∷ []) (packets_in behind) in
    ap (λ them. them ++ meanings_in which behind) gains
    ∙ append_assoc done (filter_map (meaning_in which) (packet ∷ [])) (meanings_in which behind)
    ∙ ap (λ them. done ++ them) (sym here)
    ∙ so

-- no packet more
pub meanings_over : (which : Sort) (done total : List Meaning) (rest : List ℕ) → done ++ meanings_in which rest ≡ total → is_there rest ≡ false → done ≡ total
meanings_over which done total rest so none =
    let left : packets_in rest ≡ [] = packets_front rest ∙ rw none refl in
    sym (append-nil done) ∙ ap (λ packets. done ++ filter_map (meaning_in which) packets) (sym left) ∙ so

-- what one packet adds
pub pushed_one : (which : Sort) (all : List HeldMeaning) (one : HeldMeaning) (packet : List ℕ) → Some (of_held one) ≡ meaning_in which packet →
    all_held (all ++ one ∷ []) ≡ all_held all ++ filter_map (meaning_in which) (packet ∷ [])
pushed_one which all one packet is = map-append of_held all (one ∷ []) ∙ sym (ap (λ them. all_held all ++ them) (none_behind (meaning_in which packet) (of_held one) (sym is)))
  where
    none_behind : (found : Option Meaning) (it : Meaning) → found ≡ Some it → filter_map (λ (_ : List ℕ). found) (packet ∷ []) ≡ it ∷ []
    none_behind found it is = ap (λ f. filter_map (λ (_ : List ℕ). f) (packet ∷ [])) is

pub pushed_none : (which : Sort) (all : List HeldMeaning) (packet : List ℕ) → None ≡ meaning_in which packet →
    all_held all ≡ all_held all ++ filter_map (meaning_in which) (packet ∷ [])
pushed_none which all packet is = sym (append-nil (all_held all)) ∙ ap (λ found. all_held all ++ filter_map (λ (_ : List ℕ). found) (packet ∷ [])) is

-- one byte more
pub colon_more : (text : List ℕ) (found after : Option ℕ) (at other : ℕ) (is : Bool) → at < length text → after ≡ (if get_or text at other == 58 then Some at else found) →
    last_colon after (at + 1) (drop (at + 1) text) ≡ last_colon found at (drop at text)
colon_more text found after at other is within so =
    ap (λ f. last_colon f (at + 1) (drop (at + 1) text)) so
    ∙ sym (ap (λ left. last_colon found at left) (drop_more text at other within))
