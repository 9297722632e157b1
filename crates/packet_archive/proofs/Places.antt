-- Each byte of an archive has its place.
use Rattle.std.proofs.Common.{◌≡◌, refl, sym, ◌∙◌, ap, ℕ, zero, suc, ◌+◌, ◌<◌, List, [], ◌∷◌, ◌++◌, length, take, drop, length-drop, take-append-drop, append_assoc, Option, Some, None, arith}
use Rattle.packet_archive.specs.declared.import.Met.{Met}
use Rattle.packet_archive.specs.declared.front.ArchiveFront.{ArchiveFront}
use Rattle.packet_archive.specs.declared.front.ArchiveFront.TheVariants.{Over, Gap, Cut, Foreign, Unmarked, Stray, Packet}
use Rattle.packet_archive.specs.declared.front.Resync.{Resync}
use Rattle.packet_archive.specs.declared.front.Resync.TheVariants.{AtEnd}
use Rattle.packet_archive.specs.Choice.{fate_of}
use Rattle.packet_archive.specs.Clock.{Clocked}
use Rattle.packet_archive.specs.Front.{front_by}
use Rattle.packet_archive.specs.Import.{Asking, Imported, Step, behind, by_front, front_for, imported, next_step, passed}
use Rattle.packet_archive.specs.Parts.{EachByteHasAPlace, HasPlaces, bytes_of, parts_by, parts_of, parts_within}
use Rattle.packet_archive.proofs.Pieces.{fate_passes, no_step, one_step, passes}
use Rattle.packet_archive.proofs.Sought.{goes_on_at_end, over_at_end}

-- ---- the parts by the first step

enough : (m n : ℕ) (asking : Asking) (clock : Clocked) (bytes : List ℕ) → length bytes < m → length bytes < n →
    parts_within m asking clock bytes ≡ parts_within n asking clock bytes
unfolding parts_within
enough zero n asking clock bytes p q = absurd (omega (arith, p))
enough (suc m) zero asking clock bytes p q = absurd (omega (arith, q))
enough (suc m) (suc n) asking clock bytes p q =
    by_passed (passed (next_step asking clock bytes).met) refl (λ size after p q. enough m n asking after (drop size bytes) p q)
  where
    by_passed : (o : Option ℕ) → passed (next_step asking clock bytes).met ≡ o →
        ((size : ℕ) (after : Clocked) → length (drop size bytes) < m → length (drop size bytes) < n → parts_within m asking after (drop size bytes) ≡ parts_within n asking after (drop size bytes)) →
        parts_by (parts_within m asking (next_step asking clock bytes).clock) (next_step asking clock bytes).met bytes o
        ≡ parts_by (parts_within n asking (next_step asking clock bytes).clock) (next_step asking clock bytes).met bytes o
    by_passed None is others = refl
    by_passed (Some size) is others =
        let inside = passes asking clock bytes size is in
        ap (λ (parts : List (Met × List ℕ)). ((next_step asking clock bytes).met, take size bytes) ∷ parts)
        (others size (next_step asking clock bytes).clock (omega (arith, length-drop size bytes, inside.some, inside.inside, p)) (omega (arith, length-drop size bytes, inside.some, inside.inside, q)))

first_part : (asking : Asking) (clock : Clocked) (bytes : List ℕ) →
    parts_of asking clock bytes ≡ parts_by (parts_within (length bytes) asking (next_step asking clock bytes).clock) (next_step asking clock bytes).met bytes (passed (next_step asking clock bytes).met)
unfolding parts_within
first_part asking clock bytes = let most : length bytes + 1 ≡ suc (length bytes) = omega arith in ap (λ n. parts_within n asking clock bytes) most

pub no_parts : (asking : Asking) (clock : Clocked) (bytes : List ℕ) → passed (next_step asking clock bytes).met ≡ None → parts_of asking clock bytes ≡ []
no_parts asking clock bytes none =
    first_part asking clock bytes ∙ ap (parts_by (parts_within (length bytes) asking (next_step asking clock bytes).clock) (next_step asking clock bytes).met bytes) none

pub one_part : (asking : Asking) (clock : Clocked) (bytes : List ℕ) (size : ℕ) → passed (next_step asking clock bytes).met ≡ Some size →
    parts_of asking clock bytes ≡ ((next_step asking clock bytes).met, take size bytes) ∷ parts_of asking (next_step asking clock bytes).clock (drop size bytes)
one_part asking clock bytes size some =
    let inside = passes asking clock bytes size some in
    let after : Clocked = (next_step asking clock bytes).clock in
    let met : Met = (next_step asking clock bytes).met in
    first_part asking clock bytes
    ∙ ap (parts_by (parts_within (length bytes) asking after) met bytes) some
    ∙ ap (λ (others : List (Met × List ℕ)). (met, take size bytes) ∷ others)
    (enough (length bytes) (length (drop size bytes) + 1) asking after (drop size bytes) (omega (arith, length-drop size bytes, inside.some, inside.inside)) (omega arith))

-- ---- where an import ends

-- a step that passes nothing stands at the end
over : (front : ArchiveFront) (asking : Asking) (clock : Clocked) (bytes : List ℕ) → front_by AtEnd asking.marked bytes ≡ front →
    passed (by_front front asking clock bytes).met ≡ None → bytes ≡ []
over Over asking clock bytes is none = over_at_end asking.marked bytes is
over (Gap n) asking clock bytes is none = cc
over Stray asking clock bytes is none = cc
over Cut asking clock bytes is none = absurd ((goes_on_at_end asking.marked bytes).not_cut is)
over Foreign asking clock bytes is none = absurd ((goes_on_at_end asking.marked bytes).not_foreign is)
over Unmarked asking clock bytes is none = absurd ((goes_on_at_end asking.marked bytes).not_unmarked is)
over (Packet b s) asking clock bytes is none =
    let packet : List ℕ = take s (drop b bytes) in
    let some = fate_passes (fate_of asking.chosen packet) asking b (b + s) clock packet in
    absurd (cc (none, some))

none_left : (asking : Asking) (clock : Clocked) (bytes : List ℕ) → asking.resync ≡ AtEnd → passed (next_step asking clock bytes).met ≡ None → bytes ≡ []
none_left asking clock bytes at_end none =
    let same : front_for asking bytes ≡ front_by AtEnd asking.marked bytes = ap (λ (resync : Resync). front_by resync asking.marked bytes) at_end in
    let step : next_step asking clock bytes ≡ by_front (front_by AtEnd asking.marked bytes) asking clock bytes = ap (λ front. by_front front asking clock bytes) same in
    over (front_by AtEnd asking.marked bytes) asking clock bytes refl (ap (λ (s : Step). passed s.met) (sym step) ∙ none)

-- ---- all parts

placed : (most : ℕ) (asking : Asking) (clock : Clocked) (bytes : List ℕ) → length bytes < most → HasPlaces asking clock bytes
placed zero asking clock bytes less = absurd (omega (arith, less))
placed (suc most) asking clock bytes less =
    by_passed (passed (next_step asking clock bytes).met) refl (λ size after shorter. placed most asking after (drop size bytes) shorter)
  where
    by_passed : (o : Option ℕ) → passed (next_step asking clock bytes).met ≡ o →
        ((size : ℕ) (after : Clocked) → length (drop size bytes) < most → HasPlaces asking after (drop size bytes)) → HasPlaces asking clock bytes
    by_passed None none others =
        let one = no_step asking clock bytes none in
        let parts : parts_of asking clock bytes ≡ [] = no_parts asking clock bytes none in
        record {
          all = ap (λ (ps : List (Met × List ℕ)). bytes_of ps ++ (imported asking clock bytes).left) parts ∙ ap (λ (i : Imported). i.left) one;
          none_left = λ at_end. ap (λ (i : Imported). i.left) one ∙ none_left asking clock bytes at_end none;
        }
    by_passed (Some size) some others =
        let after : Clocked = (next_step asking clock bytes).clock in
        let met : Met = (next_step asking clock bytes).met in
        let inside = passes asking clock bytes size some in
        let one : imported asking clock bytes ≡ behind (next_step asking clock bytes).written (imported asking after (drop size bytes)) = one_step asking clock bytes size some in
        let rest : HasPlaces asking after (drop size bytes) = others size after (omega (arith, length-drop size bytes, inside.some, inside.inside, less)) in
        let parts : parts_of asking clock bytes ≡ (met, take size bytes) ∷ parts_of asking after (drop size bytes) = one_part asking clock bytes size some in
        record {
          all =
              ap (λ (ps : List (Met × List ℕ)). bytes_of ps ++ (imported asking clock bytes).left) parts
              ∙ ap (λ (i : Imported). (take size bytes ++ bytes_of (parts_of asking after (drop size bytes))) ++ i.left) one
              ∙ append_assoc (take size bytes) (bytes_of (parts_of asking after (drop size bytes))) (imported asking after (drop size bytes)).left
              ∙ ap (λ others. take size bytes ++ others) rest.all
              ∙ take-append-drop size bytes;
          none_left = λ at_end. ap (λ (i : Imported). i.left) one ∙ rest.none_left at_end;
        }

pub each_byte : EachByteHasAPlace
each_byte asking clock archive = placed (length archive + 1) asking clock archive (omega arith)
