-- A field keeps its value where another is written that has none of its bytes.
use Rattle.std.proofs.Common.{◌≡◌, refl, sym, ◌∙◌, ap, ℕ, ◌+◌, ◌-◌, ◌≤◌, Bool, true, false, ◌&&◌, nat_le, List, ◌++◌, length, take, drop, append_assoc, bit_and, ℤ, arith}
use Rattle.std.specs.Prelude.{slice_range}
use Rattle.std.specs.Ordering.{int_eq}
use Rattle.std.proofs.Math.Seq.{drop-append-add}
use Rattle.std.proofs.lemmas.List.{drop-append-le, length-append, length-drop, length-take-le, take-append-drop, take-append-le}
use Rattle.lc_model.specs.Field.{field_bytes, raw, twos_complement, width}
use Rattle.lc_model.proofs.Facts.{and_second, or_other, tested_at_most}
use Rattle.stream_script.specs.Fields.{written_at}
use Rattle.scenarios.specs.Fields.{bits_there, is_inside, place_of, put_under, reads, with_bits}
use Rattle.scenarios.specs.HostReads.{FieldsApartStay, are_apart}
use Rattle.scenarios.specs.Named.{NamedField}
use Rattle.scenarios.proofs.Written.{field_size, same_size}

-- bytes in front of a place are those of what stands in front of it
in_front : (a size : ℕ) (front rest : List ℕ) → a + size ≤ length front → take ((a + size) - a) (drop a (front ++ rest)) ≡ take ((a + size) - a) (drop a front)
in_front a size front rest inside =
    let begins : a ≤ length front = omega (arith, inside) in
    let left = length-drop a front in
    let enough : (a + size) - a ≤ length (drop a front) = omega (arith, inside, left) in
    ap (λ (xs : List ℕ). take ((a + size) - a) xs) (drop-append-le a front rest begins) ∙ take-append-le ((a + size) - a) (drop a front) rest enough

before_place : (place a size : ℕ) (bytes payload : List ℕ) → place + length bytes ≤ length payload → a + size ≤ place →
    slice_range (written_at place bytes payload) a (a + size) ≡ slice_range payload a (a + size)
before_place place a size bytes payload inside apart =
    let long : place ≤ length payload = omega (arith, inside) in
    let front = length-take-le place payload long in
    let fits : a + size ≤ length (take place payload) = omega (arith, front, apart) in
    ap (λ (xs : List ℕ). take ((a + size) - a) (drop a xs)) (append_assoc (take place payload) bytes (drop (place + length bytes) payload))
    ∙ in_front a size (take place payload) (bytes ++ drop (place + length bytes) payload) fits
    ∙ sym (in_front a size (take place payload) (drop place payload) fits)
    ∙ ap (λ (xs : List ℕ). take ((a + size) - a) (drop a xs)) (take-append-drop place payload)

-- what stands behind the bytes is what stood there
left_behind : (m k : ℕ) (front payload : List ℕ) → length front ≡ m → m ≤ length payload → drop (m + k) (front ++ drop m payload) ≡ drop (m + k) payload
left_behind m k front payload size inside =
    let before = length-take-le m payload inside in
    ap (λ (n : ℕ). drop (n + k) (front ++ drop m payload)) (sym size) ∙ drop-append-add front (drop m payload) k
    ∙ sym (ap (λ (n : ℕ). drop (n + k) (take m payload ++ drop m payload)) (sym before) ∙ drop-append-add (take m payload) (drop m payload) k)
    ∙ ap (λ (xs : List ℕ). drop (m + k) xs) (take-append-drop m payload)

behind_place : (place a size : ℕ) (bytes payload : List ℕ) → place + length bytes ≤ length payload → place + length bytes ≤ a →
    slice_range (written_at place bytes payload) a (a + size) ≡ slice_range payload a (a + size)
behind_place place a size bytes payload inside apart =
    let long : place ≤ length payload = omega (arith, inside) in
    let front = length-take-le place payload long in
    let all = length-append (take place payload) bytes in
    let is : length (take place payload ++ bytes) ≡ place + length bytes = omega (arith, front, all) in
    let at : a ≡ (place + length bytes) + (a - (place + length bytes)) = omega (arith, apart) in
    ap (λ (n : ℕ). take ((a + size) - a) (drop n (written_at place bytes payload))) at
    ∙ ap (λ (xs : List ℕ). take ((a + size) - a) xs) (left_behind (place + length bytes) (a - (place + length bytes)) (take place payload ++ bytes) payload is inside)
    ∙ sym (ap (λ (n : ℕ). take ((a + size) - a) (drop n payload)) at)

same_slice : (f g : NamedField) (bytes payload : List ℕ) → length bytes ≡ width f.kind → place_of f + length bytes ≤ length payload → are_apart f g ≡ true →
    slice_range (written_at (place_of f) bytes payload) (place_of g) (place_of g + width g.kind) ≡ slice_range payload (place_of g) (place_of g + width g.kind)
same_slice f g bytes payload size inside apart = by_first (nat_le (place_of g + width g.kind) (place_of f)) refl
  where
    by_first : (b : Bool) → nat_le (place_of g + width g.kind) (place_of f) ≡ b →
        slice_range (written_at (place_of f) bytes payload) (place_of g) (place_of g + width g.kind) ≡ slice_range payload (place_of g) (place_of g + width g.kind)
    by_first true first = before_place (place_of f) (place_of g) (width g.kind) bytes payload inside (tested_at_most (place_of g + width g.kind) (place_of f) first)
    by_first false first =
        let other = tested_at_most (place_of f + width f.kind) (place_of g) (or_other (nat_le (place_of g + width g.kind) (place_of f)) (nat_le (place_of f + width f.kind) (place_of g)) apart first) in
        behind_place (place_of f) (place_of g) (width g.kind) bytes payload inside (omega (arith, other, size))

same_reading : (f g : NamedField) (z : ℤ) (bytes payload : List ℕ) → length bytes ≡ width f.kind → place_of f + length bytes ≤ length payload → are_apart f g ≡ true →
    reads g z (written_at (place_of f) bytes payload) ≡ reads g z payload
unfolding reads
same_reading f g z bytes payload size inside apart = λ i.
    is_inside g (same_size (place_of f) bytes payload inside i) && int_eq (twos_complement g.kind (bit_and (raw g.kind (same_slice f g bytes payload size inside apart i)) g.mask)) z

pub apart_stay : FieldsApartStay
unfolding with_bits
apart_stay f g z bits payload inside apart =
    let size = field_size f.kind (put_under f.mask bits (bits_there f payload)) in
    let room = tested_at_most (place_of f + width f.kind) (length payload) (and_second (nat_le 12 f.offset) (nat_le (place_of f + width f.kind) (length payload)) inside) in
    same_reading f g z (field_bytes f.kind (put_under f.mask bits (bits_there f payload))) payload size (omega (arith, size, room)) apart
