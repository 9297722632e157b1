-- An export, record by record.
use Rattle.std.proofs.Common.{◌≡◌, refl, sym, ◌∙◌, ap, ℕ, ◌+◌, ◌≤◌, ◌==◌, Bool, true, false, not, nat_lt, List, [], ◌∷◌, ◌++◌, length, take, drop, slice_index, length-drop, append_assoc, append-nil, Option, Some, None, if◌then◌else◌, arith}
use Rattle.lc_model.specs.declared.kind.Kind.TheVariants.{Wdt, Adt}
use Rattle.lc_model.specs.Bytes.{u16_at}
use Rattle.lc_model.specs.Name.{name_in, name_size}
use Rattle.lc_model.specs.Host.Stream.{Contents, all_kinds, contents_of, front, half_contents}
use Rattle.lc_model.specs.Host.Stream as stream
use Rattle.stream_script.specs.declared.front.Front.{Front}
use Rattle.stream_script.specs.declared.front.Front.TheVariants.{End, Record, NoRecord, Cut}
use Rattle.stream_script.specs.declared.kind.RecordKind.{RecordKind}
use Rattle.stream_script.specs.declared.kind.RecordKind.TheVariants.{Packet, Tick, File, Half}
use Rattle.stream_script.specs.Front.{IsInside, IsRead, Reads, any_text, body_in_front, front_in, record_size}
use Rattle.stream_script.specs.Kind.{kind_number}
use Rattle.packet_archive.specs.Export.{exported, left_by, left_of, packet_by, packet_in_front, packet_of, record_passed}
use Rattle.packet_archive.proofs.Exports.{exported_by, exported_front, left_front}

-- ---- a record in front

-- what it brings is what its kind and its body add
abbrev packet_or : Option Contents → List ℕ
packet_or None = []
packet_or (Some contents) = packet_of contents

half_brings : (name : List ℕ) (half text : ℕ) → packet_or (half_contents any_text name half text) ≡ []
half_brings name half text = by_tests (nat_lt text any_text) (half == 1) (half == 2)
  where
    by_tests : (known one two : Bool) → packet_or (if not known then None else if one then Some (stream.Half name Wdt text) else if two then Some (stream.Half name Adt text) else None) ≡ []
    by_tests false one two = refl
    by_tests true true two = refl
    by_tests true false true = refl
    by_tests true false false = refl

by_kind : (kind : RecordKind) (body : List ℕ) → packet_or (contents_of any_text (kind_number kind) body) ≡ packet_by kind body
by_kind Packet body = refl
by_kind Tick body = refl
by_kind File body = refl
by_kind Half body = half_brings (name_in (take name_size body)) (slice_index body name_size) (u16_at body (name_size + 1))

same_packet : (kind : RecordKind) (body : List ℕ) (contents : Contents) → contents_of any_text (kind_number kind) body ≡ Some contents → packet_of contents ≡ packet_by kind body
same_packet kind body contents is = sym (ap packet_or is) ∙ by_kind kind body

exported_record : (bytes : List ℕ) (kind : RecordKind) → IsRead bytes kind → exported bytes ≡ packet_by kind (body_in_front bytes) ++ exported (drop (record_size bytes) bytes)
exported_record bytes kind is =
    exported_front bytes
    ∙ ap exported_by is.there
    ∙ ap (λ packet. packet ++ exported (drop (record_size bytes) bytes)) (same_packet kind (body_in_front bytes) is.contents is.brings)

left_record : (bytes : List ℕ) (kind : RecordKind) → IsRead bytes kind → left_of bytes ≡ left_of (drop (record_size bytes) bytes)
left_record bytes kind is = left_front bytes ∙ ap (left_by left_of bytes) is.there

-- ---- none in front

exported_none : (bytes : List ℕ) (f : Front) → Reads bytes f → record_passed f ≡ None → exported bytes ≡ []
exported_none bytes End is none = ap exported is
exported_none bytes NoRecord is none = exported_front bytes ∙ ap exported_by is
exported_none bytes Cut is none = exported_front bytes ∙ ap exported_by is
exported_none bytes (Record kind size) is none = absurd (cc none)

left_none : (bytes : List ℕ) (f : Front) → Reads bytes f → record_passed f ≡ None → left_of bytes ≡ bytes
left_none bytes End is none = left_front bytes ∙ ap (left_by left_of bytes) (ap (front all_kinds any_text) is)
left_none bytes NoRecord is none = left_front bytes ∙ ap (left_by left_of bytes) is
left_none bytes Cut is none = left_front bytes ∙ ap (left_by left_of bytes) is
left_none bytes (Record kind size) is none = absurd (cc none)

adds_none : (bytes : List ℕ) (f : Front) → record_passed f ≡ None → packet_in_front bytes f ≡ []
adds_none bytes End none = refl
adds_none bytes NoRecord none = refl
adds_none bytes Cut none = refl
adds_none bytes (Record kind size) none = absurd (cc none)

-- ---- so far

pub record Exporting (bytes base : List ℕ) (counter : ℕ) (out left : List ℕ) : Type 0 where
  pub spare : counter + length left ≤ length bytes
  pub writes : out ++ exported left ≡ base ++ exported bytes
  pub leaves : left_of left ≡ left_of bytes

pub begun : (bytes base : List ℕ) → Exporting bytes base 0 base bytes
begun bytes base = record { spare = omega arith; writes = refl; leaves = refl }

-- where an export ends
pub record Exported (bytes base out left : List ℕ) (f : Front) : Type 0 where
  pub written : out ≡ base ++ exported bytes
  pub is_left : left ≡ left_of bytes
  pub stands : f ≡ front_in (left_of bytes)

module _ (bytes base : List ℕ) (counter : ℕ) (out left : List ℕ) (so_far : Exporting bytes base counter out left) where
  -- nothing is left
  pub over : length bytes ≤ counter → Exported bytes base out left End
  over past = by_left left so_far.spare so_far.writes so_far.leaves
    where
      by_left : (left : List ℕ) → counter + length left ≤ length bytes → out ++ exported left ≡ base ++ exported bytes → left_of left ≡ left_of bytes → Exported bytes base out left End
      by_left [] spare writes leaves = record {
        written = sym (append-nil out) ∙ writes;
        is_left = sym (left_none [] End refl refl) ∙ leaves;
        stands = ap front_in (sym (left_none [] End refl refl) ∙ leaves);
      }
      by_left (b ∷ left) spare writes leaves = absurd (omega (arith, spare, past))

  module _ (f : Front) (after : List ℕ) (is : f ≡ front_in left) (reads : Reads left f) (written : after ≡ out ++ packet_in_front left (front_in left)) where
    adds : after ≡ out ++ packet_in_front left f
    adds = written ∙ ap (λ (g : Front). out ++ packet_in_front left g) (sym is)

    -- no record stands in front
    pub ended : record_passed f ≡ None → Exported bytes base after left f
    ended none = record {
      written =
          adds
          ∙ ap (λ packet. out ++ packet) (adds_none left f none ∙ sym (exported_none left f reads none))
          ∙ so_far.writes;
      is_left = sym (left_none left f reads none) ∙ so_far.leaves;
      stands = is ∙ ap front_in (sym (left_none left f reads none) ∙ so_far.leaves);
    }

    -- one does
    pub one_more : (size : ℕ) → record_passed f ≡ Some size → IsInside left f → Exporting bytes base (counter + 1) after (drop size left)
    one_more size some inside = by_front f reads inside adds some
      where
        by_front : (g : Front) → Reads left g → IsInside left g → after ≡ out ++ packet_in_front left g → record_passed g ≡ Some size →
            Exporting bytes base (counter + 1) after (drop size left)
        by_front End reads inside adds some = absurd (cc some)
        by_front NoRecord reads inside adds some = absurd (cc some)
        by_front Cut reads inside adds some = absurd (cc some)
        by_front (Record kind n) reads inside adds some =
            let same : n ≡ size = cc some in
            let behind : drop (record_size left) left ≡ drop size left = ap (λ k. drop k left) (sym inside.0 ∙ same) in
            record {
              spare = omega (arith, so_far.spare, length-drop size left, inside.1, inside.2, same);
              writes =
                  ap (λ front. front ++ exported (drop size left)) adds
                  ∙ append_assoc out (packet_by kind (body_in_front left)) (exported (drop size left))
                  ∙ ap (λ rest. out ++ rest) (ap (λ rest. packet_by kind (body_in_front left) ++ exported rest) (sym behind) ∙ sym (exported_record left kind reads))
                  ∙ so_far.writes;
              leaves = ap left_of (sym behind) ∙ sym (left_record left kind reads) ∙ so_far.leaves;
            }
