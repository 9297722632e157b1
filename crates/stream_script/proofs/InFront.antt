-- What is found in front of a stream is what a stream has there.
use Rattle.std.proofs.Common.{◌≡◌, refl, sym, ◌∙◌, ap, subst, ℕ, ◌+◌, Bool, true, false, not, ◌||◌, ◌==◌, nat_lt, List, [], ◌∷◌, length, take, drop, slice_index, arith, Option, Some, None, if◌then◌else◌}
use Rattle.hex.specs.Hex.{IsBytes}
use Rattle.lc_model.specs.declared.kind.Kind.TheVariants.{Wdt, Adt}
use Rattle.lc_model.specs.Name.{Name, name_in}
use Rattle.lc_model.specs.Bytes.{u16_at}
use Rattle.lc_model.specs.Host.Stream.{Contents, all_kinds, body_size, contents_of, fits_body, front, half_contents, header_size, moment_of, record_of}
use Rattle.lc_model.specs.Host.Stream as stream
use Rattle.lc_model.proofs.Facts.{or_first, or_other, or_second, test_less, test_unequal}
use Rattle.stream_script.specs.declared.kind.RecordKind.{RecordKind}
use Rattle.stream_script.specs.declared.kind.RecordKind.TheVariants.{Packet, Tick, File, Half}
use Rattle.stream_script.specs.declared.front.Front.{Front}
use Rattle.stream_script.specs.declared.front.Front.TheVariants.{End, Record, NoRecord, Cut}
use Rattle.stream_script.specs.Front.{Reads, any_text, body_in_front, front_in, front_of_kind, record_size}
use Rattle.stream_script.specs.Kind.{has_half, kind_number, kind_numbered}
use Rattle.stream_script.proofs.Stands.{bytes_before, bytes_behind, numbered}

-- ---- what a body brings

half_some : (name : Name) (half text : ℕ) → nat_lt text any_text ≡ true → (half == 1 || half == 2) ≡ true → (c : Contents) × (half_contents any_text name half text ≡ Some c)
half_some name half text few is = by_test (half == 1) refl
  where
    by_test : (t : Bool) → (half == 1) ≡ t → (c : Contents) × (half_contents any_text name half text ≡ Some c)
    by_test true one = (stream.Half name Wdt text, rw (few, one) refl)
    by_test false one = (stream.Half name Adt text, rw (few, one, or_other (half == 1) (half == 2) is one) refl)

half_none : (name : Name) (half text : ℕ) → nat_lt text any_text ≡ true → (half == 1 || half == 2) ≡ false → half_contents any_text name half text ≡ None
half_none name half text few is = rw (few, or_first (half == 1) (half == 2) is, or_second (half == 1) (half == 2) is) refl

any_number : (body : List ℕ) → IsBytes body → nat_lt (u16_at body 41) any_text ≡ true
any_number body are =
    let behind : IsBytes (drop 41 body) = bytes_behind 41 body are in
    test_less (u16_at body 41) any_text (omega (arith, behind 0, behind 1))

contents_some : (kind : RecordKind) (body : List ℕ) → IsBytes body → has_half kind body ≡ true → (c : Contents) × (contents_of any_text (kind_number kind) body ≡ Some c)
contents_some Packet body are is = (stream.Packet body, refl)
contents_some Tick body are is = (stream.Tick, refl)
contents_some File body are is = (stream.File (name_in (take 40 body)) (drop 40 body), refl)
contents_some Half body are is = half_some (name_in (take 40 body)) (slice_index body 40) (u16_at body 41) (any_number body are) is

contents_none : (kind : RecordKind) (body : List ℕ) → IsBytes body → has_half kind body ≡ false → contents_of any_text (kind_number kind) body ≡ None
contents_none Packet body are is = cc is
contents_none Tick body are is = cc is
contents_none File body are is = cc is
contents_none Half body are is = half_none (name_in (take 40 body)) (slice_index body 40) (u16_at body 41) (any_number body are) is

-- ---- what stands in front, by both definitions

no_kind : (k size : ℕ) → kind_numbered k ≡ None → fits_body all_kinds k size ≡ false
no_kind k size none = by_one (k == 1) refl
  where
    by_four : (k == 1) ≡ false → (k == 2) ≡ false → (k == 3) ≡ false → (t : Bool) → (k == 4) ≡ t → fits_body all_kinds k size ≡ false
    by_four one two three true four = cc (rw (one, two, three, four) at none)
    by_four one two three false four = rw (one, two, three, four) refl

    by_three : (k == 1) ≡ false → (k == 2) ≡ false → (t : Bool) → (k == 3) ≡ t → fits_body all_kinds k size ≡ false
    by_three one two true three = cc (rw (one, two, three) at none)
    by_three one two false three = by_four one two three (k == 4) refl

    by_two : (k == 1) ≡ false → (t : Bool) → (k == 2) ≡ t → fits_body all_kinds k size ≡ false
    by_two one true two = cc (rw (one, two) at none)
    by_two one false two = by_three one two (k == 3) refl

    by_one : (t : Bool) → (k == 1) ≡ t → fits_body all_kinds k size ≡ false
    by_one true one = cc (rw one at none)
    by_one false one = by_two one (k == 2) refl

by_tests : (k : ℕ) (bytes : List ℕ) → nat_lt (length (k ∷ bytes)) header_size ≡ false → fits_body all_kinds k (body_size (k ∷ bytes)) ≡ true →
    nat_lt (length (k ∷ bytes)) (header_size + body_size (k ∷ bytes)) ≡ false →
    front all_kinds any_text (k ∷ bytes) ≡ record_of (contents_of any_text k (body_in_front (k ∷ bytes))) (moment_of (k ∷ bytes)) (drop (record_size (k ∷ bytes)) (k ∷ bytes))
by_tests k bytes long fits whole = rw (long, fits, whole) refl

module _ (k : ℕ) (bs : List ℕ) (are : IsBytes (k ∷ bs)) where
  body_are : IsBytes (body_in_front (k ∷ bs))
  body_are = bytes_behind 11 (take (record_size (k ∷ bs)) (k ∷ bs)) (bytes_before (record_size (k ∷ bs)) (k ∷ bs) are)

  by_half : (kind : RecordKind) → kind_number kind ≡ k → nat_lt (length (k ∷ bs)) header_size ≡ false → fits_body all_kinds k (body_size (k ∷ bs)) ≡ true →
      nat_lt (length (k ∷ bs)) (record_size (k ∷ bs)) ≡ false → (t : Bool) → has_half kind (body_in_front (k ∷ bs)) ≡ t →
      Reads (k ∷ bs) (if not t then NoRecord else Record kind (record_size (k ∷ bs)))
  by_half kind number long fits whole true half =
      let brings = contents_some kind (body_in_front (k ∷ bs)) body_are half in
      let known : contents_of any_text k (body_in_front (k ∷ bs)) ≡ Some brings.0 = sym (ap (λ (n : ℕ). contents_of any_text n (body_in_front (k ∷ bs))) number) ∙ brings.1 in
      record {
        contents = brings.0;
        brings = brings.1;
        there = by_tests k bs long fits whole ∙ ap (λ (o : Option Contents). record_of o (moment_of (k ∷ bs)) (drop (record_size (k ∷ bs)) (k ∷ bs))) known;
      }
  by_half kind number long fits whole false half =
      let known : contents_of any_text k (body_in_front (k ∷ bs)) ≡ None =
      sym (ap (λ (n : ℕ). contents_of any_text n (body_in_front (k ∷ bs))) number) ∙ contents_none kind (body_in_front (k ∷ bs)) body_are half in
      by_tests k bs long fits whole ∙ ap (λ (o : Option Contents). record_of o (moment_of (k ∷ bs)) (drop (record_size (k ∷ bs)) (k ∷ bs))) known

  by_whole : (kind : RecordKind) → kind_number kind ≡ k → nat_lt (length (k ∷ bs)) header_size ≡ false → fits_body all_kinds k (body_size (k ∷ bs)) ≡ true →
      (t : Bool) → nat_lt (length (k ∷ bs)) (record_size (k ∷ bs)) ≡ t →
      Reads (k ∷ bs) (if t then Cut else if not (has_half kind (body_in_front (k ∷ bs))) then NoRecord else Record kind (record_size (k ∷ bs)))
  by_whole kind number long fits true cut = rw (long, fits, cut) refl
  by_whole kind number long fits false whole = by_half kind number long fits whole (has_half kind (body_in_front (k ∷ bs))) refl

  by_fits : (kind : RecordKind) → kind_number kind ≡ k → nat_lt (length (k ∷ bs)) header_size ≡ false → (t : Bool) → fits_body all_kinds (kind_number kind) (body_size (k ∷ bs)) ≡ t →
      Reads (k ∷ bs) (if not t then NoRecord else if nat_lt (length (k ∷ bs)) (record_size (k ∷ bs)) then Cut
      else if not (has_half kind (body_in_front (k ∷ bs))) then NoRecord else Record kind (record_size (k ∷ bs)))
  by_fits kind number long true fits =
      by_whole kind number long (sym (ap (λ (n : ℕ). fits_body all_kinds n (body_size (k ∷ bs))) number) ∙ fits) (nat_lt (length (k ∷ bs)) (record_size (k ∷ bs))) refl
  by_fits kind number long false fits =
      let none : fits_body all_kinds k (body_size (k ∷ bs)) ≡ false = sym (ap (λ (n : ℕ). fits_body all_kinds n (body_size (k ∷ bs))) number) ∙ fits in
      rw (long, none) refl

  by_kind : nat_lt (length (k ∷ bs)) header_size ≡ false → (o : Option RecordKind) → kind_numbered k ≡ o → Reads (k ∷ bs) (front_of_kind o (k ∷ bs))
  by_kind long None is = rw (long, no_kind k (body_size (k ∷ bs)) is) refl
  by_kind long (Some kind) is = by_fits kind (numbered k kind is) long (fits_body all_kinds (kind_number kind) (body_size (k ∷ bs))) refl

  by_long : (t : Bool) → nat_lt (length (k ∷ bs)) header_size ≡ t → Reads (k ∷ bs) (if t then Cut else front_of_kind (kind_numbered k) (k ∷ bs))
  by_long true short = rw short refl
  by_long false long = by_kind long (kind_numbered k) refl

  some_reads : Reads (k ∷ bs) (front_in (k ∷ bs))
  some_reads =
      subst (λ (none : Bool). Reads (k ∷ bs) (if none then End else if nat_lt (length (k ∷ bs)) header_size then Cut else front_of_kind (kind_numbered k) (k ∷ bs)))
      (sym (test_unequal (length (k ∷ bs)) 0 (λ same. omega (arith, same)))) (by_long (nat_lt (length (k ∷ bs)) header_size) refl)

reads : (bytes : List ℕ) → IsBytes bytes → Reads bytes (front_in bytes)
reads [] are = refl
reads (k ∷ bs) are = some_reads k bs are

pub reads_so : (bytes : List ℕ) (f : Front) → IsBytes bytes → f ≡ front_in bytes → Reads bytes f
reads_so bytes f are is = subst (Reads bytes) (sym is) (reads bytes are)
