-- What the host reads in the packets that a scenario says.
use Rattle.std.proofs.Common.{◌≡◌, refl, sym, ◌∙◌, ap, ℕ, ◌+◌, ◌-◌, ◌≤◌, Bool, true, false, nat_le, nat_lt, List, [], ◌∷◌, ◌++◌, length, take, drop, slice_get, bit_and, Option, Some, None, Result, Ok, Err, ℤ, if◌then◌else◌, arith}
use Rattle.std.specs.Prelude.{codes, slice_range}
use Rattle.std.specs.List.{AllByRecursion}
use Rattle.std.specs.Ordering.{int_eq}
use Rattle.std.proofs.Math.Seq.{drop-append-add}
use Rattle.std.proofs.lemmas.Bool.Decides.{Decides-int_eq}
use Rattle.lc_model.specs.declared.field.FieldType.{FieldType}
use Rattle.lc_model.specs.declared.record.Moment.{Moment}
use Rattle.lc_model.specs.Field.{raw, twos_complement, width}
use Rattle.lc_model.specs.Bytes.{u16, u32}
use Rattle.lc_model.specs.Packet.{primary_header, telemetry, telemetry_header_size}
use Rattle.lc_model.proofs.Facts.{and_both, test_not_less, tested_at_most}
use Rattle.scenarios.specs.declared.error.Reason.{Reason}
use Rattle.scenarios.specs.declared.error.Reason.TheVariants.{TwoValues}
use Rattle.scenarios.specs.declared.line.Given.{Given}
use Rattle.scenarios.specs.Error.{◌>>=◌}
use Rattle.scenarios.specs.Fields.{is_inside, place_of, reads, value_there}
use Rattle.scenarios.specs.HostReads.{Gives, HostReads, LinesSayTheirValues}
use Rattle.scenarios.specs.Line.{all_assigned, all_kept, kept, kept_by}
use Rattle.scenarios.specs.Named.{NamedField, NamedPacket, packet_line}
use Rattle.scenarios.specs.Said.{Said, counted, field_reads, lined, most_lines, packet_lined, reads_value}

-- ---- a value that a field reads in a payload is what the host reads in the packet

-- the value of a field of this type at this place of a packet, under a mask
abbrev value_at : FieldType → ℕ → ℕ → List ℕ → Option ℤ
value_at kind offset mask packet = if nat_lt (length packet) (offset + width kind) then None else
    Some (twos_complement kind (bit_and (raw kind (slice_range packet offset (offset + width kind))) mask))

abbrev headers : (mid count : ℕ) → Moment → List ℕ → List ℕ
headers mid count time payload = primary_header mid count (telemetry_header_size + length payload) ++ u32 time.seconds ++ u16 time.subseconds

same_bytes : (mid count : ℕ) (time : Moment) (payload : List ℕ) (place size : ℕ) →
    slice_range (telemetry mid count time payload) (12 + place) (12 + place + size) ≡ slice_range payload place (place + size)
same_bytes mid count time payload place size =
    let one : (12 + place + size) - (12 + place) ≡ size = omega arith in
    let other : (place + size) - place ≡ size = omega arith in
    ap (λ (n : ℕ). take n (drop (12 + place) (telemetry mid count time payload))) one
    ∙ ap (λ (bytes : List ℕ). take size bytes) (drop-append-add (headers mid count time payload) payload place)
    ∙ sym (ap (λ (n : ℕ). take n (drop place payload)) other)

value_behind : (kind : FieldType) (place mask mid count : ℕ) (time : Moment) (payload : List ℕ) → place + width kind ≤ length payload →
    value_at kind (12 + place) mask (telemetry mid count time payload) ≡ Some (twos_complement kind (bit_and (raw kind (slice_range payload place (place + width kind))) mask))
value_behind kind place mask mid count time payload inside =
    let long : 12 + place + width kind ≤ length (telemetry mid count time payload) = omega (arith, inside) in
    rw (test_not_less (length (telemetry mid count time payload)) (12 + place + width kind) long)
    (ap (λ (bytes : List ℕ). Some (twos_complement kind (bit_and (raw kind bytes) mask))) (same_bytes mid count time payload place (width kind)))

record IsRead (f : NamedField) (z : ℤ) (payload : List ℕ) : Type 0 where
  behind : 12 ≤ f.offset
  inside : place_of f + width f.kind ≤ length payload
  value : value_there f payload ≡ z

is_read : (f : NamedField) (z : ℤ) (payload : List ℕ) → reads f z payload ≡ true → IsRead f z payload
unfolding reads
is_read f z payload it =
    let both = and_both (is_inside f (length payload)) (int_eq (value_there f payload) z) it in
    let places = and_both (nat_le 12 f.offset) (nat_le (place_of f + width f.kind) (length payload)) both.0 in
    record {
      behind = tested_at_most 12 f.offset places.0;
      inside = tested_at_most (place_of f + width f.kind) (length payload) places.1;
      value = (Decides-int_eq (value_there f payload) z).0 both.1;
    }

pub host_reads : (f : NamedField) (z : ℤ) (mid count : ℕ) (time : Moment) (payload : List ℕ) → reads f z payload ≡ true → HostReads f z (telemetry mid count time payload)
host_reads f z mid count time payload it t is =
    let there = is_read f z payload it in
    let behind = there.behind in
    let at : f.offset ≡ 12 + place_of f = omega (arith, behind) in
    (λ i. value_at (is.kind i) ((is.offset ∙ at) i) (is.mask i) (telemetry mid count time payload))
    ∙ value_behind f.kind (place_of f) f.mask mid count time payload there.inside
    ∙ ap (λ (v : ℤ). Some v) there.value

-- ---- the steps of a line

record IsStep {A B : Type 0} (r : Result A Reason) (next : A → Result B Reason) (end : B) : Type 0 where
  value : A
  is : r ≡ Ok value
  rest : next value ≡ Ok end

step_of : {A B : Type 0} (r : Result A Reason) (next : A → Result B Reason) (end : B) → (r >>= next) ≡ Ok end → IsStep r next end
step_of (Ok x) next end is = record { value = x; is = refl; rest = is }
step_of (Err reason) next end is = cc is

tested : (b : Bool) (end : Unit {0}) → (if b then Ok tt else Err TwoValues) ≡ Ok end → b ≡ true
tested true end is = refl
tested false end is = cc is

module _ (place : ℕ) (name : List ℕ) (there : Said) (p : NamedPacket) (at : slice_get there.packets place ≡ Some p) where
  -- a word that is kept
  word_reads : (word : List ℕ) → kept place name word there ≡ Ok tt → (f : NamedField) (z : ℤ) → Gives name word there.fields f z → reads f z p.payload ≡ true
  word_reads word keeps f z gives =
      let one = sym (ap (λ (r : Result Given Reason). r >>= kept_by place there) gives.given) ∙ keeps in
      let it : reads_value place gives.place z there ≡ true = tested (reads_value place gives.place z there) tt one in
      sym (λ i. field_reads z (at i) (gives.field i)) ∙ it

  words_read : (words : List (List ℕ)) → all_kept place name words there ≡ Ok tt →
      AllByRecursion (λ (word : List ℕ). (f : NamedField) (z : ℤ) → Gives name word there.fields f z → (time : Moment) → HostReads f z (telemetry p.mid p.count time p.payload)) words
  words_read [] keeps = tt
  words_read (word ∷ words) keeps =
      let one = step_of (kept place name word there) (λ (it : Unit {0}). all_kept place name words there) tt keeps in
      ((λ f z gives time. host_reads f z p.mid p.count time p.payload (word_reads word one.is f z gives)), words_read words one.rest)

-- ---- the packet's line

abbrev script_of : Said → Result Said Reason → List ℕ
script_of other (Ok x) = x.script
script_of other (Err reason) = other.script

lined_script : (n : ℕ) (line : List ℕ) (said after : Said) → lined n line said ≡ Ok after → after.script ≡ said.script ++ line ++ codes "\n"
lined_script n line said after is = by_test (nat_lt (length said.lines) most_lines) refl
  where
    by_test : (b : Bool) → nat_lt (length said.lines) most_lines ≡ b → after.script ≡ said.script ++ line ++ codes "\n"
    by_test true few = sym (ap (script_of said) (rw few at is))
    by_test false few = let never = rw few at is in cc never

pub says_values : LinesSayTheirValues
says_values n place name words said after is =
    let first = step_of (all_assigned name words said) _ after is in
    let second = step_of (all_kept place name words first.value) _ after first.rest in
    record {
      there = first.value;
      written = first.is;
      says = second.rest;
      script = λ p at. lined_script n (packet_line p) (counted place p first.value) after (sym (ap (packet_lined n place first.value) at) ∙ second.rest);
      values = λ p at. words_read place name first.value p at words second.is;
    }
