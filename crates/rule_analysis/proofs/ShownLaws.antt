-- Packets in which fields have the bits that were found make the condition true, where no two fields share a bit.
use Rattle.std.proofs.Common.{◌≡◌, ℕ, zero, suc, ◌+◌, ◌-◌, ◌≤◌, ◌<◌, nat_le, nat_lt, Bool, true, false, ◌&&◌, ◌||◌, ◌==◌, not, if◌then◌else◌, List, [], ◌∷◌, ◌++◌, length, drop, refl, ap, sym, ◌∙◌, subst, arith, get_or, slice_get, slice_range, Some, None, bit_and}
use Rattle.std.specs.Prelude.{IsTrue, IsFalse}
use Rattle.std.specs.Int.{byte_at}
use Rattle.std.specs.Int.Bits.{and_zero_r}
use Rattle.std.specs.List.{AllByRecursion, list_any}
use Rattle.std.proofs.lemmas.Bool.Decides.{nat_tests}
use Rattle.std.proofs.lemmas.List.{get_or-take, get_or-drop}
use Rattle.lc_model.specs.declared.field.Term.{Term}
use Rattle.lc_model.specs.Field.{full_mask, width, raw, value_of, twos_complement}
use Rattle.lc_model.specs.Packet.{is_telemetry_mid, reserved_mids}
use Rattle.lc_model.specs.Tables.Image.{numbers_below}
use Rattle.rule_analysis.specs.declared.fields.Field.{Field}
use Rattle.rule_analysis.specs.declared.packets.Chosen.{Chosen}
use Rattle.rule_analysis.specs.Judgement.{place_of, value_by}
use Rattle.rule_analysis.specs.Fields.{AreDifferent, field_read, is_field_of, is_one}
use Rattle.rule_analysis.specs.Bits.{byte_number, byte_there, bits_read, header_bits, reads_some, share_a_bit, share_bits, ReadsTelemetry}
use Rattle.rule_analysis.specs.Laid.{IsLaid, HasRoom, chosen_of, packet_byte}
use Rattle.rule_analysis.proofs.Each.{each}
use Rattle.rule_analysis.proofs.FieldLaws.{same_place}
use Rattle.rule_analysis.proofs.LaidLaws.{pair_of}
use Rattle.rule_analysis.proofs.TelemetryLaws.{at_most, first_holds, first_none, no_less, second_holds, second_none}
use Rattle.rule_analysis.proofs.BitLaws.{few_bits, LeavesAt, LeaveOthers, has_bits, header_leaves, small_packet_byte, reads_alike}

-- ---- tests

pub equal : (m n : ℕ) → (m == n) ≡ true → m ≡ n
equal m n e = grind (arith, nat_tests)

no_bits : (n : ℕ) → not (n == 0) ≡ false → n ≡ 0
no_bits n e = grind (arith, nat_tests)

-- ---- lists

none_before : {A : Type 0} (P : A → Bool) (xs ys : List A) → list_any P (xs ++ ys) ≡ false → list_any P xs ≡ false
none_before P [] ys none = refl
none_before P (x ∷ xs) ys none = by_test (P x) none (none_before P xs ys)
  where
    by_test : (test : Bool) → (test || list_any P (xs ++ ys)) ≡ false → (list_any P (xs ++ ys) ≡ false → list_any P xs ≡ false) → (test || list_any P xs) ≡ false
    by_test true e later = cc
    by_test false e later = later e

none_behind : {A : Type 0} (P : A → Bool) (xs : List A) (y : A) → list_any P (xs ++ y ∷ []) ≡ false → P y ≡ false
none_behind P [] y none = first_none (P y) false none
none_behind P (x ∷ xs) y none = none_behind P xs y (second_none (P x) (list_any P (xs ++ y ∷ [])) none)

none_of : {A : Type 0} (P : A → Bool) (xs : List A) → list_any P xs ≡ false → AllByRecursion (λ x. P x ≡ false) xs
none_of P [] none = tt
none_of P (x ∷ xs) none = (first_none (P x) (list_any P xs) none, none_of P xs (second_none (P x) (list_any P xs) none))

-- what holds of each of some holds of one that passes a test
pub where_any : {A : Type 0} (P : A → Bool) (Q : Type 0) (xs : List A) → AllByRecursion (λ x. IsTrue (P x) → Q) xs → IsTrue (list_any P xs) → Q
where_any P Q [] all any = absurd (cc any)
where_any P Q (x ∷ xs) all any = by_test (P x) all.0 (where_any P Q xs all.1) any
  where
    by_test : (test : Bool) → (IsTrue test → Q) → (IsTrue (list_any P xs) → Q) → IsTrue (test || list_any P xs) → Q
    by_test true here there e = here refl
    by_test false here there e = there e

pub all_at : {A : Type 0} (P : A → Type 0) (xs : List A) (k : ℕ) (x : A) → AllByRecursion P xs → slice_get xs k ≡ Some x → P x
all_at P [] k x all is = absurd (cc is)
all_at P (y ∷ xs) zero x all is = let same : y ≡ x = cc is in subst P same all.0
all_at P (y ∷ xs) (suc k) x all is = all_at P xs k x all.1 is

-- ---- places of a field

none_at : (P : ℕ → Bool) (n k : ℕ) → k < n → list_any P (numbers_below n) ≡ false → P k ≡ false
none_at P zero k below none = absurd (omega (arith, below))
none_at P (suc n) k below none = by_test (k == n) refl (λ less. none_at P n k less (none_before P (numbers_below n) (n ∷ []) none))
  where
    less : (k == n) ≡ false → k < n
    less e = grind (arith, nat_tests)

    by_test : (test : Bool) → (k == n) ≡ test → (k < n → P k ≡ false) → P k ≡ false
    by_test true e before = ap P (equal k n e) ∙ none_behind P (numbers_below n) n none
    by_test false e before = before (less e)

-- where no bit of a field is one of these
pub apart_at : (bits : ℕ → ℕ) (f : Field) (place : ℕ) → reads_some bits f ≡ false → bit_and (bits place) (bits_read f place) ≡ 0
apart_at bits f place none = by_test (nat_le f.offset place && nat_lt place (f.offset + width f.kind)) refl
  where
    inside : f.offset ≤ place → place < f.offset + width f.kind → bit_and (bits place) (bits_read f place) ≡ 0
    inside starts ends =
        let at : f.offset + (place - f.offset) ≡ place = omega (arith, starts) in
        ap (λ p. bit_and (bits p) (bits_read f p)) (sym at) ∙ no_bits (bit_and (bits (f.offset + (place - f.offset))) (bits_read f (f.offset + (place - f.offset))))
        (none_at (λ behind. not (bit_and (bits (f.offset + behind)) (bits_read f (f.offset + behind)) == 0)) (width f.kind) (place - f.offset) (omega (arith, starts, ends)) none)

    le_of : (m n : ℕ) → nat_le m n ≡ true → m ≤ n
    le_of m n e = grind (arith, nat_tests)

    lt_of : (m n : ℕ) → nat_lt m n ≡ true → m < n
    lt_of m n e = grind (arith, nat_tests)

    by_test : (test : Bool) → (nat_le f.offset place && nat_lt place (f.offset + width f.kind)) ≡ test → bit_and (bits place) (bits_read f place) ≡ 0
    by_test true e =
        inside (le_of f.offset place (first_holds (nat_le f.offset place) (nat_lt place (f.offset + width f.kind)) e))
        (lt_of place (f.offset + width f.kind) (second_holds (nat_le f.offset place) (nat_lt place (f.offset + width f.kind)) e))
    by_test false e = ap (bit_and (bits place)) (ap (λ test. if test then byte_at (byte_number f.kind (place - f.offset)) f.mask else 0) e) ∙ and_zero_r (bits place)

-- what a number has at a place of the field
there_inside : (f : Field) (n i : ℕ) → i < width f.kind → byte_there f n (f.offset + i) ≡ byte_at (byte_number f.kind i) n
there_inside f n i inside =
    ap (λ test. if test then byte_at (byte_number f.kind (f.offset + i - f.offset)) n else 0) tested ∙ ap (λ k. byte_at (byte_number f.kind k) n) (omega arith)
  where
    below : nat_lt (f.offset + i) (f.offset + width f.kind) ≡ true
    below = grind (arith, nat_tests)

    above : nat_le f.offset (f.offset + i) ≡ true
    above = grind (arith, nat_tests)

    tested : (nat_le f.offset (f.offset + i) && nat_lt (f.offset + i) (f.offset + width f.kind)) ≡ true
    tested = λ k. above k && below k

-- ---- the fields of terms, none of which shares a bit with another

-- the terms' share of what is asked
pub record IsFree (f : Field) : Type 0 where
  pub mid : IsTrue (is_telemetry_mid f.mid)
  pub free : list_any (◌==◌ f.mid) reserved_mids ≡ false
  pub end : f.offset + width f.kind ≤ 2048
  pub mask : f.mask ≤ full_mask f.kind
  pub header : reads_some header_bits f ≡ false

-- no bit of the second one is one of the first one's
abbrev AreApart : Field → Field → Type 0
AreApart g f = (g.mid == f.mid) && not (is_one g f) && reads_some (bits_read g) f ≡ false

pub same_field : (t : Term) (f : Field) → IsTrue (is_field_of t f) → field_read t ≡ f
same_field t f is =
    let back = sym (same_place t f is) in λ i. record { kind = (back i).kind; mid = (back i).mid; offset = (back i).offset; mask = (back i).mask }

-- the term reads the header, or shares a bit with a term of these
abbrev shares_at : List Term → Term → Bool
shares_at terms t = reads_some header_bits (field_read t) || list_any (λ u. share_a_bit (field_read u) (field_read t)) terms

-- some term reads the field
abbrev pub IsRead : List Term → Field → Type 0
IsRead terms f = IsTrue (list_any (λ t. is_field_of t f) terms)

free_by : (terms ts : List Term) (f : Field) → AllByRecursion ReadsTelemetry ts → AllByRecursion (λ t. shares_at terms t ≡ false) ts →
    AllByRecursion (λ t. IsTrue (is_field_of t f) → IsFree f) ts
free_by terms [] f all none = tt
free_by terms (t ∷ ts) f all none = (
  (λ is. subst IsFree (same_field t f is) (record {
    mid = all.0.mid;
    free = all.0.free;
    end = all.0.end;
    mask = all.0.mask;
    header = first_none (reads_some header_bits (field_read t)) (list_any (λ u. share_a_bit (field_read u) (field_read t)) terms) none.0;
  })),
  free_by terms ts f all.1 none.1,
)

module _ (terms : List Term) (all : AllByRecursion ReadsTelemetry terms) (none : share_bits terms ≡ false) where
  each_none : AllByRecursion (λ t. shares_at terms t ≡ false) terms
  each_none = none_of (shares_at terms) terms none

  pub is_free : (f : Field) → IsRead terms f → IsFree f
  is_free f read = where_any (λ t. is_field_of t f) (IsFree f) terms (free_by terms terms f all each_none) read

  apart : (g f : Field) → IsRead terms g → IsRead terms f → share_a_bit g f ≡ false
  apart g f g_read f_read =
      where_any (λ t. is_field_of t f) (share_a_bit g f ≡ false) terms (each terms by_term each_none) f_read
    where
      by_term : (t : Term) → shares_at terms t ≡ false → IsTrue (is_field_of t f) → share_a_bit g f ≡ false
      by_term t alone is =
          subst (λ h. share_a_bit g h ≡ false) (same_field t f is)
          (where_any (λ u. is_field_of u g) (share_a_bit g (field_read t) ≡ false) terms
          (each terms (λ u e own. subst (λ h. share_a_bit h (field_read t) ≡ false) (same_field u g own) e)
          (none_of (λ u. share_a_bit (field_read u) (field_read t)) terms (second_none (reads_some header_bits (field_read t)) (list_any (λ u. share_a_bit (field_read u) (field_read t)) terms) alone)))
          g_read)

  third : (a b c : Bool) → a ≡ true → b ≡ false → (a && not b && c) ≡ false → c ≡ false
  third true false c same other e = e
  third false b c same other e = cc
  third true true c same other e = cc

  later : (f : Field) (place : ℕ) → IsRead terms f → (gs : List Field) (bits : List ℕ) → AllByRecursion (IsRead terms) gs → AllByRecursion (λ g. IsFalse (is_one g f)) gs →
      AllByRecursion (LeavesAt f.mid place (bits_read f place)) (chosen_of gs bits)
  later f place read [] bits reads others = tt
  later f place read (g ∷ gs) [] reads others = tt
  later f place read (g ∷ gs) (b ∷ bits) reads others = (
    (λ same. apart_at (bits_read g) f place
        (third (g.mid == f.mid) (is_one g f) (reads_some (bits_read g) f) (grind (arith, nat_tests)) others.0 (apart g f reads.0 read))),
    later f place read gs bits reads.1 others.1,
  )

  pub leave_others : (fields : List Field) (bits : List ℕ) → AllByRecursion (IsRead terms) fields → AreDifferent fields → LeaveOthers (chosen_of fields bits)
  unfolding AreDifferent LeaveOthers
  leave_others [] bits reads once = tt
  leave_others (f ∷ fields) [] reads once = tt
  leave_others (f ∷ fields) (b ∷ bits) reads once =
      ((λ place. later f place reads.0 fields bits reads.1 once.0), leave_others fields bits reads.1 once.1)

-- ---- what is read of a packet

part_at : (bytes : List ℕ) (from to i : ℕ) → i < to - from → get_or (slice_range bytes from to) i 0 ≡ get_or bytes (from + i) 0
part_at bytes from to i inside = get_or-take (to - from) (drop from bytes) i 0 inside ∙ get_or-drop from bytes i 0

pub reads_bits : (t : Term) (b n : ℕ) (chosen : List Chosen) (packet : List ℕ) → IsFree (field_read t) → slice_get chosen n ≡ Some (pair_of (field_read t) b) →
    LeaveOthers chosen → IsLaid chosen t.mid packet → value_of t packet ≡ Some (value_by (place_of t) b)
reads_bits t b n chosen packet free here leave is =
    ap (λ test. if test then None else Some (twos_complement t.kind (bit_and (raw t.kind (slice_range packet t.offset (t.offset + width t.kind))) t.mask))) long
    ∙ ap (λ n. Some (twos_complement t.kind n)) (reads_alike t.kind (slice_range packet t.offset (t.offset + width t.kind)) b t.mask free.mask small own)
  where
    room : t.offset + width t.kind ≤ length packet
    room = all_at (HasRoom t.mid (length packet)) chosen n (pair_of (field_read t) b) is.size.room here refl free.end

    long : nat_lt (length packet) (t.offset + width t.kind) ≡ false
    long = no_less (length packet) (t.offset + width t.kind) room

    byte_is : (i : ℕ) → i < width t.kind →
        get_or (slice_range packet t.offset (t.offset + width t.kind)) i 0 ≡ packet_byte chosen t.mid (length packet) (t.offset + i)
    byte_is i inside = part_at packet t.offset (t.offset + width t.kind) i (omega (arith, inside)) ∙ is.bytes (t.offset + i) (omega (arith, inside, room))

    small : (i : ℕ) → i < width t.kind → get_or (slice_range packet t.offset (t.offset + width t.kind)) i 0 < 256
    small i inside =
        subst (λ byte. byte < 256) (sym (byte_is i inside)) (small_packet_byte chosen t.mid (length packet) (t.offset + i) (omega (arith, at_most t.mid free.mid)) is.size.most)

    at_place : (place : ℕ) → bit_and (packet_byte chosen t.mid (length packet) place) (bits_read (field_read t) place)
        ≡ bit_and (byte_there (field_read t) b place) (bits_read (field_read t) place)
    at_place place =
        header_leaves chosen t.mid (length packet) place (bits_read (field_read t) place) (few_bits (field_read t) place) (apart_at header_bits (field_read t) place free.header)
        ∙ has_bits chosen n (pair_of (field_read t) b) place 0 here leave

    own : (i : ℕ) → i < width t.kind → bit_and (get_or (slice_range packet t.offset (t.offset + width t.kind)) i 0) (byte_at (byte_number t.kind i) t.mask)
        ≡ bit_and (byte_at (byte_number t.kind i) b) (byte_at (byte_number t.kind i) t.mask)
    own i inside =
        (λ k. bit_and (byte_is i inside k) (sym (there_inside (field_read t) t.mask i inside) k)) ∙ at_place (t.offset + i)
        ∙ (λ k. bit_and (there_inside (field_read t) b i inside k) (there_inside (field_read t) t.mask i inside k))
