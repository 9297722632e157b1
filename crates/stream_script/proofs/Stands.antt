-- What is known of a record in front, and that its bytes are those of its moment, its kind and its body.
use Rattle.std.proofs.Common.{◌≡◌, refl, sym, ◌∙◌, ap, subst, ℕ, zero, suc, ◌+◌, ◌<◌, ◌≤◌, ◌^◌, ◌⊎◌, inl, inr, Bool, true, false, not, ◌==◌, nat_lt, List, [], ◌∷◌, ◌++◌, length, take, drop, slice_index, arith, length-drop, length-take-le, Option, Some, None, if◌then◌else◌, lit<}
use Rattle.std.specs.Int.{w16, w32, from_be_bytes}
use Rattle.std.proofs.lemmas.Nat.{be_bytes_2, be_bytes_4}
use Rattle.hex.specs.Hex.{IsBytes}
use Rattle.lc_model.specs.Bytes.{u16, u32, u16_at, u32_at}
use Rattle.lc_model.specs.Host.Stream.{all_kinds, body_size, fits_body, header_size, moment_of}
use Rattle.lc_model.proofs.Facts.{and_true, not_false, tested_equal, tested_not_less}
use Rattle.stream_script.specs.declared.kind.RecordKind.{RecordKind}
use Rattle.stream_script.specs.declared.kind.RecordKind.TheVariants.{Packet, Tick, File, Half}
use Rattle.stream_script.specs.declared.front.Front.{Front}
use Rattle.stream_script.specs.declared.front.Front.TheVariants.{End, Record, NoRecord, Cut}
use Rattle.stream_script.specs.Front.{body_in_front, front_in, front_of_kind, record_size}
use Rattle.stream_script.specs.Kind.{has_half, kind_number, kind_numbered, may_bring}
use Rattle.stream_script.specs.Script.{record_bytes}

-- ---- bytes

pub bytes_behind : (n : ℕ) (xs : List ℕ) → IsBytes xs → IsBytes (drop n xs)
bytes_behind zero xs are = are
bytes_behind (suc n) [] are = are
bytes_behind (suc n) (x ∷ xs) are = bytes_behind n xs (λ i. are (suc i))

pub bytes_before : (n : ℕ) (xs : List ℕ) → IsBytes xs → IsBytes (take n xs)
bytes_before zero xs are = λ i. lit< tt
bytes_before (suc n) [] are = are
bytes_before (suc n) (x ∷ xs) are = λ i. at i (bytes_before n xs (λ i. are (suc i)))
  where
    at : (i : ℕ) → IsBytes (take n xs) → slice_index (x ∷ take n xs) i < 256
    at zero rest = are 0
    at (suc i) rest = rest i

-- ---- the tests of what stands in front

other_branch : (b : Bool) (x y r : Front) → (x ≡ r → ⊥) → (if b then x else y) ≡ r → (b ≡ false) × (y ≡ r)
other_branch true x y r never is = absurd (never is)
other_branch false x y r never is = (refl, is)

one_branch : (b : Bool) (x k : RecordKind) (o : Option RecordKind) → (if b then Some x else o) ≡ Some k → ((b ≡ true) × (x ≡ k)) ⊎ (o ≡ Some k)
one_branch true x k o is = inl (refl, cc)
one_branch false x k o is = inr is

number_is : (n m : ℕ) (x k : RecordKind) → kind_number x ≡ m → (n == m) ≡ true → x ≡ k → kind_number k ≡ n
number_is n m x k is same one = sym (ap kind_number one) ∙ is ∙ sym (tested_equal n m same)

pub numbered : (n : ℕ) (k : RecordKind) → kind_numbered n ≡ Some k → kind_number k ≡ n
numbered n k is =
    elim (one_branch (n == 1) Packet k (if n == 2 then Some Tick else if n == 3 then Some File else if n == 4 then Some Half else None) is) [
      | inl one ↦ number_is n 1 Packet k refl one.0 one.1
      | inr is ↦ elim (one_branch (n == 2) Tick k (if n == 3 then Some File else if n == 4 then Some Half else None) is) [
        | inl one ↦ number_is n 2 Tick k refl one.0 one.1
        | inr is ↦ elim (one_branch (n == 3) File k (if n == 4 then Some Half else None) is) [
          | inl one ↦ number_is n 3 File k refl one.0 one.1
          | inr is ↦ elim (one_branch (n == 4) Half k None is) [
            | inl one ↦ number_is n 4 Half k refl one.0 one.1
            | inr is ↦ cc is
          ]
        ]
      ]
    ]

-- a record of this kind in front
pub record Stands (bytes : List ℕ) (kind : RecordKind) : Type 0 where
  pub long : 11 ≤ length bytes
  pub number : kind_number kind ≡ slice_index bytes 0
  pub whole : record_size bytes ≤ length bytes
  pub may : may_bring kind (body_in_front bytes) ≡ true

pub body_length : (size : ℕ) (bytes : List ℕ) → 11 + size ≤ length bytes → length (drop 11 (take (11 + size) bytes)) ≡ size
body_length size bytes whole = omega (arith, length-drop 11 (take (11 + size) bytes), length-take-le (11 + size) bytes whole)

by_kind : (k : Option RecordKind) (bytes : List ℕ) (kind : RecordKind) (size : ℕ) → kind_numbered (slice_index bytes 0) ≡ k → 11 ≤ length bytes →
    front_of_kind k bytes ≡ Record kind size → Stands bytes kind
by_kind None bytes kind size is long stands = cc stands
by_kind (Some k) bytes kind size is long stands =
    let one = other_branch (not (fits_body all_kinds (kind_number k) (body_size bytes))) NoRecord
    (if nat_lt (length bytes) (record_size bytes) then Cut else if not (has_half k (body_in_front bytes)) then NoRecord else Record k (record_size bytes)) (Record kind size) (λ h. cc h) stands in
    let two = other_branch (nat_lt (length bytes) (record_size bytes)) Cut (if not (has_half k (body_in_front bytes)) then NoRecord else Record k (record_size bytes)) (Record kind size) (λ h. cc h) one.1 in
    let three = other_branch (not (has_half k (body_in_front bytes))) NoRecord (Record k (record_size bytes)) (Record kind size) (λ h. cc h) two.1 in
    let same : k ≡ kind = cc three.1 in
    let whole : record_size bytes ≤ length bytes = tested_not_less (length bytes) (record_size bytes) two.0 in
    subst (Stands bytes) same (record {
      long = long;
      number = numbered (slice_index bytes 0) k is;
      whole = whole;
      may = and_true (fits_body all_kinds (kind_number k) (length (body_in_front bytes))) (has_half k (body_in_front bytes))
          (ap (fits_body all_kinds (kind_number k)) (body_length (body_size bytes) bytes whole) ∙ not_false _ one.0) (not_false _ three.0);
    })

pub stands : (bytes : List ℕ) (kind : RecordKind) (size : ℕ) → front_in bytes ≡ Record kind size → Stands bytes kind
stands bytes kind size is =
    let one = other_branch (length bytes == 0) End (if nat_lt (length bytes) header_size then Cut else front_of_kind (kind_numbered (slice_index bytes 0)) bytes) (Record kind size) (λ h. cc h) is in
    let two = other_branch (nat_lt (length bytes) header_size) Cut (front_of_kind (kind_numbered (slice_index bytes 0)) bytes) (Record kind size) (λ h. cc h) one.1 in
    by_kind (kind_numbered (slice_index bytes 0)) bytes kind size refl (tested_not_less (length bytes) 11 two.0) two.1

-- ---- a record's bytes

pub below_four : (a b c d : ℕ) (more : List ℕ) → IsBytes (a ∷ b ∷ c ∷ d ∷ more) → from_be_bytes w32 (a ∷ b ∷ c ∷ d ∷ more) < 2 ^ 32
below_four a b c d more are = omega (arith, are 0, are 1, are 2, are 3)

pub below_two : (a b : ℕ) (more : List ℕ) → IsBytes (a ∷ b ∷ more) → from_be_bytes w16 (a ∷ b ∷ more) < 2 ^ 16
below_two a b more are = omega (arith, are 0, are 1)

four_again : (a b c d : ℕ) (more : List ℕ) → IsBytes (a ∷ b ∷ c ∷ d ∷ more) → u32 (from_be_bytes w32 (a ∷ b ∷ c ∷ d ∷ more)) ≡ a ∷ b ∷ c ∷ d ∷ []
four_again a b c d more are =
    be_bytes_4 (a ∷ b ∷ c ∷ d ∷ []) (from_be_bytes w32 (a ∷ b ∷ c ∷ d ∷ more)) refl (bytes_before 4 (a ∷ b ∷ c ∷ d ∷ more) are) refl

two_again : (a b : ℕ) (more : List ℕ) → IsBytes (a ∷ b ∷ more) → u16 (from_be_bytes w16 (a ∷ b ∷ more)) ≡ a ∷ b ∷ []
two_again a b more are = be_bytes_2 (a ∷ b ∷ []) (from_be_bytes w16 (a ∷ b ∷ more)) refl (bytes_before 2 (a ∷ b ∷ more) are) refl

eleven : (n : ℕ) → 11 + n ≡ suc (suc (suc (suc (suc (suc (suc (suc (suc (suc (suc n))))))))))
eleven n = omega arith

-- the moment in front is a moment
pub record HasMoment (bytes : List ℕ) : Type 0 where
  pub seconds : u32_at bytes 1 < 2 ^ 32
  pub subseconds : u16_at bytes 5 < 2 ^ 16

pub has_moment : (bytes : List ℕ) → 11 ≤ length bytes → IsBytes bytes → HasMoment bytes
has_moment [] long are = absurd (omega (arith, long))
has_moment (k ∷ []) long are = absurd (omega (arith, long))
has_moment (k ∷ a ∷ []) long are = absurd (omega (arith, long))
has_moment (k ∷ a ∷ b ∷ []) long are = absurd (omega (arith, long))
has_moment (k ∷ a ∷ b ∷ c ∷ []) long are = absurd (omega (arith, long))
has_moment (k ∷ a ∷ b ∷ c ∷ d ∷ []) long are = absurd (omega (arith, long))
has_moment (k ∷ a ∷ b ∷ c ∷ d ∷ e ∷ []) long are = absurd (omega (arith, long))
has_moment (k ∷ a ∷ b ∷ c ∷ d ∷ e ∷ f ∷ more) long are = record {
  seconds = below_four a b c d (e ∷ f ∷ more) (λ i. are (suc i));
  subseconds = below_two e f more (bytes_behind 5 (k ∷ a ∷ b ∷ c ∷ d ∷ e ∷ f ∷ more) are);
}

same_bytes : (bytes body : List ℕ) (kind : RecordKind) (size : ℕ) → 11 ≤ length bytes → IsBytes bytes → kind_number kind ≡ slice_index bytes 0 →
    body ≡ drop 11 (take (11 + size) bytes) → length body ≡ body_size bytes → record_bytes (moment_of bytes) kind body ≡ take (11 + size) bytes
same_bytes [] body kind size long are number is there = absurd (omega (arith, long))
same_bytes (k ∷ []) body kind size long are number is there = absurd (omega (arith, long))
same_bytes (k ∷ a ∷ []) body kind size long are number is there = absurd (omega (arith, long))
same_bytes (k ∷ a ∷ b ∷ []) body kind size long are number is there = absurd (omega (arith, long))
same_bytes (k ∷ a ∷ b ∷ c ∷ []) body kind size long are number is there = absurd (omega (arith, long))
same_bytes (k ∷ a ∷ b ∷ c ∷ d ∷ []) body kind size long are number is there = absurd (omega (arith, long))
same_bytes (k ∷ a ∷ b ∷ c ∷ d ∷ e ∷ []) body kind size long are number is there = absurd (omega (arith, long))
same_bytes (k ∷ a ∷ b ∷ c ∷ d ∷ e ∷ f ∷ []) body kind size long are number is there = absurd (omega (arith, long))
same_bytes (k ∷ a ∷ b ∷ c ∷ d ∷ e ∷ f ∷ g ∷ []) body kind size long are number is there = absurd (omega (arith, long))
same_bytes (k ∷ a ∷ b ∷ c ∷ d ∷ e ∷ f ∷ g ∷ h ∷ []) body kind size long are number is there = absurd (omega (arith, long))
same_bytes (k ∷ a ∷ b ∷ c ∷ d ∷ e ∷ f ∷ g ∷ h ∷ i ∷ []) body kind size long are number is there = absurd (omega (arith, long))
same_bytes (k ∷ a ∷ b ∷ c ∷ d ∷ e ∷ f ∷ g ∷ h ∷ i ∷ j ∷ more) body kind size long are number is there =
    let bytes : List ℕ = k ∷ a ∷ b ∷ c ∷ d ∷ e ∷ f ∷ g ∷ h ∷ i ∷ j ∷ more in
    let seconds = four_again a b c d (e ∷ f ∷ g ∷ h ∷ i ∷ j ∷ more) (bytes_behind 1 bytes are) in
    let subseconds = two_again e f (g ∷ h ∷ i ∷ j ∷ more) (bytes_behind 5 bytes are) in
    let size_is = ap u32 there ∙ four_again g h i j more (bytes_behind 7 bytes are) in
    let body_is : body ≡ take size more = is ∙ ap (λ n. drop 11 (take n bytes)) (eleven size) in
    (λ t. number t ∷ seconds t ++ subseconds t ++ size_is t ++ body_is t) ∙ sym (ap (λ n. take n bytes) (eleven size))

-- the record in front, by its moment, its kind and its body
pub record_again : (bytes : List ℕ) (kind : RecordKind) → IsBytes bytes → Stands bytes kind → record_bytes (moment_of bytes) kind (body_in_front bytes) ≡ take (record_size bytes) bytes
record_again bytes kind are there =
    same_bytes bytes (body_in_front bytes) kind (body_size bytes) there.long are there.number refl (body_length (body_size bytes) bytes there.whole)
