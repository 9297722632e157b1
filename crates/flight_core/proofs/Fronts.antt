-- What stands in front of a stream whose header is there.
use Rattle.std.proofs.Common.{◌≡◌, refl, sym, ◌∙◌, ap, subst, ℕ, ◌+◌, ◌-◌, ◌≤◌, true, false, nat_lt, get_or, List, [], ◌∷◌, ◌++◌, length, take, drop, Some, None, arith, length-take-le, length-drop, ◌<◌}
use Rattle.std.proofs.lemmas.List.{drop-take, take-append-drop}
use Rattle.lc_model.specs.Host.Stream.{Record, NoRecord, header_size, all_kinds, body_size, contents_of, fits_body, front, moment_of, record_of, CutRecord}
use Rattle.lc_model.proofs.Facts.{test_less, test_not_less}
use Rattle.flight_core.specs.declared.front.Shape.{Shape}
use Rattle.flight_core.specs.Front.{contents_by, HasName, IsOfText, IsWhole, part_of}

-- ---- the moment is in the header

moment_stays : (header more : List ℕ) → 11 ≤ length header → moment_of (header ++ more) ≡ moment_of header
moment_stays [] more long = absurd (omega (arith, long))
moment_stays (a ∷ []) more long = absurd (omega (arith, long))
moment_stays (a ∷ b ∷ []) more long = absurd (omega (arith, long))
moment_stays (a ∷ b ∷ c ∷ []) more long = absurd (omega (arith, long))
moment_stays (a ∷ b ∷ c ∷ d ∷ []) more long = absurd (omega (arith, long))
moment_stays (a ∷ b ∷ c ∷ d ∷ e ∷ []) more long = absurd (omega (arith, long))
moment_stays (a ∷ b ∷ c ∷ d ∷ e ∷ f ∷ []) more long = absurd (omega (arith, long))
moment_stays (a ∷ b ∷ c ∷ d ∷ e ∷ f ∷ g ∷ header) more long = refl

moment_of_front : (n : ℕ) (bytes : List ℕ) → 11 ≤ n → n ≤ length bytes → moment_of bytes ≡ moment_of (take n bytes)
moment_of_front n bytes long inside =
    let all : 11 ≤ length (take n bytes) = omega (arith, length-take-le n bytes inside) in
    ap moment_of (sym (take-append-drop n bytes)) ∙ moment_stays (take n bytes) (drop n bytes) all

-- ---- a header that fits, and its body

by_tests : (texts kind : ℕ) (bytes : List ℕ) → nat_lt (length (kind ∷ bytes)) header_size ≡ false → fits_body all_kinds kind (body_size (kind ∷ bytes)) ≡ true →
    nat_lt (length (kind ∷ bytes)) (header_size + body_size (kind ∷ bytes)) ≡ false →
    front all_kinds texts (kind ∷ bytes)
    ≡ record_of (contents_of texts kind (drop header_size (take (header_size + body_size (kind ∷ bytes)) (kind ∷ bytes)))) (moment_of (kind ∷ bytes))
    (drop (header_size + body_size (kind ∷ bytes)) (kind ∷ bytes))
by_tests texts kind bytes long fits whole = rw (long, fits, whole) refl

-- the body as the code has it
abbrev body_in : ℕ → List ℕ → List ℕ
body_in size bytes = take (11 + size - 11) (drop 11 bytes)

-- a header in front that fits its body, which is there
pub record IsThere (bytes : List ℕ) (size : ℕ) : Type 0 where
  pub long : 11 ≤ length bytes
  pub same : size ≡ body_size bytes
  pub fits : fits_body all_kinds (get_or bytes 0 0) size ≡ true
  pub whole : 11 + size ≤ length bytes

body_is : (bytes : List ℕ) (size : ℕ) → drop 11 (take (11 + size) bytes) ≡ body_in size bytes
body_is bytes size =
    let known : size ≡ 11 + size - 11 = omega arith in
    drop-take 11 size bytes ∙ ap (λ n. take n (drop 11 bytes)) known

by_contents : (texts : ℕ) (bytes : List ℕ) (size : ℕ) → IsThere bytes size →
    front all_kinds texts bytes ≡ record_of (contents_of texts (get_or bytes 0 0) (body_in size bytes)) (moment_of bytes) (drop (11 + size) bytes)
by_contents texts [] size there = absurd (omega (arith, there.long))
by_contents texts (kind ∷ bytes) size there =
    by_tests texts kind bytes (test_not_less _ _ there.long) (subst (λ n. fits_body all_kinds kind n ≡ true) there.same there.fits)
    (test_not_less _ _ (subst (λ (n : ℕ). 11 + n ≤ length (kind ∷ bytes)) there.same there.whole))
    ∙ (λ i. record_of (contents_of texts kind (drop 11 (take (11 + sym there.same i) (kind ∷ bytes)))) (moment_of (kind ∷ bytes)) (drop (11 + sym there.same i) (kind ∷ bytes)))
    ∙ (λ i. record_of (contents_of texts kind (body_is (kind ∷ bytes) size i)) (moment_of (kind ∷ bytes)) (drop (11 + size) (kind ∷ bytes)))

-- ---- less than a record

pub short_in_front : (texts : ℕ) (bytes : List ℕ) → length bytes < 11 → front all_kinds texts bytes ≡ part_of bytes
short_in_front texts [] few = refl
short_in_front texts (kind ∷ bytes) few =
    let short : nat_lt (length (kind ∷ bytes)) header_size ≡ true = test_less _ _ few in rw short refl

cut_by_tests : (texts kind : ℕ) (bytes : List ℕ) → nat_lt (length (kind ∷ bytes)) header_size ≡ false → fits_body all_kinds kind (body_size (kind ∷ bytes)) ≡ true →
    nat_lt (length (kind ∷ bytes)) (header_size + body_size (kind ∷ bytes)) ≡ true → front all_kinds texts (kind ∷ bytes) ≡ CutRecord
cut_by_tests texts kind bytes long fits cut = rw (long, fits, cut) refl

pub cut_in_front : (texts : ℕ) (bytes : List ℕ) (size : ℕ) → 11 ≤ length bytes → size ≡ body_size bytes → fits_body all_kinds (get_or bytes 0 0) size ≡ true →
    length bytes < 11 + size → front all_kinds texts bytes ≡ part_of bytes
cut_in_front texts [] size long same fits cut = absurd (omega (arith, long))
cut_in_front texts (kind ∷ bytes) size long same fits cut =
    cut_by_tests texts kind bytes (test_not_less _ _ long) (subst (λ n. fits_body all_kinds kind n ≡ true) same fits)
    (test_less _ _ (subst (λ (n : ℕ). length (kind ∷ bytes) < 11 + n) same cut))

-- ---- a whole record

length_of_body : (bytes : List ℕ) (size : ℕ) → 11 + size ≤ length bytes → length (body_in size bytes) ≡ 11 + size - 11
length_of_body bytes size whole = length-take-le (11 + size - 11) (drop 11 bytes) (omega (arith, whole, length-drop 11 bytes))

pub whole_in_front : (texts : ℕ) (bytes : List ℕ) (size : ℕ) (shape : Shape) → IsThere bytes size → IsOfText texts shape → HasName shape (length (body_in size bytes)) →
    Some (contents_by (body_in size bytes) shape) ≡ contents_of texts (get_or bytes 0 0) (body_in size bytes) → IsWhole texts bytes shape (11 + size)
whole_in_front texts bytes size shape there text named brings = record {
  inside = there.whole;
  long = omega arith;
  sized = ap (λ n. 11 + n) there.same;
  named = subst (HasName shape) (length_of_body bytes size there.whole) named;
  text = text;
  is =
      by_contents texts bytes size there
      ∙ (λ i. record_of (sym brings i) (moment_of_front (11 + size) bytes (omega arith) there.whole i) (drop (11 + size) bytes))
      ∙ (λ i. Record (record { moment = moment_of (take (11 + size) bytes); contents = contents_by (sym (body_is bytes size) i) shape }) (drop (11 + size) bytes));
}

pub none_in_front : (texts : ℕ) (bytes : List ℕ) (size : ℕ) → IsThere bytes size → None ≡ contents_of texts (get_or bytes 0 0) (body_in size bytes) → front all_kinds texts bytes ≡ NoRecord
none_in_front texts bytes size there none =
    by_contents texts bytes size there ∙ (λ i. record_of (sym none i) (moment_of bytes) (drop (11 + size) bytes))
