-- Numbers that stand for all that a field may have.
use Rattle.std.proofs.Common.{◌≡◌, ℕ, ◌-◌, ◌*◌, ◌^◌, ◌≤◌, ◌<◌, Bool, true, false, List, [], ◌∷◌, ◌++◌, length, refl, ap, sym, ◌∙◌, subst, arith, Some, nat_le, if◌then◌else◌, inl, inr, Vec}
use Rattle.std.specs.Global.{Global}
use Rattle.std.specs.Prelude.{slice_get, Contains, ℤ, pos, ◌-ℤ◌, int_le, int_lt, bit_and, ◌&&◌, filter, ◌==◌}
use Rattle.std.specs.List.{AllByRecursion}
use Rattle.std.proofs.lemmas.Bool.Decides.{nat_tests}
use Rattle.std.proofs.lemmas.Int.{ints}
use Rattle.std.specs.Int.Bits.{and_self}
use Rattle.std.proofs.lemmas.Nat.{and_assoc}
use Rattle.lc_model.specs.declared.truth.Truth.TheVariants.{True, False}
use Rattle.lc_model.specs.declared.field.FieldType.{FieldType}
use Rattle.lc_model.specs.declared.field.FieldType.TheVariants.{U8, I8, U16Be, U16Le, I16Be, I16Le, U32Be, U32Le, I32Be, I32Le}
use Rattle.lc_model.specs.declared.field.Term.{Term}
use Rattle.lc_model.specs.Field.{bit_width, is_signed, compares, sign_weight, twos_complement}
use Rattle.lc_model.specs.LimitChecker.Watch.{judgement}
use Rattle.rule_analysis.specs.Numbers.{Fits}
use Rattle.rule_analysis.specs.Classes.{SaysTheSame, RepresentAll, ReachAlike, Separates, Covers}
use Rattle.rule_analysis.specs.Search.{Represent, AreRepresented}
use Rattle.rule_analysis.proofs.WalkLaws.{decided, there_before, there_last}
use Rattle.rule_analysis.proofs.Halves.{small}
use Rattle.rule_analysis.proofs.SameSide.{same_side}
use Rattle.rule_analysis.proofs.Reaching.{IsAmong, Represents, represents}

-- ---- thresholds of one comparison

-- a number is a threshold's where the value less the shift is reached
abbrev pub IsFrom : ℤ → ℕ → ℕ → Type 0
IsFrom value shift from = (n : ℕ) → n < 2 ^ 32 → nat_le from n ≡ int_le value (pos n -ℤ pos shift)

abbrev pub IsAbove : ℤ → ℕ → ℕ → Type 0
IsAbove value shift from = (n : ℕ) → n < 2 ^ 32 → nat_le from n ≡ int_lt value (pos n -ℤ pos shift)

reach_alike : (from n m : ℕ) → (from ≤ n → from ≤ m) × (from ≤ m → from ≤ n) → nat_le from n ≡ nat_le from m
reach_alike from n m both = by_tests (nat_le from n) (nat_le from m) refl refl
  where
    is : (k : ℕ) → nat_le from k ≡ true → from ≤ k
    is k e = grind (arith, nat_tests)

    not_so : (k : ℕ) → nat_le from k ≡ false → k < from
    not_so k e = grind (arith, nat_tests)

    by_tests : (a b : Bool) → nat_le from n ≡ a → nat_le from m ≡ b → a ≡ b
    by_tests true true e f = refl
    by_tests false false e f = refl
    by_tests true false e f = absurd (omega (arith, both.0 (is n e), not_so m f))
    by_tests false true e f = absurd (omega (arith, both.1 (is m f), not_so n e))

-- a number's value, with the sign's bit or without
abbrev value_at : FieldType → Bool → ℕ → ℤ
value_at k upper n = if upper then pos n -ℤ pos (2 ^ bit_width k) else pos n

no_shift : (n : ℕ) → pos n -ℤ pos 0 ≡ pos n
no_shift n = grind (arith, ints)

sign_bit : (k : FieldType) → (is_signed k ≡ true → (sign_weight k ≡ 2 ^ (bit_width k - 1)) × (2 * sign_weight k ≡ 2 ^ bit_width k))
sign_bit U8 e = cc
sign_bit I8 e = (refl, refl)
sign_bit U16Be e = cc
sign_bit U16Le e = cc
sign_bit I16Be e = (refl, refl)
sign_bit I16Le e = (refl, refl)
sign_bit U32Be e = cc
sign_bit U32Le e = cc
sign_bit I32Be e = (refl, refl)
sign_bit I32Le e = (refl, refl)

module _ (t : Term) (from above from_signed above_signed : ℕ)
    (is_from : IsFrom t.value 0 from) (is_above : IsAbove t.value 0 above)
    (is_from_signed : IsFrom t.value (2 * sign_weight t.kind) from_signed) (is_above_signed : IsAbove t.value (2 * sign_weight t.kind) above_signed) where
  same_value_side : (n m : ℕ) → n < 2 ^ 32 → m < 2 ^ 32 → nat_le from n ≡ nat_le from m → nat_le above n ≡ nat_le above m →
      nat_le from_signed n ≡ nat_le from_signed m → nat_le above_signed n ≡ nat_le above_signed m → (upper : Bool) → (upper ≡ true → 2 * sign_weight t.kind ≡ 2 ^ bit_width t.kind) →
      compares t.op (value_at t.kind upper n) t.value ≡ compares t.op (value_at t.kind upper m) t.value
  same_value_side n m n_small m_small a b c d false weighs =
      same_side t.op (pos n) (pos m) t.value
      (ap (int_le t.value) (sym (no_shift n)) ∙ sym (is_from n n_small) ∙ a ∙ is_from m m_small ∙ ap (int_le t.value) (no_shift m))
      (ap (int_lt t.value) (sym (no_shift n)) ∙ sym (is_above n n_small) ∙ b ∙ is_above m m_small ∙ ap (int_lt t.value) (no_shift m))
  same_value_side n m n_small m_small a b c d true weighs =
      let weight = weighs refl in
      same_side t.op (pos n -ℤ pos (2 ^ bit_width t.kind)) (pos m -ℤ pos (2 ^ bit_width t.kind)) t.value
      (ap (λ w. int_le t.value (pos n -ℤ pos w)) (sym weight) ∙ sym (is_from_signed n n_small) ∙ c ∙ is_from_signed m m_small ∙ ap (λ w. int_le t.value (pos m -ℤ pos w)) weight)
      (ap (λ w. int_lt t.value (pos n -ℤ pos w)) (sym weight) ∙ sym (is_above_signed n n_small) ∙ d ∙ is_above_signed m m_small ∙ ap (λ w. int_lt t.value (pos m -ℤ pos w)) weight)

  five_separate : Separates (sign_weight t.kind ∷ from ∷ above ∷ from_signed ∷ above_signed ∷ []) t
  five_separate n m n_small m_small alike = ap (λ holds. if holds then True else False) by_sign
    where
      a : nat_le from n ≡ nat_le from m
      a = reach_alike from n m alike.1.0

      b : nat_le above n ≡ nat_le above m
      b = reach_alike above n m alike.1.1.0

      c : nat_le from_signed n ≡ nat_le from_signed m
      c = reach_alike from_signed n m alike.1.1.1.0

      d : nat_le above_signed n ≡ nat_le above_signed m
      d = reach_alike above_signed n m alike.1.1.1.1.0

      signed : (s : Bool) → is_signed t.kind ≡ s →
          compares t.op (value_at t.kind (s && nat_le (2 ^ (bit_width t.kind - 1)) n) n) t.value ≡ compares t.op (value_at t.kind (s && nat_le (2 ^ (bit_width t.kind - 1)) m) m) t.value
      signed false e = same_value_side n m n_small m_small a b c d false (λ h. cc)
      signed true e =
          let half : nat_le (2 ^ (bit_width t.kind - 1)) n ≡ nat_le (2 ^ (bit_width t.kind - 1)) m =
          ap (λ w. nat_le w n) (sym (sign_bit t.kind e).0) ∙ reach_alike (sign_weight t.kind) n m alike.0 ∙ ap (λ w. nat_le w m) (sign_bit t.kind e).0 in
          ap (λ upper. compares t.op (value_at t.kind upper n) t.value) half
          ∙ same_value_side n m n_small m_small a b c d (nat_le (2 ^ (bit_width t.kind - 1)) m) (λ h. (sign_bit t.kind e).1)

      by_sign : compares t.op (twos_complement t.kind n) t.value ≡ compares t.op (twos_complement t.kind m) t.value
      by_sign = signed (is_signed t.kind) refl

pub five_by : (t : Term) (sign from above from_signed above_signed : ℕ) → sign ≡ sign_weight t.kind → IsFrom t.value 0 from → IsAbove t.value 0 above →
    IsFrom t.value (2 * sign) from_signed → IsAbove t.value (2 * sign) above_signed → Separates (sign ∷ from ∷ above ∷ from_signed ∷ above_signed ∷ []) t
five_by t sign from above from_signed above_signed is is_from is_above is_from_signed is_above_signed =
    subst (λ w. Separates (w ∷ from ∷ above ∷ from_signed ∷ above_signed ∷ []) t) (sym is)
    (five_separate t from above from_signed above_signed is_from is_above (subst (λ w. IsFrom t.value (2 * w) from_signed) is is_from_signed)
    (subst (λ w. IsAbove t.value (2 * w) above_signed) is is_above_signed))

-- ---- more thresholds

alike_before : (old more : List ℕ) (n m : ℕ) → ReachAlike (old ++ more) n m → ReachAlike old n m
alike_before [] more n m all = tt
alike_before (x ∷ old) more n m all = (all.0, alike_before old more n m all.1)

alike_behind : (old more : List ℕ) (n m : ℕ) → ReachAlike (old ++ more) n m → ReachAlike more n m
alike_behind [] more n m all = all
alike_behind (x ∷ old) more n m all = alike_behind old more n m all.1

pub separates_still : (old more : List ℕ) (t : Term) → Separates old t → Separates (old ++ more) t
separates_still old more t so n m n_small m_small alike = so n m n_small m_small (alike_before old more n m alike)

pub separates_now : (old more : List ℕ) (t : Term) → Separates more t → Separates (old ++ more) t
separates_now old more t so n m n_small m_small alike = so n m n_small m_small (alike_behind old more n m alike)

-- ---- all that a field may have

bits_fit : (bits mask : ℕ) → Fits mask (bit_and bits mask)
bits_fit bits mask = and_assoc mask bits mask ∙ ap (bit_and bits) (and_self mask)

-- of each threshold, and of 0, the least number is represented: so all are
pub all_covered : (terms : List Term) (mask : ℕ) (thresholds kept : List ℕ) → mask < 2 ^ 32 → AllByRecursion (λ t. t.mask ≡ mask) terms →
    AllByRecursion (λ t. Separates thresholds t) terms → Covers terms mask kept 0 → AllByRecursion (λ threshold. Covers terms mask kept threshold) thresholds →
    RepresentAll terms kept
all_covered terms mask thresholds kept narrow masked separate zero_covered covered bits = by_represents (represents mask thresholds n fits)
  where
    n : ℕ
    n = bit_and bits mask

    fits : Fits mask n
    fits = bits_fit bits mask

    -- the comparison says the same of the least number and of the bits
    one : (least : ℕ) → Fits mask least → ReachAlike thresholds least n → (t : Term) → t.mask ≡ mask → Separates thresholds t → SaysTheSame t least bits
    one least is alike t same so =
        ap (λ m. judgement t (Some (twos_complement t.kind (bit_and least m)))) same ∙ ap (λ k. judgement t (Some (twos_complement t.kind k))) is
        ∙ so least n (omega (arith, small mask least is, narrow)) (omega (arith, small mask n fits, narrow)) alike
        ∙ ap (λ m. judgement t (Some (twos_complement t.kind (bit_and bits m)))) (sym same)

    each_one : (least candidate : ℕ) → Fits mask least → ReachAlike thresholds least n → (ts : List Term) → AllByRecursion (λ t. t.mask ≡ mask) ts →
        AllByRecursion (λ t. Separates thresholds t) ts → AllByRecursion (λ t. SaysTheSame t candidate least) ts → AllByRecursion (λ t. SaysTheSame t candidate bits) ts
    each_one least candidate is alike [] same so says = tt
    each_one least candidate is alike (t ∷ ts) same so says =
        (says.0 ∙ one least is alike t same.0 so.0, each_one least candidate is alike ts same.1 so.1 says.1)

    covered_at : (from : ℕ) → IsAmong thresholds from → Covers terms mask kept from
    covered_at from among = among_all thresholds covered among
      where
        among_all : (ts : List ℕ) → AllByRecursion (λ threshold. Covers terms mask kept threshold) ts → IsAmong ts from → Covers terms mask kept from
        among_all [] all is = subst (Covers terms mask kept) (sym is) zero_covered
        among_all (t ∷ ts) all (inl is) = subst (Covers terms mask kept) (sym is) all.0
        among_all (t ∷ ts) all (inr later) = among_all ts all.1 later

    by_represents : Represents mask thresholds n → (candidate : ℕ) × Contains kept candidate × AllByRecursion (λ t. SaysTheSame t candidate bits) terms
    by_represents r =
        let found = covered_at r.from r.among n fits r.reached in
        (found.2, found.3, each_one found.0 found.2 found.1.fits (r.there found.0 found.1).1 terms masked separate found.4)

-- ---- the readers of a field

module _ (number : Term → ℕ) (field : ℕ) where
  unfiltered : (P : Term → Type 0) (ts : List Term) → AllByRecursion P (filter (λ t. number t == field) ts) → AllByRecursion (λ t. number t ≡ field → P t) ts
  unfiltered P [] all = tt
  unfiltered P (t ∷ ts) all = by_test (unfiltered P ts) (number t == field) refl all
    where
      other : (number t == field) ≡ false → number t ≡ field → ⊥
      other e same = grind (arith, nat_tests)

      by_test : (AllByRecursion P (filter (λ u. number u == field) ts) → AllByRecursion (λ u. number u ≡ field → P u) ts) → (test : Bool) → (number t == field) ≡ test →
          AllByRecursion P (if test then t ∷ filter (λ u. number u == field) ts else filter (λ u. number u == field) ts) →
          AllByRecursion (λ u. number u ≡ field → P u) (t ∷ ts)
      by_test later true e all = ((λ same. all.0), later all.1)
      by_test later false e all = ((λ same. absurd (other e same)), later all)

  -- what all have that have its number
  pub filtered : (P : Term → Type 0) (ts : List Term) → ((t : Term) → number t ≡ field → P t) → AllByRecursion P (filter (λ t. number t == field) ts)
  filtered P [] each_has = tt
  filtered P (t ∷ ts) each_has = by_test (filtered P ts each_has) (number t == field) refl
    where
      same : (number t == field) ≡ true → number t ≡ field
      same e = grind (arith, nat_tests)

      by_test : AllByRecursion P (filter (λ u. number u == field) ts) → (test : Bool) → (number t == field) ≡ test →
          AllByRecursion P (if test then t ∷ filter (λ u. number u == field) ts else filter (λ u. number u == field) ts)
      by_test later true e = (each_has t (same e), later)
      by_test later false e = later

  pub represent_readers : (terms : List Term) (kept : List ℕ) → RepresentAll (filter (λ t. number t == field) terms) kept → Represent number terms field kept
  represent_readers terms kept all bits =
      let found = all bits in (found.0, found.1, unfiltered (λ t. SaysTheSame t found.0 bits) terms found.2)

-- one row more
pub row_more : (number : Term → ℕ) (terms : List Term) (rows : List (Vec ℕ Global)) (row : Vec ℕ Global) (field : ℕ) → length rows ≡ field →
    AreRepresented number terms rows → Represent number terms field row.items → AreRepresented number terms (rows ++ row ∷ [])
row_more number terms rows row field long so_far here at there e = decided at (length rows)
    (λ same. subst (λ r. Represent number terms at r.items) (there_last rows row there (subst (λ k. slice_get (rows ++ row ∷ []) k ≡ Some there) same e))
    (subst (λ k. Represent number terms k row.items) (sym (same ∙ long)) here))
    (λ other. so_far at there (there_before rows row at there e other))
