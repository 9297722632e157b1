-- The number that digits write, digit by digit.
use Rattle.std.proofs.Common.{◌≡◌, refl, sym, ◌∙◌, ap, ℕ, ◌+◌, ◌*◌, ◌^◌, ◌≤◌, ◌<◌, Bool, true, false, ◌&&◌, cond, nat_lt, List, [], ◌∷◌, length, take, drop, get_or, Some, None, take-append-drop, arith}
use Rattle.std.specs.List.{fold, list_all}
use Rattle.std.specs.Char.{digit_value}
use Rattle.std.proofs.Math.Nat.{mul-le-mul_left}
use Rattle.std.proofs.lemmas.List.Sums.{fold-append, fold_more}
use Rattle.lc_model.specs.Text.Token.{number_of_digits, at_most_32_bits}
use Rattle.rule_lexer.specs.Digits.{is_digit_in, value_in_base}
use Rattle.lc_model.proofs.Facts.{and_true}

-- one digit more
abbrev more : ℕ → ℕ → ℕ → ℕ
more base = λ n d. n * base + digit_value d

grows : (base n : ℕ) (digits : List ℕ) → 1 ≤ base → n ≤ fold (more base) n digits
grows base n [] some = omega arith
grows base n (d ∷ ds) some =
    let others : n * base + digit_value d ≤ fold (more base) (n * base + digit_value d) ds = grows base (n * base + digit_value d) ds some in
    omega (arith, others, mul-le-mul_left n some)

-- at 2 ^ 32 or above, there is no value
too_large : (base : ℕ) (digits : List ℕ) → 2 ^ 32 ≤ number_of_digits base digits → value_in_base base digits ≡ None
too_large base digits large = go (nat_lt 0 (length digits) && list_all (is_digit_in base) digits)
  where
    over : nat_lt (number_of_digits base digits) (2 ^ 32) ≡ false
    over = grind (arith, large)

    go : (b : Bool) → cond b (at_most_32_bits (Some (number_of_digits base digits))) None ≡ None
    go true = rw over refl
    go false = refl

-- the digits so far and one more are too large
pub overflows : (base : ℕ) (digits : List ℕ) (i : ℕ) → 1 ≤ base → i < length digits →
    2 ^ 32 ≤ number_of_digits base (take i digits) * base + digit_value (get_or digits i 0) → value_in_base base digits ≡ None
overflows base digits i some within large = too_large base digits whole
  where
    front : number_of_digits base (take (i + 1) digits) ≡ number_of_digits base (take i digits) * base + digit_value (get_or digits i 0)
    front = fold_more (more base) 0 digits i 0 within

    parts : fold (more base) (number_of_digits base (take (i + 1) digits)) (drop (i + 1) digits) ≡ number_of_digits base digits
    parts = sym (fold-append (more base) 0 (take (i + 1) digits) (drop (i + 1) digits))
        ∙ ap (number_of_digits base) (take-append-drop (i + 1) digits)

    whole : 2 ^ 32 ≤ number_of_digits base digits
    whole =
        let kept : number_of_digits base (take (i + 1) digits) ≤ fold (more base) (number_of_digits base (take (i + 1) digits)) (drop (i + 1) digits) =
        grows base (number_of_digits base (take (i + 1) digits)) (drop (i + 1) digits) some in
        omega (arith, large, front, parts, kept)

-- where all are digits and the number fits, that is the value
pub has_value : (base : ℕ) (digits : List ℕ) (value : ℕ) → 0 < length digits → list_all (is_digit_in base) digits ≡ true →
    value ≡ number_of_digits base digits → value < 2 ^ 32 → Some value ≡ value_in_base base digits
has_value base digits value some all is fits =
    let test : (nat_lt 0 (length digits) && list_all (is_digit_in base) digits) ≡ true =
    and_true (nat_lt 0 (length digits)) _ (grind (arith, some)) all in
    let under : nat_lt (number_of_digits base digits) (2 ^ 32) ≡ true = grind (arith, is, fits) in
    rw test (rw under (ap Some is))
