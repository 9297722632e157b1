use Rattle.std.proofs.Common.{◌≡◌, ℕ, ◌*◌, ◌≤◌, ◌<◌, ◌⊎◌, true, inl, inr, length, take, get_or, sym, ◌∙◌, ap, subst, arith}
use Rattle.std.specs.Char.{digit_value}
use Rattle.std.specs.List.{list_all}
use Rattle.std.proofs.lemmas.List.{take_all}
use Rattle.lc_model.specs.Text.Token.{number_of_digits}
use Rattle.rule_lexer.specs.Digits.{is_digit_in}
use Rattle.rule_lexer.proofs.Digits.{overflows, has_value}
use Rattle.rule_lexer.proofs.number.value_in_base.Goals as goal

some_base : (base : ℕ) → (base ≡ 10) ⊎ (base ≡ 16) → 1 ≤ base
some_base base (inl is) = omega arith
some_base base (inr is) = omega arith

pub returns-in_err-checked_mul : goal.returns-in_err-checked_mul
returns-in_err-checked_mul c =
    let product : c.loop-byte.value * c.args.base ≡ number_of_digits c.args.base (take c.loop-byte.byte-index c.args.digits.now) * c.args.base =
    ap (λ n. n * c.args.base) c.loop-byte.invariant.value_is in
    c.from_residual-in_err-checked_mul.ensures
    ∙ sym (overflows c.args.base c.args.digits.now c.loop-byte.byte-index (some_base c.args.base c.requires) c.loop-byte-test.true
    (omega (arith, product, c.in_err-checked_mul.ensures)))

pub returns-in_err-value : goal.returns-in_err-value
returns-in_err-value c =
    let product : c.loop-byte.value * c.args.base ≡ number_of_digits c.args.base (take c.loop-byte.byte-index c.args.digits.now) * c.args.base =
    ap (λ n. n * c.args.base) c.loop-byte.invariant.value_is in
    let digit : c.in_ok-digit.digit ≡ digit_value (get_or c.args.digits.now c.loop-byte.byte-index 0) =
    c.in_ok-digit.ensures.value.1 ∙ ap digit_value c.from.ensures in
    let times : c.in_ok-checked_mul.field-0 ≡ c.loop-byte.value * c.args.base = c.in_ok-checked_mul.ensures.1 in
    c.from_residual-in_err-value.ensures
    ∙ sym (overflows c.args.base c.args.digits.now c.loop-byte.byte-index (some_base c.args.base c.requires) c.loop-byte-test.true
    (omega (arith, product, digit, times, c.in_err-value.ensures)))

pub returns : goal.returns
returns c =
    let all : take c.loop-byte.byte-index c.args.digits.now ≡ c.args.digits.now = take_all c.loop-byte.byte-index c.args.digits.now c.loop-byte-test.false in
    let some : 0 < length c.args.digits.now = grind (arith, c.is_empty.ensures, c.if-is_empty.false) in
    has_value c.args.base c.args.digits.now c.loop-byte.value some
    (subst (λ ds. list_all (is_digit_in c.args.base) ds ≡ true) all c.loop-byte.invariant.all_digits)
    (subst (λ ds. c.loop-byte.value ≡ number_of_digits c.args.base ds) all c.loop-byte.invariant.value_is) c.loop-byte.invariant.fits
