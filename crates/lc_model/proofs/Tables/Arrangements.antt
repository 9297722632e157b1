-- A condition with its operands in either order has as many words, and the same mentions.
use Rattle.std.proofs.Common.{◌≡◌, refl, ap, ◌+◌, arith}
use Rattle.std.specs.List.{AllByRecursion}
use Rattle.lc_model.specs.declared.field.Term.{Term}
use Rattle.lc_model.specs.Condition.{Condition}
use Rattle.lc_model.specs.Tables.Equation.{IsRearranged, mention, negation, in_order, turned, mentions, size}
use Rattle.lc_model.proofs.LimitChecker.ResultLaws.{front, back}
use Rattle.lc_model.proofs.Tables.SaidLaws.{all_append}

pub same_size : {c d : Condition} → IsRearranged c d → size d ≡ size c
same_size mention = refl
same_size (negation r) = ap (λ n. n + 1) (same_size r)
same_size (in_order r s) = omega (arith, same_size r, same_size s)
same_size (turned r s) = omega (arith, same_size r, same_size s)

-- what is so of all terms that it mentions stays so
pub still_all : (P : Term → Type 0) {c d : Condition} → IsRearranged c d → AllByRecursion P (mentions c) → AllByRecursion P (mentions d)
still_all P mention all = all
still_all P (negation r) all = still_all P r all
still_all P (in_order {o} {a} {b} {a'} {b'} r s) all =
    all_append P (mentions a') (mentions b')
    (still_all P r (front P (mentions a) (mentions b) all)) (still_all P s (back P (mentions a) (mentions b) all))
still_all P (turned {o} {a} {b} {a'} {b'} r s) all =
    all_append P (mentions b') (mentions a')
    (still_all P s (back P (mentions a) (mentions b) all)) (still_all P r (front P (mentions a) (mentions b) all))
