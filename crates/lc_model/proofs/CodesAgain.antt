-- The numbers of comparisons, states and event types are read again.
use Rattle.std.proofs.Common.{◌≡◌, refl, sym, ◌∙◌, ap, ℕ, zero, suc, ◌≤◌, arith}
use Rattle.lc_model.specs.declared.field.CmpOp.{CmpOp}
use Rattle.lc_model.specs.declared.field.CmpOp.TheVariants.{Less, LessOrEqual, NotEqual, Equal, GreaterOrEqual, Greater}
use Rattle.lc_model.specs.Codes.{operator_code, state_code, event_code}
use Rattle.lc_model.specs.Tables.Spelled.{operator_of_code, state_of_code, event_of_code}

pub operator_again : (o : CmpOp) → operator_of_code (operator_code o) ≡ o
operator_again = elim [ Less ↦ refl | LessOrEqual ↦ refl | NotEqual ↦ refl | Equal ↦ refl | GreaterOrEqual ↦ refl | Greater ↦ refl ]

pub one_operator : (o p : CmpOp) → operator_code o ≡ operator_code p → o ≡ p
one_operator o p e = sym (operator_again o) ∙ ap operator_of_code e ∙ operator_again p

pub state_again : (n : ℕ) → 1 ≤ n → n ≤ 3 → state_code (state_of_code n) ≡ n
state_again zero low high = absurd (omega (arith, low))
state_again (suc zero) low high = refl
state_again (suc (suc zero)) low high = refl
state_again (suc (suc (suc zero))) low high = refl
state_again (suc (suc (suc (suc n)))) low high = absurd (omega (arith, high))

pub event_again : (n : ℕ) → 1 ≤ n → n ≤ 4 → event_code (event_of_code n) ≡ n
event_again zero low high = absurd (omega (arith, low))
event_again (suc zero) low high = refl
event_again (suc (suc zero)) low high = refl
event_again (suc (suc (suc zero))) low high = refl
event_again (suc (suc (suc (suc zero)))) low high = refl
event_again (suc (suc (suc (suc (suc n))))) low high = absurd (omega (arith, high))
