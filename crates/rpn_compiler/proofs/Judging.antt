-- The refusal of rules that are judged one after the other.
use Rattle.std.proofs.Common.{◌≡◌, refl, ℕ, ◌+◌, ◌<◌, ◌≤◌, List, arith}
use Rattle.std.specs.Prelude.{Option, Some, None, slice_get, filter_map, option_map}
use Rattle.std.specs.List.{enumerate_from}
use Rattle.std.proofs.lemmas.Bool.{le-ltb, lt-ltb}
use Rattle.lc_model.specs.Rule.{NamedRule}
use Rattle.lc_model.specs.Text.Reading.{TextRefusal, ForRule}
use Rattle.lc_model.specs.Tables.Equation.{size}
use Rattle.lc_model.specs.Tables.Compiling.{equation_fault}
use Rattle.lc_model.specs.Tables.InForce.{limits}
use Rattle.rpn_compiler.specs.Limits.{refusal_of_rule}

-- ---- one rule

pub too_long : (n : ℕ) (rule : NamedRule) → limits.words ≤ size rule.action.condition → refusal_of_rule n rule ≡ Some (ForRule 42 n)
too_long n rule long = rw (lt-ltb limits.words (size rule.action.condition + 1) (omega (arith, long))) refl

pub fits : (n : ℕ) (rule : NamedRule) → size rule.action.condition < limits.words → refusal_of_rule n rule ≡ None
fits n rule short = rw (le-ltb limits.words (size rule.action.condition + 1) (omega (arith, short))) refl

-- ---- all rules

-- the refusal of the first rule that has one, the first rule having this number
abbrev pub first_from : ℕ → List NamedRule → Option TextRefusal
first_from n rules =
    slice_get (filter_map (λ (m : ℕ × NamedRule). option_map (λ code. ForRule code m.0) (equation_fault limits m.1)) (enumerate_from n rules)) 0
