-- How the rules stand, rule by rule.
use Rattle.std.proofs.Common.{◌≡◌, refl, ap, sym, ◌∙◌, ℕ, zero, suc, ◌+◌, ◌<◌, List, [], ◌∷◌, ◌++◌, length, map, take, arith, Some}
use Rattle.std.specs.Prelude.{option_map, slice_get}
use Rattle.lc_model.specs.Events.Outgoing.{standing_byte}
use Rattle.lc_model.specs.Kept.Next.{by_counts}
use Rattle.lc_model.specs.Kept.Summary.{Tally}
use Rattle.lc_model.specs.LimitChecker.Steps.{Point, standing}
use Rattle.lc_model.proofs.Facts.{some_same}
use Rattle.limit_engine.specs.declared.engine.Standing.{Standing}
use Rattle.limit_checker.specs.Standings.{standing_of}

abbrev pub bytes_of : List (Point Tally) → List ℕ
bytes_of points = map standing_byte (map (standing by_counts) points)

-- one rule more
one_stands : (points : List (Point Tally)) (k : ℕ) (found : Standing) (byte : ℕ) (bytes : List ℕ) → k < length points →
    option_map (λ (point : Point Tally). point.state) (slice_get points k) ≡ Some found.state → option_map (λ (point : Point Tally). point.past.last) (slice_get points k) ≡ Some found.last →
    byte ≡ standing_byte (standing_of found) → bytes ≡ bytes_of (take k points) → bytes ++ byte ∷ [] ≡ bytes_of (take (suc k) points)
one_stands [] k found byte bytes inside state last is far = absurd (omega (arith, inside))
one_stands (point ∷ points) zero found byte bytes inside state last is far =
    (λ i. far i ++ is i ∷ []) ∙ (λ i. standing_byte (record { state = sym (some_same point.state found.state state) i; last = sym (some_same point.past.last found.last last) i }) ∷ [])
one_stands (point ∷ points) (suc k) found byte bytes inside state last is far =
    ap (λ front. front ++ byte ∷ []) far
    ∙ ap (λ rest. standing_byte (standing by_counts point) ∷ rest) (one_stands points k found byte (bytes_of (take k points)) (omega (arith, inside)) state last is refl)

pub one_more_stands : (points : List (Point Tally)) (k : ℕ) (found : Standing) (byte : ℕ) (bytes : List ℕ) → k < length points →
    option_map (λ (point : Point Tally). point.state) (slice_get points k) ≡ Some found.state → option_map (λ (point : Point Tally). point.past.last) (slice_get points k) ≡ Some found.last →
    byte ≡ standing_byte (standing_of found) → bytes ≡ bytes_of (take k points) → bytes ++ byte ∷ [] ≡ bytes_of (take (k + 1) points)
one_more_stands points k found byte bytes inside state last is far =
    one_stands points k found byte bytes inside state last is far ∙ ap (λ n. bytes_of (take n points)) (let next : suc k ≡ k + 1 = omega arith in next)
