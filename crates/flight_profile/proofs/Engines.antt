-- The part of the least seat with an object that has it is found seat by seat.
use Rattle.std.proofs.Common.{◌≡◌, refl, ap, ℕ, zero, suc, ◌<◌, ◌≤◌, List, [], ◌∷◌, length, drop, arith, Option, Some, None}
use Rattle.std.specs.Option.{option_or}
use Rattle.app_host.specs.Hosted.{Object, object_at}
use Rattle.flight_profile.specs.Checkers.{first_of}

module _ {T : Type 0} (of : Option Object → Option T) where
  pub none_here : (seats : List (Option Object)) (n : ℕ) → n < length seats → of (object_at n seats) ≡ None → first_of of (drop n seats) ≡ first_of of (drop (suc n) seats)
  none_here [] n less is = absurd (omega (arith, less))
  none_here (place ∷ seats) zero less is = ap (λ (part : Option T). option_or part (first_of of seats)) is
  none_here (place ∷ seats) (suc n) less is = none_here seats n (omega (arith, less)) is

  pub one_here : (seats : List (Option Object)) (n : ℕ) (part : T) → n < length seats → of (object_at n seats) ≡ Some part → first_of of (drop n seats) ≡ Some part
  one_here [] n part less is = absurd (omega (arith, less))
  one_here (place ∷ seats) zero part less is = ap (λ (there : Option T). option_or there (first_of of seats)) is
  one_here (place ∷ seats) (suc n) part less is = one_here seats n part (omega (arith, less)) is

  pub none_behind : (seats : List (Option Object)) (n : ℕ) → length seats ≤ n → first_of of (drop n seats) ≡ None
  none_behind [] zero all = refl
  none_behind [] (suc n) all = refl
  none_behind (place ∷ seats) zero all = absurd (omega (arith, all))
  none_behind (place ∷ seats) (suc n) all = none_behind seats n (omega (arith, all))
