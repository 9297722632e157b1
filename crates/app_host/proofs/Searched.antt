-- What was found among objects is what the host in numbers finds.
use Rattle.std.proofs.Common.{◌≡◌, ap, ◌∙◌, sym, ℕ, ◌<◌, Bool, List, length, map, arith, Option, Some, None}
use Rattle.std.specs.Prelude.{IfSome, option_map, is_none}
use Rattle.std.specs.List.{position_from}
use Rattle.lc_model.specs.Name.{Name}
use Rattle.lc_model.specs.Kept.Executive.{is_called, is_seated, seat_of, spare_of, free_seat}
use Rattle.app_host.specs.Hosted.{Object, member_of}
use Rattle.app_host.proofs.Found.{found, through}

pub below_eight : (p : Option Object → Bool) (seats : List (Option Object)) (r : Option ℕ) → length seats ≡ 8 → r ≡ position_from p 0 seats → IfSome r (λ (n : ℕ). n < 8)
below_eight p seats None eight is = tt
below_eight p seats (Some k) eight is = let inside : k < length seats = (found p seats k None is).0 in omega (arith, inside, eight)

pub seat_is : (name : Name) (seats : List (Option Object)) (r s : Option ℕ) → r ≡ position_from (λ o. is_seated name (option_map member_of o)) 0 seats → s ≡ r → s ≡ seat_of name (map (option_map member_of) seats)
seat_is name seats r s is same = same ∙ is ∙ sym (through (option_map member_of) (is_seated name) 0 seats)

pub free_is : (seats : List (Option Object)) (r s : Option ℕ) → r ≡ position_from (λ o. is_none (option_map member_of o)) 0 seats → s ≡ r → s ≡ free_seat (map (option_map member_of) seats)
free_is seats r s is same = same ∙ is ∙ sym (through (option_map member_of) is_none 0 seats)

pub spare_is : {B : Type 0} (f : B → Object) (name : Name) (boxes slice : List B) (r : Option ℕ) → slice ≡ boxes → r ≡ position_from (λ o. is_called name (member_of o)) 0 (map f slice) →
    r ≡ spare_of name (map member_of (map f boxes))
spare_is f name boxes slice r same is =
    is
    ∙ ap (λ (xs : List _). position_from (λ o. is_called name (member_of o)) 0 (map f xs)) same
    ∙ sym (through member_of (is_called name) 0 (map f boxes))
