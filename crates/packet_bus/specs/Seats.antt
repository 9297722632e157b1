-- Sets of seats, in the bits of a byte: seat 0 is the lowest bit.
use Rattle.std.specs.Prelude.{ℕ, ◌==◌, Bool, false, ◌&&◌, ◌||◌, List, [], ◌∷◌, map}
use Rattle.std.specs.Int.{bit_at}

-- The value for one seat: whether it is in the set.
abbrev pub is_in : Bool → Bool
is_in inside = inside

-- The set of these bits: for each seat, in order, whether it is in the set.
abbrev pub seats_in : ℕ → List Bool
seats_in bits = map (λ seat. bit_at bits seat == 1) (0 ∷ 1 ∷ 2 ∷ 3 ∷ 4 ∷ 5 ∷ 6 ∷ 7 ∷ [])

-- Whether some seat is in both sets.
abbrev pub meet : List Bool → List Bool → Bool
meet [] others = false
meet (inside ∷ seats) [] = false
meet (inside ∷ seats) (other ∷ others) = (inside && other) || meet seats others

-- The seats that are in one set or the other.
abbrev pub together : List Bool → List Bool → List Bool
together [] others = []
together (inside ∷ seats) [] = inside ∷ seats
together (inside ∷ seats) (other ∷ others) = (inside || other) ∷ together seats others
