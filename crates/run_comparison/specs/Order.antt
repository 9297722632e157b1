-- Lists of meanings: whether they are the same, and what one has and the other hasn't. This project's own.
use Rattle.std.specs.Prelude.{◌≡◌, ℕ, Bool, true, false, ◌&&◌, ◌==◌, List, [], ◌∷◌, Option, Some, None, bytes_eq, remove}
use Rattle.std.specs.List.{position_from}
use Rattle.lc_model.specs.Codes.{event_code}
use Rattle.run_comparison.specs.Meaning.{Meaning, Request, Event, of_held}
use Rattle.run_comparison.specs.declared.meaning.Meaning.{Meaning as HeldMeaning}

-- whether two requests or events mean the same
abbrev pub is_same : Meaning → Meaning → Bool
is_same (Request sequence) (Request other) = sequence == other
is_same (Event sender id kind before after) (Event sender' id' kind' before' after') =
    id == id' && event_code kind == event_code kind' && bytes_eq sender sender' && bytes_eq before before' && bytes_eq after after'
is_same (Request sequence) (Event sender id kind before after) = false
is_same (Event sender id kind before after) (Request sequence) = false

-- whether two lists are the same, in the same order
abbrev pub are_same : List Meaning → List Meaning → Bool
are_same [] [] = true
are_same [] (other ∷ others) = false
are_same (one ∷ these) [] = false
are_same (one ∷ these) (other ∷ others) = is_same one other && are_same these others

-- the place of the first meaning that is this one
abbrev pub place_of : HeldMeaning → List HeldMeaning → Option ℕ
place_of one all = position_from (λ other. is_same (of_held one) (of_held other)) 0 all

-- this one in front of those that are left over, unless it has a place among those that it is compared with, which is then taken
abbrev pub only_by : (List HeldMeaning → List HeldMeaning) → HeldMeaning → List HeldMeaning → Option ℕ → List HeldMeaning
only_by others one those (Some place) = others (remove those place)
only_by others one those None = one ∷ others those

-- the meanings of these, in order, that are not among those; each of those counts for one of these
abbrev pub only_in : List HeldMeaning → List HeldMeaning → List HeldMeaning
only_in [] those = []
only_in (one ∷ these) those = only_by (only_in these) one those (place_of one those)

-- lists that are the same are equal, so different meanings differ
abbrev pub SameAreEqual : Type 0
SameAreEqual = (these those : List Meaning) → are_same these those ≡ true → these ≡ those
