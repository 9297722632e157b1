-- The laws of reducing by columns. This project's own.
use Rattle.std.specs.Prelude.{◌≡◌, ℕ, true, List, [], ◌∷◌, ◌++◌, ◌-◌, ◌/◌, ◌*◌, ℤ, bit_or, nat_eq, if◌then◌else◌, Option, Some, None}
use Rattle.std.specs.Int.{int_min, int_max}
use Rattle.bounded_history.specs.declared.entry.Entry.{Entry}
use Rattle.bounded_history.specs.declared.changes.Changes.{Changes}
use Rattle.bounded_history.specs.Changes.{is_said_last, reduced}
use Rattle.bounded_history.specs.Telling.{Tells}

-- the entries that begin in a column, counted from 0
abbrev pub in_column : ℕ → ℕ → List Entry → List Entry
in_column width at [] = []
in_column width at (entry ∷ entries) =
    if nat_eq ((entry.from - 1) / width) at then entry ∷ in_column width at entries else in_column width at entries

-- the bits of all their results, and of all their states
abbrev pub results_of : List Entry → ℕ
results_of [] = 0
results_of (entry ∷ entries) = bit_or entry.told.results (results_of entries)

abbrev pub states_of : List Entry → ℕ
states_of [] = 0
states_of (entry ∷ entries) = bit_or entry.told.states (states_of entries)

-- the least and the greatest of this value and all of theirs
abbrev pub least_of : ℤ → List Entry → ℤ
least_of value [] = value
least_of value (entry ∷ entries) = int_min entry.told.low (least_of value entries)

abbrev pub greatest_of : ℤ → List Entry → ℤ
greatest_of value [] = value
greatest_of value (entry ∷ entries) = int_max entry.told.high (greatest_of value entries)

-- the last entry
abbrev pub last_of : List Entry → Option Entry
last_of [] = None
last_of (entry ∷ []) = Some entry
last_of (one ∷ other ∷ entries) = last_of (other ∷ entries)

-- ---- the laws

abbrev pub KeepsResults : Type 0
KeepsResults = (width at : ℕ) (entries : List Entry) → results_of (in_column width at (reduced width entries)) ≡ results_of (in_column width at entries)

abbrev pub KeepsStates : Type 0
KeepsStates = (width at : ℕ) (entries : List Entry) → states_of (in_column width at (reduced width entries)) ≡ states_of (in_column width at entries)

abbrev pub KeepsLeast : Type 0
KeepsLeast = (width at : ℕ) (value : ℤ) (entries : List Entry) →
    least_of value (in_column width at (reduced width entries)) ≡ least_of value (in_column width at entries)

abbrev pub KeepsGreatest : Type 0
KeepsGreatest = (width at : ℕ) (value : ℤ) (entries : List Entry) →
    greatest_of value (in_column width at (reduced width entries)) ≡ greatest_of value (in_column width at entries)

abbrev pub KeepsLast : Type 0
KeepsLast = (width at : ℕ) (entries : List Entry) → last_of (in_column width at (reduced width entries)) ≡ last_of (in_column width at entries)

abbrev pub KeepsWider : Type 0
KeepsWider = (width : ℕ) (entries : List Entry) → reduced (width * 2) (reduced width entries) ≡ reduced (width * 2) entries

-- a list of these entries is also one of these entries with the last content repeated
abbrev pub ToldAgain : Type 0
ToldAgain = (list : Changes) (told : List Entry) (entry : Entry) → is_said_last told entry ≡ true → Tells list told → Tells list (told ++ entry ∷ [])
