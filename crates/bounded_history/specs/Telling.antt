-- The entries for which lists of changes stand. This project's own.
use Rattle.std.specs.Prelude.{ℕ, List, [], ◌∷◌, ◌++◌, ◌≡◌, ◌≤◌, ◌<◌, ◌+◌, ◌-◌, ◌*◌, ◌/◌, ◌^◌, ◌⊎◌, length, max, zero, suc}
use Rattle.bounded_history.specs.declared.entry.Entry.{Entry}
use Rattle.bounded_history.specs.declared.changes.Changes.{Changes}
use Rattle.bounded_history.specs.declared.pool.Pool.{Pool}
use Rattle.bounded_history.specs.Changes.{changes, reduced}

-- how often the width of a list's columns was doubled
abbrev pub doublings_of : Changes → ℕ
doublings_of list = list.doublings

-- the number of records in a column of the list
abbrev pub width_of : Changes → ℕ
width_of list = 2 ^ list.doublings

-- the number of entries in a list
abbrev pub entry_count : Changes → ℕ
entry_count list = length list.entries.items

-- the lists of a pool
abbrev pub lists_of : Pool → List Changes
lists_of pool = pool.lists.items

-- a list stands for these entries: it has their changes, reduced by columns of a power of two of records; 2 ^ 64
-- hold all
pub record Tells (list : Changes) (told : List Entry) : Type 0 where
  pub entries : list.entries.items ≡ reduced (width_of list) (changes told)
  pub widest : list.doublings ≤ 64
  pub few : list.doublings ≡ 64 → entry_count list ≤ 2

-- this is the least number of doublings, not below the first, that leaves at most `most` of these changes
pub record IsLeast (changed : List Entry) (most first doublings : ℕ) : Type 0 where
  pub more : first ≤ doublings
  pub few : length (reduced (2 ^ doublings) changed) ≤ most
  pub least : (fewer : ℕ) → first ≤ fewer → fewer < doublings → most < length (reduced (2 ^ fewer) changed)

-- each list stands for the entries at its place
abbrev pub AllTell : List Changes → List (List Entry) → Type 0
AllTell [] [] = Unit {0}
AllTell [] (told ∷ more) = ⊥
AllTell (list ∷ lists) [] = ⊥
AllTell (list ∷ lists) (told ∷ more) = Tells list told × AllTell lists more

-- one more entry for the list with this number, if there is one
abbrev pub told_to : ℕ → Entry → List (List Entry) → List (List Entry)
told_to number entry [] = []
told_to zero entry (told ∷ more) = (told ++ entry ∷ []) ∷ more
told_to (suc number) entry (told ∷ more) = told ∷ told_to number entry more

-- ---- room

-- the number of entries that a pool may have
abbrev pub most_of : Pool → ℕ
most_of pool = pool.most

-- the number of entries that all lists have together
abbrev pub entries_in : List Changes → ℕ
entries_in [] = 0
entries_in (list ∷ lists) = entry_count list + entries_in lists

-- of the list with this number: its entries, its doublings, and the entries for which it stands; 0 or none without a
-- list
abbrev pub count_at : ℕ → List Changes → ℕ
count_at number [] = 0
count_at zero (list ∷ lists) = entry_count list
count_at (suc number) (list ∷ lists) = count_at number lists

abbrev pub doublings_at : ℕ → List Changes → ℕ
doublings_at number [] = 0
doublings_at zero (list ∷ lists) = list.doublings
doublings_at (suc number) (list ∷ lists) = doublings_at number lists

abbrev pub told_at : ℕ → List (List Entry) → List Entry
told_at number [] = []
told_at zero (told ∷ more) = told
told_at (suc number) (told ∷ more) = told_at number more

-- the lists have room: together they have at most `most` entries, or none of them has more than two
abbrev pub HaveRoom : ℕ → List Changes → Type 0
HaveRoom most lists = (entries_in lists ≤ most) ⊎ ((number : ℕ) → count_at number lists ≤ 2)

-- a pool's lists stand for these entries and have room: they have at most `most` entries, or two for each list
pub record PoolTells (pool : Pool) (told : List (List Entry)) : Type 0 where
  pub all : AllTell (lists_of pool) told
  pub count : pool.count ≡ entries_in (lists_of pool)
  pub small : pool.most < 2 ^ 64 - 1
  pub room : HaveRoom pool.most (lists_of pool)
  pub few : entries_in (lists_of pool) ≤ max pool.most (2 * length (lists_of pool))

-- this is the longest list, and the first of equally long ones
pub record IsLongest (number : ℕ) (lists : List Changes) : Type 0 where
  pub longest : (other : ℕ) → count_at other lists ≤ count_at number lists
  pub first : (other : ℕ) → other < number → count_at other lists < count_at number lists

-- the longest list alone is reduced: its columns become the least that leave at most half of its entries, or two
pub record ReducesLongest (told : List (List Entry)) (old new : List Changes) : Type 0 where
  pub number : ℕ
  pub longest : IsLongest number old
  pub reduced : IsLeast (changes (told_at number told)) (max (count_at number old / 2) 2) (doublings_at number old) (doublings_at number new)
  pub others : (other : ℕ) → (other ≡ number → ⊥) → doublings_at other new ≡ doublings_at other old

-- no list has more than two entries, except one that may have three
pub record IsNearlyShort (lists : List Changes) : Type 0 where
  pub number : ℕ
  pub few : count_at number lists ≤ 3
  pub others : (other : ℕ) → (other ≡ number → ⊥) → count_at other lists ≤ 2

-- the columns of the new lists are as wide as those of the old ones
abbrev pub HaveWidthsOf : List Changes → List Changes → Type 0
HaveWidthsOf old new = (number : ℕ) → doublings_at number new ≡ doublings_at number old

-- the longest list is reduced if there is no room
abbrev pub IsReduced : ℕ → List (List Entry) → List Changes → List Changes → Type 0
IsReduced most told old new = (HaveRoom most old × (new ≡ old)) ⊎ ((HaveRoom most old → ⊥) × ReducesLongest told old new)

-- lists got an entry and stand for it too: first with their old columns, and then with room
pub record MakesRoom (most : ℕ) (told : List (List Entry)) (old new : List Changes) : Type 0 where
  pub between : List Changes
  pub tell : AllTell between told
  pub same : HaveWidthsOf old between
  pub made : IsReduced most told between new

-- a pool that had room got an entry: there is one too many at most, or one list alone has three
pub record NearlyTells (pool : Pool) (told : List (List Entry)) : Type 0 where
  pub all : AllTell (lists_of pool) told
  pub count : pool.count ≡ entries_in (lists_of pool)
  pub small : pool.most < 2 ^ 64 - 1
  pub near : (entries_in (lists_of pool) ≤ pool.most + 1) ⊎ IsNearlyShort (lists_of pool)
