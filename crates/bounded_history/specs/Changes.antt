-- Lists of changes, and how they are reduced by columns of records. This project's own.
use Rattle.std.specs.Prelude.{ℕ, Bool, false, List, [], ◌∷◌, ◌+◌, ◌-◌, ◌/◌, ◌^◌, ◌&&◌, min, nat_eq, bit_or, if◌then◌else◌}
use Rattle.std.specs.Int.{int_min, int_max}
use Rattle.std.specs.Ordering.{int_eq}
use Rattle.bounded_history.specs.declared.entry.Content.{Content}
use Rattle.bounded_history.specs.declared.entry.Entry.{Entry}

-- ---- the content of entries

-- the two contents are equal
abbrev pub is_said_again : Content → Content → Bool
is_said_again one other =
    nat_eq one.results other.results && (nat_eq one.states other.states && (int_eq one.low other.low && int_eq one.high other.high))

-- the content of two: all bits of both, the least and the greatest value of both
abbrev pub both : Content → Content → Content
both one other = record {
  results = bit_or one.results other.results;
  states = bit_or one.states other.states;
  low = int_min one.low other.low;
  high = int_max one.high other.high;
}

-- two consecutive entries as one, from the first one's record on; changes are counted up to 2 ^ 64 - 1
abbrev pub joined : Entry → Entry → Entry
joined one other = record {
  from = one.from;
  time = one.time;
  told = both one.told other.told;
  changes = min (one.changes + other.changes) (2 ^ 64 - 1);
}

-- ---- changes

-- the entries that differ from the one before them; `last` is the one before the first
abbrev pub changes_behind : Entry → List Entry → List Entry
changes_behind last [] = []
changes_behind last (entry ∷ entries) =
    if is_said_again last.told entry.told then changes_behind last entries else entry ∷ changes_behind entry entries

abbrev pub changes : List Entry → List Entry
changes [] = []
changes (entry ∷ entries) = entry ∷ changes_behind entry entries

-- whether the last of the entries has the same content as `entry`
abbrev pub is_said_last : List Entry → Entry → Bool
is_said_last [] entry = false
is_said_last (last ∷ []) entry = is_said_again last.told entry.told
is_said_last (one ∷ other ∷ entries) entry = is_said_last (other ∷ entries) entry

-- ---- columns

-- whether two records, counted from 1, lie in one column of `width` records
abbrev pub is_one_column : ℕ → ℕ → ℕ → Bool
is_one_column width one other = nat_eq ((one - 1) / width) ((other - 1) / width)

-- whether an entry begins in the same column as two others
abbrev pub is_third : ℕ → Entry → Entry → Entry → Bool
is_third width one other entry = is_one_column width one.from entry.from && is_one_column width other.from entry.from

-- an entry before reduced ones: if two entries of its column follow, it is joined with the first of them
abbrev pub in_front : ℕ → Entry → List Entry → List Entry
in_front width entry [] = entry ∷ []
in_front width entry (one ∷ []) = entry ∷ one ∷ []
in_front width entry (one ∷ other ∷ others) =
    if is_one_column width entry.from one.from && is_one_column width one.from other.from then
    joined entry one ∷ other ∷ others
    else entry ∷ one ∷ other ∷ others

-- entries by columns: in each column the last one as it is, and all others as one
abbrev pub reduced : ℕ → List Entry → List Entry
reduced width [] = []
reduced width (entry ∷ entries) = in_front width entry (reduced width entries)
