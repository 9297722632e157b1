-- The records in which two runs differ. This project's own.
use Rattle.std.specs.Prelude.{ℕ, ◌+◌, Bool, not, ◌&&◌, ◌||◌, List, [], ◌∷◌, length, nat_lt, Option, Some, None, if◌then◌else◌}
use Rattle.std.specs.List.{filter_map}
use Rattle.run_comparison.specs.Meaning.{meanings_in}
use Rattle.run_comparison.specs.Order.{are_same}
use Rattle.run_comparison.specs.declared.meaning.Sort.{Sort}
use Rattle.run_comparison.specs.declared.meaning.Sort.TheVariants as sort
use Rattle.run_comparison.specs.declared.met.MetRecord.{MetRecord}

-- a record by its number, from 1, and the packets that it led to in each run
pub record Both : Type 0 where
  pub number : ℕ
  pub old : List ℕ
  pub new : List ℕ

-- the records of two runs side by side, by the packets of each, the first of which has this number
abbrev pub both_from : ℕ → (olds news : List (List ℕ)) → List Both
both_from number [] news = []
both_from number (old ∷ olds) [] = []
both_from number (old ∷ olds) (new ∷ news) = record { number = number; old = old; new = new } ∷ both_from (number + 1) olds news

-- whether requests, or events, are not the same in both runs, in order, by what they mean
abbrev pub do_differ : Sort → Both → Bool
do_differ which both = not (are_same (meanings_in which both.old) (meanings_in which both.new))

-- a record, and whether the runs differ in it
pub record Shown : Type 0 where
  pub both : Both
  pub requests : Bool
  pub events : Bool

abbrev pub shown_by : Both → Shown
shown_by both = record { both = both; requests = do_differ sort.Requests both; events = do_differ sort.Events both }

-- the program's record
abbrev pub shown_of : MetRecord → Shown
shown_of met = record {
  both = record { number = met.number; old = met.old.items; new = met.new.items };
  requests = met.do_requests_differ;
  events = met.do_events_differ;
}

-- whether a record is kept: if the runs differ in it, or if all are kept that led to packets
abbrev pub is_kept : Bool → Shown → Bool
is_kept keeps_all it = (it.requests || it.events) || (keeps_all && (nat_lt 0 (length it.both.old) || nat_lt 0 (length it.both.new)))

abbrev pub kept : Bool → Shown → Option Shown
kept keeps_all it = if is_kept keeps_all it then Some it else None

-- the records of two runs that are kept
abbrev pub kept_of : Bool → (olds news : List (List ℕ)) → List Shown
kept_of keeps_all olds news = filter_map (λ both. kept keeps_all (shown_by both)) (both_from 1 olds news)
