-- Which sequences were requested, and whether one was requested more often by the new text. This project's own.
use Rattle.std.specs.Prelude.{◌≡◌, ℕ, ◌<◌, ◌==◌, Bool, true, List, filter, length, map, nat_lt, take}
use Rattle.std.specs.List.{concat, list_any}
use Rattle.run_comparison.specs.Meaning.{Meaning, Request, Event, meanings_in}
use Rattle.run_comparison.specs.declared.asked.Asked.{Asked}
use Rattle.run_comparison.specs.declared.meaning.Sort.TheVariants as sort

abbrev pub sequence_of : Meaning → ℕ
sequence_of (Request sequence) = sequence
sequence_of (Event sender id kind before after) = 0

-- the sequences that are requested by packets that follow one another
abbrev pub sequences_in : List ℕ → List ℕ
sequences_in packets = map sequence_of (meanings_in sort.Requests packets)

-- those that the records of a run request, by the packets of each, in order
abbrev pub asked_by : List (List ℕ) → List ℕ
asked_by records = concat (map sequences_in records)

-- how often a sequence is in a list
abbrev pub count_of : ℕ → List ℕ → ℕ
count_of sequence all = length (filter (λ other. other == sequence) all)

-- whether one of these is more often in the second list than in the first
abbrev pub is_ahead : (sequences old new : List ℕ) → Bool
is_ahead sequences old new = list_any (λ sequence. nat_lt (count_of sequence old) (count_of sequence new)) sequences

-- after some number of records the new run has requested some sequence more often than the old one
pub record HasNew (olds news : List (List ℕ)) : Type 0 where
  pub records : ℕ
  pub sequence : ℕ
  pub more : count_of sequence (asked_by (take records olds)) < count_of sequence (asked_by (take records news))

-- the program knows which sequences these records requested
pub record HasAsked (asked : Asked) (olds news : List (List ℕ)) : Type 0 where
  pub old : asked.by_old.items ≡ asked_by olds
  pub new : asked.by_new.items ≡ asked_by news
  pub only_new : asked.is_new ≡ true → HasNew olds news
  pub all_new : HasNew olds news → asked.is_new ≡ true
