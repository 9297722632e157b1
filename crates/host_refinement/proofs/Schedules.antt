-- What a schedule's text says has its slots and entries.
use Rattle.std.proofs.Common.{◌≡◌, ℕ, zero, suc, ◌+◌, ◌≤◌, ◌<◌, Bool, true, false, not, ◌&&◌, ◌==◌, nat_lt, nat_le, bytes_eq, codes, List, [], ◌∷◌, ◌++◌, length, replicate, slice_index_or, slice_set, refl, arith, length-append, Option, Some, None, Result, Ok, Err, IfSome, IfOk, if◌then◌else◌}
use Rattle.std.specs.List.{AllByRecursion}
use Rattle.std.proofs.lemmas.List.{length-set, length-replicate}
use Rattle.lc_model.specs.Command.{is_range}
use Rattle.lc_model.specs.Host.Schedule.{Schedule, ScheduleEntry, Sample, Housekeeping, IsEntry, AreEntries, IsSchedule}
use Rattle.lc_model.specs.Host.ScheduleText.{ScheduleFault, decimal_number, lines_of, words_of, slots_in, ages_in, entry_in, is_silent, empty_slots, entry_added, line_read, lines_read}
use Rattle.lc_model.proofs.Tables.SaidLaws.{all_append}
use Rattle.host_refinement.specs.Statements.{SchedulesFit}

-- ---- what a line says

infixl 10 ◌>>=◌
-- as in schedules
abbrev ◌>>=◌ : {A B : Type 0} → Option A → (A → Option B) → Option B
(Some x) >>= next = next x
None >>= next = None

some_slots : (test : Bool) (n : ℕ) → IfSome (if test && not (n == 0) then Some n else None) (λ m. 1 ≤ m)
some_slots false n = tt
some_slots true n = by_zero (n == 0) refl
  where
    by_zero : (zero : Bool) → (n == 0) ≡ zero → IfSome (if not zero then Some n else None) (λ m. 1 ≤ m)
    by_zero true e = tt
    by_zero false e = grind (arith, e)

slots_some : (words : List (List ℕ)) → IfSome (slots_in words) (λ n. 1 ≤ n)
slots_some [] = tt
slots_some (first ∷ []) = tt
slots_some (first ∷ number ∷ []) = by_number (decimal_number number)
  where
    by_number : (o : Option ℕ) → IfSome (o >>= (λ n. if bytes_eq first (codes "slots") && not (n == 0) then Some n else None)) (λ n. 1 ≤ n)
    by_number None = tt
    by_number (Some n) = some_slots (bytes_eq first (codes "slots")) n
slots_some (first ∷ number ∷ more ∷ words) = tt

abbrev Placed : Option (ℕ × ScheduleEntry) → Type 0
Placed o = IfSome o (λ placed. IsEntry placed.1)

housekeeping_placed : (verb : List ℕ) (o : Option ℕ) →
    Placed (o >>= (λ s. if bytes_eq verb (codes "housekeeping") then Some (s, Housekeeping) else None))
housekeeping_placed verb None = tt
housekeeping_placed verb (Some s) = by_test (bytes_eq verb (codes "housekeeping"))
  where
    by_test : (test : Bool) → Placed (if test then Some (s, Housekeeping) else None)
    by_test true = tt
    by_test false = tt

sample_placed : (test : Bool) (s first last : ℕ) (ages : Bool) → Placed (if test && is_range first last then Some (s, Sample first last ages) else None)
sample_placed false s first last ages = tt
sample_placed true s first last ages = by_range (is_range first last) refl
  where
    by_range : (test : Bool) → is_range first last ≡ test → Placed (if test then Some (s, Sample first last ages) else None)
    by_range true e = e
    by_range false e = tt

entry_fits : (words : List (List ℕ)) → Placed (entry_in words)
entry_fits [] = tt
entry_fits (slot ∷ []) = tt
entry_fits (slot ∷ verb ∷ []) = housekeeping_placed verb (decimal_number slot)
entry_fits (slot ∷ verb ∷ start ∷ []) = tt
entry_fits (slot ∷ verb ∷ start ∷ end ∷ []) = tt
entry_fits (slot ∷ verb ∷ start ∷ end ∷ age ∷ []) = by_numbers (decimal_number slot) (decimal_number start) (decimal_number end) (ages_in age)
  where
    by_numbers : (a b c : Option ℕ) (d : Option Bool) →
        Placed (a >>= (λ s. b >>= (λ first. c >>= (λ last. d >>= (λ ages. if bytes_eq verb (codes "sample") && is_range first last then Some (s, Sample first last ages) else None)))))
    by_numbers None b c d = tt
    by_numbers (Some s) None c d = tt
    by_numbers (Some s) (Some first) None d = tt
    by_numbers (Some s) (Some first) (Some last) None = tt
    by_numbers (Some s) (Some first) (Some last) (Some ages) = sample_placed (bytes_eq verb (codes "sample")) s first last ages
entry_fits (slot ∷ verb ∷ start ∷ end ∷ age ∷ more ∷ words) = tt

-- ---- slots

all_empty : (n : ℕ) → AllByRecursion AreEntries (replicate n [])
all_empty zero = tt
all_empty (suc n) = ((omega arith, tt), all_empty n)

at_slot : (slots : Schedule) (n : ℕ) → AllByRecursion AreEntries slots → AreEntries (slice_index_or slots n [])
at_slot [] n all = (omega arith, tt)
at_slot (entries ∷ slots) zero all = all.0
at_slot (entries ∷ slots) (suc n) all = at_slot slots n all.1

all_set : (slots : Schedule) (n : ℕ) (entries : List ScheduleEntry) → AllByRecursion AreEntries slots → AreEntries entries → AllByRecursion AreEntries (slice_set slots n entries)
all_set [] n entries all fits = tt
all_set (old ∷ slots) zero entries all fits = (fits, all.1)
all_set (old ∷ slots) (suc n) entries all fits = (all.0, all_set slots n entries all.1 fits)

abbrev Fits : Result Schedule ScheduleFault → Type 0
Fits r = IfOk r (λ (schedule : Schedule). IsSchedule schedule)

empty_fits : (o : Option ℕ) (line : ℕ) → IfSome o (λ n. 1 ≤ n) → Fits (empty_slots o line)
empty_fits None line some = tt
empty_fits (Some n) line some = by_test (nat_lt 64 n) refl
  where
    slots : Schedule
    slots = replicate n []

    many : length slots ≡ n
    many = length-replicate n []

    by_test : (test : Bool) → nat_lt 64 n ≡ test → Fits (if test then Err (record { code = 132; line = line }) else Ok slots)
    by_test true e = tt
    by_test false e = record {
      some = omega (arith, some, many);
      few = (let small : n ≤ 64 = grind (arith, e) in omega (arith, small, many));
      slots = all_empty n;
    }

added_fits : (schedule : Schedule) (o : Option (ℕ × ScheduleEntry)) (line : ℕ) → IsSchedule schedule → Placed o → Fits (entry_added schedule o line)
added_fits schedule None line is fits = tt
added_fits schedule (Some placed) line is fits = by_slot (not (nat_lt placed.0 (length schedule))) (nat_le 8 (length entries)) refl
  where
    entries : List ScheduleEntry
    entries = slice_index_or schedule placed.0 []

    after : List ScheduleEntry
    after = entries ++ placed.1 ∷ []

    were : AreEntries entries
    were = at_slot schedule placed.0 is.slots

    longer : length after ≡ length entries + 1
    longer = length-append entries (placed.1 ∷ [])

    same : length (slice_set schedule placed.0 after) ≡ length schedule
    same = length-set schedule placed.0 after

    by_slot : (outside full : Bool) → nat_le 8 (length entries) ≡ full →
        Fits (if outside then Err (record { code = 131; line = line }) else if full then Err (record { code = 133; line = line }) else Ok (slice_set schedule placed.0 after))
    by_slot true full e = tt
    by_slot false true e = tt
    by_slot false false e = record {
      some = omega (arith, is.some, same);
      few = omega (arith, is.few, same);
      slots = all_set schedule placed.0 after is.slots
          ((let room : length entries < 8 = grind (arith, e) in omega (arith, room, longer)), all_append IsEntry entries (placed.1 ∷ []) were.1 (fits, tt));
    }

line_fits : (known : Option Schedule) (words : List (List ℕ)) (line : ℕ) → IfSome known (λ (schedule : Schedule). IsSchedule schedule) → Fits (line_read known words line)
line_fits None words line is = empty_fits (slots_in words) line (slots_some words)
line_fits (Some schedule) words line is = added_fits schedule (entry_in words) line is (entry_fits words)

-- ---- all lines

lines_fit : (texts : List (List ℕ)) (known : Option Schedule) (line : ℕ) → IfSome known (λ (schedule : Schedule). IsSchedule schedule) → Fits (lines_read known line texts)
lines_fit [] None line is = tt
lines_fit [] (Some schedule) line is = is
lines_fit (text ∷ texts) known line is =
    by_silence (is_silent (words_of text)) (line_read known (words_of text) line) (line_fits known (words_of text) line is) (lines_fit texts known (line + 1) is)
    (λ schedule fits. lines_fit texts (Some schedule) (line + 1) fits)
  where
    by_silence : (silent : Bool) (r : Result Schedule ScheduleFault) → Fits r → Fits (lines_read known (line + 1) texts) →
        ((schedule : Schedule) → IsSchedule schedule → Fits (lines_read (Some schedule) (line + 1) texts)) →
        Fits (if silent then lines_read known (line + 1) texts
        else elim r as (λ r. Result Schedule ScheduleFault) [ Err fault ↦ Err fault | Ok schedule ↦ lines_read (Some schedule) (line + 1) texts ])
    by_silence true r fits others next = others
    by_silence false (Err fault) fits others next = tt
    by_silence false (Ok schedule) fits others next = next schedule fits

pub schedules_fit : SchedulesFit
schedules_fit text = lines_fit (lines_of text) None 1 tt
