-- The rows of rules, the counts of packets and the lanes, with one more record.
use Rattle.std.proofs.Common.{◌≡◌, refl, ap, sym, ◌∙◌, ℕ, ◌==◌, ◌&&◌, Bool, true, false, List, [], ◌∷◌, ◌++◌, length, map, Option, Some, None, is_some}
use Rattle.std.specs.List.{AllByRecursion, fold}
use Rattle.std.proofs.lemmas.List.Sums.{fold-append}
use Rattle.lc_model.specs.Host.Schedule.{Schedule}
use Rattle.lc_model.specs.Kept.Summary.{LcOwn}
use Rattle.lc_model.specs.declared.command.SampleRequest.{SampleRequest}
use Rattle.lc_model.specs.declared.mode.ApResult.{ApResult}
use Rattle.lc_model.specs.declared.mode.ApResult.TheVariants.{Pass, Fail, Stale, Error}
use Rattle.run_account.specs.Account.{Seen, checker_at, counts_of, force_at, is_counted, is_packet, is_result, is_text, lane_after, lane_of, number, packets_after, requests_at}
use Rattle.run_account.specs.Clock.{clock_after, more_if}
use Rattle.run_account.specs.Counts.{row_sampled, row_with}
use Rattle.run_account.specs.Lanes.{lane_with, new_lane, rules_of}
use Rattle.run_account.specs.Packets.{brings, packet_with}
use Rattle.run_account.specs.Samples.{result_of}
use Rattle.run_account.specs.declared.clock.RunClock.{RunClock}
use Rattle.run_account.specs.declared.counts.RuleCounts.{RuleCounts}
use Rattle.run_account.specs.declared.counts.RuleRow.{RuleRow}
use Rattle.run_account.specs.declared.lanes.Lane.{Lane}
use Rattle.run_account.specs.declared.packets.PacketCount.{PacketCount}
use Rattle.run_account.proofs.Numbers.{number_more}

-- ---- rules

-- the counts with one more of each result that is so
abbrev counts_if : (ApResult → Bool) → RuleCounts → RuleCounts
counts_if is counts = record {
  passed = more_if (is Pass) counts.passed;
  failed = more_if (is Fail) counts.failed;
  stale = more_if (is Stale) counts.stale;
  errors = more_if (is Error) counts.errors;
}

-- a row's result under tables of a text counts if the text is the row's
by_text : (text : ℕ) (found : Option ApResult) (row : RuleRow) (b : Bool) → text == row.text ≡ b → (row_with 1 (Some text) found row).counts ≡ counts_if (λ result. b && is_result result found) row.counts
by_text text None row true test = refl
by_text text None row false test = refl
by_text text (Some Pass) row true test = rw test refl
by_text text (Some Fail) row true test = rw test refl
by_text text (Some Stale) row true test = rw test refl
by_text text (Some Error) row true test = rw test refl
by_text text (Some found) row false test = rw test refl

row_counts : (force : Option ℕ) (found : Option ApResult) (row : RuleRow) → (row_with 1 force found row).counts ≡ counts_if (λ result. is_text row.text force && is_result result found) row.counts
row_counts None found row = refl
row_counts (Some text) found row = by_text text found row (text == row.text) refl

same_by : (text : ℕ) (found : Option ApResult) (row : RuleRow) (b : Bool) → text == row.text ≡ b →
    ((row_with 1 (Some text) found row).text ≡ row.text) × ((row_with 1 (Some text) found row).rule ≡ row.rule)
same_by text None row b test = (refl, refl)
same_by text (Some found) row true test = rw test (refl, refl)
same_by text (Some found) row false test = rw test (refl, refl)

same_rule : (force : Option ℕ) (found : Option ApResult) (row : RuleRow) → ((row_with 1 force found row).text ≡ row.text) × ((row_with 1 force found row).rule ≡ row.rule)
same_rule None found row = (refl, refl)
same_rule (Some text) found row = same_by text found row (text == row.text) refl

counts_more : (all : Schedule) (text rule : ℕ) (seen : List Seen) (one : Seen) →
    counts_of all text rule (seen ++ one ∷ []) ≡ counts_if (λ result. is_counted all text rule result one) (counts_of all text rule seen)
counts_more all text rule seen one = λ i. record {
  passed = number_more (is_counted all text rule Pass) seen one i;
  failed = number_more (is_counted all text rule Fail) seen one i;
  stale = number_more (is_counted all text rule Stale) seen one i;
  errors = number_more (is_counted all text rule Error) seen one i;
}

-- a row counts the records
abbrev pub Counts : Schedule → List Seen → RuleRow → Type 0
Counts all seen row = row.counts ≡ counts_of all row.text row.rule seen

row_more : (all : Schedule) (seen : List Seen) (one : Seen) (row : RuleRow) → Counts all seen row →
    Counts all (seen ++ one ∷ []) (row_sampled (requests_at all one) (checker_at one) (force_at one) row)
row_more all seen one row counts =
    let found : Option ApResult = result_of (requests_at all one) (checker_at one) row.rule in
    let same = same_rule (force_at one) found row in
    row_counts (force_at one) found row
    ∙ ap (counts_if (λ result. is_counted all row.text row.rule result one)) counts
    ∙ sym (counts_more all row.text row.rule seen one)
    ∙ (λ i. counts_of all (sym same.0 i) (sym same.1 i) (seen ++ one ∷ []))

pub rows_more : (all : Schedule) (seen : List Seen) (one : Seen) (rows : List RuleRow) → AllByRecursion (Counts all seen) rows →
    AllByRecursion (Counts all (seen ++ one ∷ [])) (map (row_sampled (requests_at all one) (checker_at one) (force_at one)) rows)
rows_more all seen one [] count = tt
rows_more all seen one (row ∷ rows) count = (row_more all seen one row count.0, rows_more all seen one rows count.1)

-- with no text in force each row stays as it is
pub no_text : (requests : List SampleRequest) (checker : Option LcOwn) (rows : List RuleRow) → rows ≡ map (row_sampled requests checker None) rows
no_text requests checker [] = refl
no_text requests checker (row ∷ rows) = ap (λ (more : List RuleRow). row ∷ more) (no_text requests checker rows)

-- ---- packets

abbrev pub CountsPackets : List Seen → PacketCount → Type 0
CountsPackets seen count = count.packets ≡ number (is_packet count.mid) seen

packet_by : (mid : ℕ) (count : PacketCount) (b : Bool) → mid == count.mid ≡ b → ((packet_with mid count).packets ≡ more_if b count.packets) × ((packet_with mid count).mid ≡ count.mid)
packet_by mid count true test = rw test (refl, refl)
packet_by mid count false test = rw test (refl, refl)

packet_more : (seen : List Seen) (one : Seen) (mid : ℕ) (count : PacketCount) → brings one.step.bytes ≡ Some mid → CountsPackets seen count → CountsPackets (seen ++ one ∷ []) (packet_with mid count)
packet_more seen one mid count is counts =
    let by = packet_by mid count (mid == count.mid) refl in
    by.0
    ∙ ap (more_if (mid == count.mid)) counts
    ∙ (λ i. more_if (is_text count.mid (sym is i)) (number (is_packet count.mid) seen))
    ∙ sym (number_more (is_packet count.mid) seen one)
    ∙ (λ i. number (is_packet (sym by.1 i)) (seen ++ one ∷ []))

no_packet : (seen : List Seen) (one : Seen) (count : PacketCount) → brings one.step.bytes ≡ None → CountsPackets seen count → CountsPackets (seen ++ one ∷ []) count
no_packet seen one count is counts =
    counts ∙ (λ i. more_if (is_text count.mid (sym is i)) (number (is_packet count.mid) seen)) ∙ sym (number_more (is_packet count.mid) seen one)

packets_by : (seen : List Seen) (one : Seen) (mid : Option ℕ) (counts : List PacketCount) → brings one.step.bytes ≡ mid → AllByRecursion (CountsPackets seen) counts →
    AllByRecursion (CountsPackets (seen ++ one ∷ [])) (packets_after mid counts)
packets_by seen one None [] is count = tt
packets_by seen one (Some mid) [] is count = tt
packets_by seen one None (row ∷ rows) is count = (no_packet seen one row is count.0, packets_by seen one None rows is count.1)
packets_by seen one (Some mid) (row ∷ rows) is count = (packet_more seen one mid row is count.0, packets_by seen one (Some mid) rows is count.1)

pub packets_more : (seen : List Seen) (one : Seen) (counts : List PacketCount) → AllByRecursion (CountsPackets seen) counts →
    AllByRecursion (CountsPackets (seen ++ one ∷ [])) (packets_after (brings one.step.bytes) counts)
packets_more seen one counts count = packets_by seen one (brings one.step.bytes) counts refl count

-- ---- lanes

abbrev pub IsLane : Schedule → List Seen → Lane → Type 0
IsLane all seen lane = lane ≡ lane_of all seen lane

new_by : (all : Schedule) (clock : RunClock) (requests : List SampleRequest) (checker : Option LcOwn) (lane : Lane) (b : Bool) → is_some (result_of requests checker lane.rule) ≡ b →
    new_lane all (lane_with (length all) clock requests checker lane) ≡ new_lane all lane
new_by all clock requests checker lane true test = rw test refl
new_by all clock requests checker lane false test = rw test refl

same_number : (slots : ℕ) (clock : RunClock) (requests : List SampleRequest) (checker : Option LcOwn) (lane : Lane) (b : Bool) → is_some (result_of requests checker lane.rule) ≡ b →
    (lane_with slots clock requests checker lane).rule ≡ lane.rule
same_number slots clock requests checker lane true test = rw test refl
same_number slots clock requests checker lane false test = rw test refl

pub same_numbers : (slots : ℕ) (clock : RunClock) (requests : List SampleRequest) (checker : Option LcOwn) (lanes : List Lane) →
    rules_of (map (lane_with slots clock requests checker) lanes) ≡ rules_of lanes
same_numbers slots clock requests checker [] = refl
same_numbers slots clock requests checker (lane ∷ lanes) =
    λ i. same_number slots clock requests checker lane (is_some (result_of requests checker lane.rule)) refl i ∷ same_numbers slots clock requests checker lanes i

lane_more : (all : Schedule) (seen : List Seen) (one : Seen) (lane : Lane) → IsLane all seen lane → IsLane all (seen ++ one ∷ []) (lane_after all lane one)
lane_more all seen one lane is =
    let now : Lane = lane_after all lane one in
    ap (λ (before : Lane). lane_after all before one) is
    ∙ ap (λ (first : Lane). lane_after all (fold (lane_after all) first seen) one)
    (sym (new_by all (clock_after one.step.bytes one.before) (requests_at all one) (checker_at one) lane (is_some (result_of (requests_at all one) (checker_at one) lane.rule)) refl))
    ∙ sym (fold-append (lane_after all) (new_lane all now) seen (one ∷ []))

pub lanes_more : (all : Schedule) (seen : List Seen) (one : Seen) (lanes : List Lane) → AllByRecursion (IsLane all seen) lanes →
    AllByRecursion (IsLane all (seen ++ one ∷ [])) (map (lane_with (length all) (clock_after one.step.bytes one.before) (requests_at all one) (checker_at one)) lanes)
lanes_more all seen one [] are = tt
lanes_more all seen one (lane ∷ lanes) are = (lane_more all seen one lane are.0, lanes_more all seen one lanes are.1)
