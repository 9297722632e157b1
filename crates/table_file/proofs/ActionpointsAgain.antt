-- A table of actionpoints that was written is read again.
use Rattle.std.proofs.Common.{◌≡◌, ◌≢◌, refl, ◌∙◌, ap, ℕ, suc, ◌-◌, ◌<◌, ◌^◌, false, ◌==◌, List, [], ◌∷◌, ◌++◌, length, get_or, take, drop, map, replicate, arith}
use Rattle.std.specs.List.{flat_map, AllByRecursion}
use Rattle.std.specs.Int.{w16, from_be_bytes}
use Rattle.std.proofs.lemmas.Nat.{from_be_bytes-to_be_bytes_2}
use Rattle.std.proofs.lemmas.List.{length-map, take_at, drop_at}
use Rattle.lc_model.specs.declared.mode.ApMode.{ApMode}
use Rattle.lc_model.specs.declared.mode.ApMode.TheVariants.{Active, Passive, Disabled, PermOff}
use Rattle.lc_model.specs.declared.rule.EventKind.{EventKind}
use Rattle.lc_model.specs.declared.rule.EventKind.TheVariants.{Debug, Information, Error, Critical}
use Rattle.lc_model.specs.Bytes.{u16, zero_filled}
use Rattle.lc_model.specs.Codes.{state_code, event_code}
use Rattle.lc_model.specs.Name.{name_in}
use Rattle.lc_model.specs.Tables.Equation.{equal_word}
use Rattle.lc_model.specs.Tables.Image.{Layout, entry_length, words_in, TableEntry, entry_bytes, FitsEntry, adt_image, entry_at, numbers_below, filled, words_from, words_before_equal}
use Rattle.lc_model.specs.Tables.Spelled.{state_of_code, event_of_code, read_entry}
use Rattle.table_file.specs.Laws.{FitsTable, ActionpointsAreReadAgain}
use Rattle.lc_model.proofs.Tables.EntryLengths.{AreLong, entries_long_of, long_entry, length-zero_filled}
use Rattle.lc_model.proofs.Tables.WrittenEntries.{before_at, holds_equation}
use Rattle.lc_model.proofs.Tables.EntriesAgain.{entry_again, listed, at_place, preamble_again}

state_again : (m : ApMode) → m ≢ PermOff → state_of_code (state_code m) ≡ m
state_again Active begins = refl
state_again Passive begins = refl
state_again Disabled begins = refl
state_again PermOff begins = absurd (begins refl)

event_again : (k : EventKind) → event_of_code (from_be_bytes w16 (u16 (event_code k))) ≡ k
event_again = elim [ Debug ↦ refl | Information ↦ refl | Error ↦ refl | Critical ↦ refl ]

-- ---- texts

not_zero : (text : List ℕ) → AllByRecursion (λ b. (0 < b) × (b < 2 ^ 8)) text → AllByRecursion (λ b. (b == 0) ≡ false) text
not_zero [] all = tt
not_zero (b ∷ text) all = (grind (arith, all.0.0), not_zero text all.1)

zeros_behind : (size : ℕ) (xs : List ℕ) → length xs < size → zero_filled size xs ≡ xs ++ 0 ∷ replicate (size - length xs - 1) 0
zeros_behind size xs short =
    let more : size - length xs ≡ suc (size - length xs - 1) = omega (arith, short) in
    ap (λ n. xs ++ replicate n 0) more

text_again : (text : List ℕ) → length text < 32 → AllByRecursion (λ b. (0 < b) × (b < 2 ^ 8)) text → name_in (zero_filled 32 text) ≡ text
text_again text short all = ap name_in (zeros_behind 32 text short) ∙ before_at (λ b. b == 0) 0 refl (replicate (32 - length text - 1) 0) text (not_zero text all)

-- ---- one entry

entry_read : (l : Layout) (e : TableEntry) → FitsTable l e → read_entry (entry_bytes l e) ≡ e
entry_read l e is =
    let text : List ℕ = zero_filled 32 e.text in
    let words : List ℕ = flat_map u16 (zero_filled (words_in l) (e.words ++ equal_word ∷ [])) in
    let long : length text ≡ 32 = length-zero_filled 32 e.text (omega (arith, is.fits.text_length)) in
    let text_is : name_in (take 32 (text ++ words)) ≡ e.text = ap name_in (take_at text words 32 long) ∙ text_again e.text is.fits.text_length is.fits.text in
    let words_are : words_before_equal (words_from (drop 32 (text ++ words))) ≡ e.words =
    ap (λ (s : List ℕ). words_before_equal (words_from s)) (drop_at text words 32 long) ∙ (holds_equation (words_in l) e.words is.fits.words is.once).before in
    let state_is : state_of_code (state_code e.mode) ≡ e.mode = state_again e.mode is.begins in
    let turns_down = from_be_bytes-to_be_bytes_2 e.report.pass_to_fail is.fits.pass_to_fail in
    let turns_up = from_be_bytes-to_be_bytes_2 e.report.fail_to_pass is.fits.fail_to_pass in
    let sequence_is = from_be_bytes-to_be_bytes_2 e.sequence is.fits.sequence in
    let fails_is = from_be_bytes-to_be_bytes_2 e.fails is.fits.fails in
    let id_is = from_be_bytes-to_be_bytes_2 e.event_id is.fits.event_id in
    λ i. record {
      mode = state_is i;
      report = record { passive = e.report.passive; pass_to_fail = turns_down i; fail_to_pass = turns_up i };
      sequence = sequence_is i;
      fails = fails_is i;
      event_kind = event_again e.event_kind i;
      event_id = id_is i;
      text = text_is i;
      words = words_are i;
    }

fits_all : (l : Layout) (entries : List TableEntry) → AllByRecursion (FitsTable l) entries → AllByRecursion (FitsEntry l) entries
fits_all l [] all = tt
fits_all l (e ∷ entries) all = (all.0.fits, fits_all l entries all.1)

pub actionpoints_again : ActionpointsAreReadAgain
actionpoints_again l hash watchpoints entries kind long small few fits =
    let image : List ℕ = adt_image l hash watchpoints entries in
    let all : AreLong (entry_length l) (map (entry_bytes l) entries) = entries_long_of l (long_entry l kind) entries (fits_all l entries fits) in
    let preamble_is = preamble_again l (length entries) watchpoints hash (filled l (map (entry_bytes l) entries)) long few small in
    let each : (i : ℕ) (d : TableEntry) → i < length entries → read_entry (entry_at l image i) ≡ get_or entries i d =
    λ i d within. ap read_entry (entry_again l (entry_bytes l) (length entries) watchpoints hash entries i d long all (length-map entries (entry_bytes l)) few within)
    ∙ entry_read l (get_or entries i d) (at_place (FitsTable l) entries i d fits within) in
    (preamble_is, ap (λ n. map (λ i. read_entry (entry_at l image i)) (numbers_below n)) preamble_is.own_is ∙ listed _ entries each)
