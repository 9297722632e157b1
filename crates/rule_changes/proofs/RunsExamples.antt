-- The laws of changed texts on two short streams, computed: their premises can be met, and they speak of requests that come.
use Rattle.std.proofs.Common.{◌≡◌, refl, ap, sym, ◌∙◌, true≢false, ℕ, ◌≤◌, ◌==◌, Bool, true, false, not, ◌&&◌, List, [], ◌∷◌, ◌++◌, length, take, codes, arith, inl}
use Rattle.std.specs.Prelude.{pos}
use Rattle.std.specs.Fmt.{digits}
use Rattle.std.specs.List.{list_all}
use Rattle.lc_model.specs.declared.truth.Truth.{Truth}
use Rattle.lc_model.specs.declared.truth.Truth.TheVariants.{True, False, Stale, Error}
use Rattle.lc_model.specs.declared.field.FieldType.TheVariants.{U16Be}
use Rattle.lc_model.specs.declared.field.CmpOp.TheVariants.{Less}
use Rattle.lc_model.specs.declared.mode.ApMode.TheVariants as state
use Rattle.lc_model.specs.declared.rule.EventKind.TheVariants as kind
use Rattle.lc_model.specs.Bytes.{zero_filled, u16, u32}
use Rattle.lc_model.specs.Name.{lc_name}
use Rattle.lc_model.specs.Packet.{command, message_id, executive_services_mid, lc_command_mid, sample_mid}
use Rattle.lc_model.specs.Truth.{truth_not}
use Rattle.lc_model.specs.Condition.{Condition, Watch, Not}
use Rattle.lc_model.specs.Rule.{Actionpoint}
use Rattle.lc_model.specs.Tables.InForce.{layouts}
use Rattle.lc_model.specs.Tables.HalvesAndBytes.{Text}
use Rattle.lc_model.specs.Events.Outgoing.{sequence_request}
use Rattle.lc_model.specs.LimitChecker.Watch.{truth_of}
use Rattle.lc_model.specs.Host.Stream.{StreamEntry, Contents, Packet, Tick, File, Half, records_of}
use Rattle.lc_model.specs.Host.Promise.{sequences_called_for}
use Rattle.lc_model.specs.Laws.Reworded.{AreNotOf}
use Rattle.rule_changes.specs.Runs.{requests_called_for, requests_of, times_requested, RequestsAlike, RequestsNoSooner, ComeByNumber, NeverPassive}
use Rattle.rule_changes.proofs.RunsLaws.{alike_texts_request_alike, sequences_stay_alike, sequences_come_no_sooner}

-- ---- texts of one rule

abbrev volts_below : ℕ → Condition
volts_below limit = Watch (record { kind = U16Be; mid = 0x0883; offset = 12; mask = 65535; stale = 0; op = Less; value = pos limit })

abbrev low : ℕ → ℕ → Condition → Actionpoint
low event fails condition = record {
  mode = state.Active;
  fails = fails;
  sequence = 7;
  event_kind = kind.Error;
  event_id = event;
  text = codes "low volts";
  report = record { passive = 0; pass_to_fail = 0; fail_to_pass = 0 };
  condition = condition;
}

abbrev text_of : ℕ → Actionpoint → Text
text_of number rule = record { source = number ∷ []; rules = record { name = codes "LOW"; action = rule } ∷ [] }

-- two failures of V < 2400
abbrev old : Text
old = text_of 0 (low 1001 2 (volts_below 2400))

-- the same in other words, with another event
abbrev reworded : Text
reworded = text_of 1 (low 1002 2 (Not (Not (volts_below 2400))))

-- three failures
abbrev slower : Text
slower = text_of 2 (low 1001 3 (volts_below 2400))

-- ---- a stream

header : ℕ → ℕ → List ℕ
header kind size = kind ∷ (u32 100 ++ u16 0 ++ u32 size)

half_record : List ℕ → ℕ → List ℕ
half_record name half = header 4 43 ++ zero_filled 40 name ++ half ∷ u16 0

packet_record : List ℕ → List ℕ
packet_record bytes = header 1 (length bytes) ++ bytes

prelude : List ℕ
prelude =
    half_record (codes "/cf/lc_def_wdt.tbl") 1 ++ half_record (codes "/cf/lc_def_adt.tbl") 2
    ++ packet_record (command executive_services_mid 0 1 (zero_filled 20 lc_name))

volts : ℕ → List ℕ
volts v = packet_record (0x08 ∷ 0x83 ∷ 0xC0 ∷ 0 ∷ 0 ∷ 9 ∷ 0 ∷ 0 ∷ 0 ∷ 0 ∷ 0 ∷ 0 ∷ (u16 v ++ 0 ∷ 0 ∷ []))

sample : List ℕ
sample = packet_record (command sample_mid 0 0 (0xFF ∷ 0xFF ∷ 0xFF ∷ 0xFF ∷ 0 ∷ 0 ∷ 0 ∷ 0 ∷ []))

-- V is 2399, and three samples follow
stream : List ℕ
stream = prelude ++ volts 2399 ++ sample ++ sample ++ sample

-- none of its records is a raw file
unfoldable is_no_file : Contents → Bool
is_no_file (File name bytes) = false
is_no_file (Packet bytes) = true
is_no_file Tick = true
is_no_file (Half name kind number) = true

not_of : (text : Text) (entries : List StreamEntry) → list_all (λ (entry : StreamEntry). is_no_file entry.contents) entries ≡ true → AreNotOf text entries
unfolding is_no_file
not_of text [] all = tt
not_of text (entry ∷ entries) all = by_test (is_no_file entry.contents) refl all (not_of text entries)
  where
    by_test : (test : Bool) → is_no_file entry.contents ≡ test → (test && list_all (λ (entry : StreamEntry). is_no_file entry.contents) entries) ≡ true →
        (list_all (λ (entry : StreamEntry). is_no_file entry.contents) entries ≡ true → AreNotOf text entries) → AreNotOf text (entry ∷ entries)
    by_test true is all later = ((λ name bytes file e. absurd (true≢false (sym is ∙ ap is_no_file e))), later all)
    by_test false is all later = absurd (true≢false (sym all))

no_files : list_all (λ (entry : StreamEntry). is_no_file entry.contents) (records_of 1 stream).0 ≡ true
unfolding is_no_file stream prelude volts sample packet_record half_record header
no_files = refl

by_number : (new : Text) → ComeByNumber [] stream old new
by_number new = record {
  old_apart = tt;
  new_apart = tt;
  old_files = not_of old (records_of 1 stream).0 no_files;
  new_files = not_of new (records_of 1 stream).0 no_files;
}

-- ---- alike

twice : (x : Truth) → truth_not (truth_not x) ≡ x
twice True = refl
twice False = refl
twice Stale = refl
twice Error = refl

requests_alike : RequestsAlike (low 1001 2 (volts_below 2400)) (low 1002 2 (Not (Not (volts_below 2400))))
requests_alike = record {
  only = λ h e. sym (twice (truth_of (volts_below 2400) h)) ∙ e;
  wherever = λ h e. twice (truth_of (volts_below 2400) h) ∙ e;
  mode = refl;
  fails = refl;
  sequence = refl;
}

old_requests : sequences_called_for layouts (old ∷ []) [] (lc_name ∷ []) stream ≡ sequence_request 0 7 ∷ []
unfolding digits stream prelude volts sample packet_record half_record header
old_requests = refl

reworded_requests : sequences_called_for layouts (reworded ∷ []) [] (lc_name ∷ []) stream ≡ sequence_request 0 7 ∷ []
reworded_requests =
    sym (alike_texts_request_alike layouts old reworded [] [] (lc_name ∷ []) stream (by_number reworded) (inl requests_alike, tt)) ∙ old_requests

-- ---- record by record

abbrev seven : ℕ → Bool
seven sequence = sequence == 7

-- the old text requests the sequence at the second sample, the sixth record; the slower one at the third
old_times : requests_of seven (requests_called_for layouts (old ∷ []) [] (lc_name ∷ []) stream) ≡ [] ∷ [] ∷ [] ∷ [] ∷ [] ∷ (7 ∷ []) ∷ [] ∷ []
unfolding digits stream prelude volts sample packet_record half_record header
old_times = refl

reworded_times : requests_of seven (requests_called_for layouts (reworded ∷ []) [] (lc_name ∷ []) stream) ≡ [] ∷ [] ∷ [] ∷ [] ∷ [] ∷ (7 ∷ []) ∷ [] ∷ []
reworded_times =
    sym (sequences_stay_alike layouts old reworded [] [] (lc_name ∷ []) stream seven (by_number reworded) (inl requests_alike, tt)) ∙ old_times

slower_times : requests_of seven (requests_called_for layouts (slower ∷ []) [] (lc_name ∷ []) stream) ≡ [] ∷ [] ∷ [] ∷ [] ∷ [] ∷ [] ∷ (7 ∷ []) ∷ []
unfolding digits stream prelude volts sample packet_record half_record header
slower_times = refl

-- no record is a command to the Limit Checker
unfoldable is_no_command : Contents → Bool
is_no_command (Packet bytes) = not (message_id bytes == lc_command_mid)
is_no_command other = true

never_passive : (entries : List StreamEntry) → list_all (λ (entry : StreamEntry). is_no_command entry.contents) entries ≡ true → NeverPassive entries
unfolding is_no_command
never_passive [] all = tt
never_passive (entry ∷ entries) all = by_test (is_no_command entry.contents) refl all (never_passive entries)
  where
    by_mid : (mid : ℕ) → mid ≡ lc_command_mid → not (mid == lc_command_mid) ≡ false
    by_mid mid same = ap (λ m. not (m == lc_command_mid)) same

    by_test : (test : Bool) → is_no_command entry.contents ≡ test → (test && list_all (λ (entry : StreamEntry). is_no_command entry.contents) entries) ≡ true →
        (list_all (λ (entry : StreamEntry). is_no_command entry.contents) entries ≡ true → NeverPassive entries) → NeverPassive (entry ∷ entries)
    by_test true is all later =
        ((λ bytes number e mid command passive. true≢false (sym is ∙ ap is_no_command e ∙ by_mid (message_id bytes) mid)), later all)
    by_test false is all later = absurd (true≢false (sym all))

no_commands : list_all (λ (entry : StreamEntry). is_no_command entry.contents) (records_of 1 stream).0 ≡ true
unfolding is_no_command stream prelude volts sample packet_record half_record header
no_commands = refl

no_sooner : RequestsNoSooner (low 1001 2 (volts_below 2400)) (low 1001 3 (volts_below 2400))
no_sooner = record { later = record { fails = omega arith; only = λ h e. e }; mode = refl; sequence = refl }

slower_comes_no_sooner : (n : ℕ) → times_requested seven (take n (requests_called_for layouts (slower ∷ []) [] (lc_name ∷ []) stream))
    ≤ times_requested seven (take n (requests_called_for layouts (old ∷ []) [] (lc_name ∷ []) stream))
slower_comes_no_sooner n =
    sequences_come_no_sooner layouts old slower [] [] (lc_name ∷ []) stream seven n (by_number slower) (inl no_sooner, tt) (never_passive (records_of 1 stream).0 no_commands)

-- ---- a passive Limit Checker

-- the mode is set to passive, V is 2399, a sample follows; the mode is set to active, and another sample follows
mode_set : ℕ → List ℕ
mode_set number = packet_record (command lc_command_mid 0 2 (u16 number ++ 0 ∷ 0 ∷ []))

passive_stream : List ℕ
passive_stream = prelude ++ mode_set 2 ++ volts 2399 ++ sample ++ mode_set 1 ++ sample

-- a rule that needs one failure requests nothing: it fails while the Limit Checker is passive, and becomes passive
one_failure : times_requested seven (requests_called_for layouts (text_of 0 (low 1001 1 (volts_below 2400)) ∷ []) [] (lc_name ∷ []) passive_stream) ≡ 0
unfolding digits passive_stream prelude mode_set volts sample packet_record half_record header
one_failure = refl

-- one that needs two requests its sequence: so the law needs its premise on the mode
two_failures : times_requested seven (requests_called_for layouts (old ∷ []) [] (lc_name ∷ []) passive_stream) ≡ 1
unfolding digits passive_stream prelude mode_set volts sample packet_record half_record header
two_failures = refl
