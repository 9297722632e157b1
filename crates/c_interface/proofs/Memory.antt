-- A run over devices that are memory.
use Rattle.std.proofs.Common.{◌≡◌, ◌∙◌, ap, subst, sym, refl, arith, ℕ, Bool, true, false, List, ◌++◌, length, Some, None, Result}
use Rattle.std.specs.Prelude.{⊤}
use Rattle.std.proofs.lemmas.List.{take_at}
use Rattle.lc_model.specs.Device.{Source, Sink}
use Rattle.lc_model.specs.Host.Schedule.{Schedule}
use Rattle.lc_model.specs.Text.Reading.{Expected, TooNested, ForText, AtPlace, Unparsed, ForRule}
use Rattle.lc_model.specs.Host.Outcome.{Devices, devices, Ending, Complete, Uncompiled, MetNoRecord, MetTheEnd, FailedToRead, FailedToWrite, ReachedTheBound, NoMemory}
use Rattle.flight_core.specs.declared.error.Report.{Report}
use Rattle.flight_core.specs.declared.error.RunError.{RunError}
use Rattle.flight_core.specs.Ending.{ending_of}
use Rattle.flight_core.specs.Promises.{Promises}
use Rattle.flight_profile.specs.Members.{OwnWasClosed}
use Rattle.flight_profile.specs.Stock.{AreOwn}
use Rattle.c_interface.specs.declared.refusal.Refusal.{Refusal}
use Rattle.c_interface.specs.Running.{mission, unread, unwritten, written_in, numbers_of_ending, RunsInMemory}

-- what was copied to the front of the room, and the sink that took it
pub copied : (taken copy rest : List ℕ) (full : Bool) → copy ≡ taken → record { gained = Some taken; failed = full; retried = false } ≡ written_in (copy ++ rest) (length taken) full
copied taken copy rest full same i = record { gained = Some (sym (take_at copy rest (length taken) (ap (λ (bytes : List ℕ). length bytes) same) ∙ same) i); failed = full; retried = false }

pub in_memory : (sources : List (List ℕ)) (schedule : Schedule) (stream output : List ℕ) (written : ℕ) (answer : Result Report RunError)
    (before after : Source) (sink sink_after : Sink) (full : Bool)
    → before ≡ unread stream → after.failed ≡ false → (full ≡ true → written ≡ length output) → sink ≡ unwritten → sink_after ≡ written_in output written full
    → Promises ⊤ (AreOwn schedule) OwnWasClosed (mission sources schedule) (devices before after sink sink_after) answer
    → RunsInMemory sources schedule stream output written answer
in_memory sources schedule stream output written answer before after sink sink_after full is_before fails fills is_sink is_after promises =
    let same : devices before after sink sink_after ≡ devices (unread stream) after unwritten (written_in output written full) =
    λ i. devices (is_before i) after (is_sink i) (is_after i) in
    record {
      after = after;
      full = full;
      no_read_fails = fails;
      is_full = fills;
      promises = subst (λ (d : Devices). Promises ⊤ (AreOwn schedule) OwnWasClosed (mission sources schedule) d answer) same promises;
    }

-- 144 of records is a failed write
failed_write : (e : Ending) → (numbers_of_ending e).of ≡ 3 → (numbers_of_ending e).code ≡ 144 → (sent : ℕ) × (e ≡ FailedToWrite sent)
failed_write (Complete records bytes) of code = absurd (omega (arith, code))
failed_write (Uncompiled text None) of code = absurd (omega (arith, of))
failed_write (Uncompiled text (Some (ForText number))) of code = absurd (omega (arith, of))
failed_write (Uncompiled text (Some (AtPlace fault))) of code = absurd (omega (arith, of))
failed_write (Uncompiled text (Some (Unparsed (Expected at what)))) of code = absurd (omega (arith, of))
failed_write (Uncompiled text (Some (Unparsed (TooNested at)))) of code = absurd (omega (arith, of))
failed_write (Uncompiled text (Some (ForRule number rule))) of code = absurd (omega (arith, of))
failed_write (MetNoRecord number) of code = absurd (omega (arith, code))
failed_write (MetTheEnd number) of code = absurd (omega (arith, code))
failed_write FailedToRead of code = absurd (omega (arith, code))
failed_write (FailedToWrite sent) of code = (sent, refl)
failed_write ReachedTheBound of code = absurd (omega (arith, code))
failed_write NoMemory of code = absurd (omega (arith, of))

-- and no write fails where there is room
pub full_where_told : (sources : List (List ℕ)) (schedule : Schedule) (stream output : List ℕ) (written : ℕ) (answer : Result Report RunError) (told : Refusal)
    → RunsInMemory sources schedule stream output written answer → told ≡ numbers_of_ending (ending_of answer)
    → told.of ≡ 3 → told.code ≡ 144 → written ≡ length output
full_where_told sources schedule stream output written answer told run is of code =
    let failed : (sent : ℕ) × (ending_of answer ≡ FailedToWrite sent) =
    failed_write (ending_of answer) (sym (ap (λ (t : Refusal). t.of) is) ∙ of) (sym (ap (λ (t : Refusal). t.code) is) ∙ code) in
    run.is_full ((run.promises.profile tt).failures.told.failed_to_write failed.0 failed.1)
