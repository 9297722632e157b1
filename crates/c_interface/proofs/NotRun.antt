-- Where nothing was run, and where these texts were.
use Rattle.std.proofs.Common.{◌≡◌, ◌≢◌, inl, inr, subst, List, ℕ, length}
use Rattle.std.specs.List.{sum}
use Rattle.lc_model.specs.Host.ScheduleText.{schedule_in}
use Rattle.schedules.specs.Error.{IsRefused, fault_of}
use Rattle.schedules.specs.declared.error.ScheduleError.{ScheduleError}
use Rattle.schedules.specs.declared.error.ScheduleError.TheVariants.{Memory}
use Rattle.c_interface.specs.declared.refusal.Refusal.{Refusal}
use Rattle.c_interface.specs.declared.sentence.Sentence.{Sentence}
use Rattle.c_interface.specs.Refusing.{no_memory}
use Rattle.c_interface.specs.Running.{IsNotRun, IsUnfit, IsUnscheduled, RunsOf, numbers_of_fault, unrun}
use Rattle.c_interface.specs.Said.{Says}
use Rattle.c_interface.specs.Words.{out_of_memory, schedule_words}

-- what tells and says the error by which the schedule's text is refused
pub not_run : (schedule : List ℕ) (told : Refusal) (sentence : Sentence) (error : ScheduleError) → IsRefused (schedule_in schedule) error
    → told ≡ numbers_of_fault (fault_of error) → Says (schedule_words error) sentence → IsUnscheduled schedule told sentence
not_run schedule told sentence error refused tells says = record { error = error; refused = refused; is_told = tells; said = says }

pub without_memory : (schedule : List ℕ) (told : Refusal) (sentence : Sentence) → told ≡ unrun no_memory 0 → Says out_of_memory sentence
    → IsUnscheduled schedule told sentence
without_memory schedule told sentence is says = record { error = Memory; refused = tt; is_told = is; said = says }

pub unscheduled : (texts lengths schedule : List ℕ) (told : Refusal) (sentence : Sentence) → IsUnscheduled schedule told sentence
    → IsNotRun texts lengths schedule told sentence
unscheduled texts lengths schedule told sentence why = inr why

pub out_of_memory_for_texts : (texts lengths schedule : List ℕ) (told : Refusal) (sentence : Sentence) → told ≡ unrun no_memory 0
    → Says out_of_memory sentence → IsNotRun texts lengths schedule told sentence
out_of_memory_for_texts texts lengths schedule told sentence is says = inr (without_memory schedule told sentence is says)

pub unfit_lengths : (texts lengths schedule : List ℕ) (told : Refusal) (sentence : Sentence) → IsUnfit told sentence → sum lengths ≢ length texts
    → IsNotRun texts lengths schedule told sentence
unfit_lengths texts lengths schedule told sentence is differ = inl (is, differ)

-- the same texts, by another name
pub of_these : (sources others : List (List ℕ)) (schedule stream output : List ℕ) (written : ℕ) (told : Refusal) (sentence : Sentence) → sources ≡ others
    → RunsOf sources schedule stream output written told sentence → RunsOf others schedule stream output written told sentence
of_these sources others schedule stream output written told sentence same runs =
    subst (λ (texts : List (List ℕ)). RunsOf texts schedule stream output written told sentence) same runs
