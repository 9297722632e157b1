-- What `import` asks for, and what it leads to. This project's own.
use Rattle.std.specs.Prelude.{◌≡◌, ℕ, Bool, true, false, is_some, not, ◌&&◌, ◌||◌, ◌==◌, Result, Ok, Err, if◌then◌else◌}
use Rattle.file_commands.specs.declared.import_outcome.ImportOutcome.{ImportOutcome}
use Rattle.packet_archive.specs.Tally as counts
use Rattle.packet_archive.specs.Tally.{counted, ends_skipped}
use Rattle.packet_archive.specs.declared.front.ArchiveFront.TheVariants.{Over}
use Rattle.packet_archive.specs.declared.import.Met.{Met}
use Rattle.packet_archive.specs.declared.import.Met.TheVariants.{Stands}
use Rattle.packet_archive.specs.declared.tally.Tally.{Tally}
use Rattle.tool_faults.specs.declared.fault.Fault.{Fault}
use Rattle.tool_faults.specs.declared.fault.Fault.TheVariants as fault
use Rattle.flight_tools_args.specs.declared.plan.ImportWords.{ImportWords}
use Rattle.packet_archive.specs.declared.clock.Times.{Times}
use Rattle.packet_archive.specs.declared.clock.Times.TheVariants.{Header, Steps}
use Rattle.packet_archive.specs.declared.front.Resync.{Resync}
use Rattle.packet_archive.specs.declared.front.Resync.TheVariants.{Never, Within, AtEnd}

-- the shortest step in millionths of a second: the first that is no shorter than 1/65,536 s
abbrev pub least_step : ℕ
least_step = 16

-- where no packet stands an import stops, or it skips bytes if it is asked to; at an archive's end no more come
abbrev pub resync_by : Bool → Bool → Resync
resync_by false is_more = Never
resync_by true true = Within
resync_by true false = AtEnd

-- whether an option is given that is about times in headers
abbrev pub is_of_headers : ImportWords → Bool
is_of_headers how = is_some how.time_at || is_some how.subtract

-- packets come by steps exactly where a step is given, and then nothing is about times in headers
abbrev pub AreAsked : ImportWords → Times → Type 0
AreAsked how (Steps step) = (is_some how.step ≡ true) × (is_of_headers how ≡ false)
AreAsked how (Header at epoch) = is_some how.step ≡ false

-- ---- what it leads to

-- before the first archive
abbrev pub started : ImportOutcome
started = record { taken = 0; is_whole = true; is_warned = false }

-- whether an archive ends after a whole packet: no byte is left, and none was skipped after the last packet
abbrev pub is_whole : Tally → Met → Bool
is_whole tally (Stands Over) = not (ends_skipped tally)
is_whole tally met = false

-- the outcome with one more archive
abbrev pub outcome_with : ImportOutcome → Tally → Met → ImportOutcome
outcome_with outcome tally met = record {
  taken = counted outcome.taken tally.taken;
  is_whole = outcome.is_whole && is_whole tally met;
  is_warned = outcome.is_warned || counts.has_warning tally;
}

-- an import is warned of where an archive has a warning, and where nothing was taken
abbrev pub has_warning : ImportOutcome → Bool
has_warning outcome = outcome.is_warned || outcome.taken == 0

-- an archive that ends early is a fault, and so is a warning, where that is asked for
abbrev pub ending_of : ImportOutcome → (is_strict : Bool) → Result (Unit {0}) Fault
ending_of outcome is_strict =
    if not outcome.is_whole then Err fault.Early
    else if is_strict && has_warning outcome then Err fault.Warned
    else Ok tt
