-- The laws, of any interpretation whose pairs are sensible, and of bytes.
use Rattle.std.proofs.Common.{List, map, ap}
use Rattle.std.specs.List.{concat}
use Rattle.lc_model.specs.Tables.Image.{Layout}
use Rattle.lc_model.specs.Tables.Interpretation.{Interpretation}
use Rattle.lc_model.specs.Tables.HalvesAndBytes.{as_bytes}
use Rattle.lc_model.specs.Host.Schedule.{Schedule}
use Rattle.lc_model.specs.Host.World.{World, first_world}
use Rattle.lc_model.specs.Host.Run.{handled}
use Rattle.lc_model.specs.Kept.Executive.{Member, first_executive, step_by}
use Rattle.lc_model.proofs.Tables.SoundSensible.{sound_bytes_are_sensible}
use Rattle.host_refinement.specs.Statements.{PairsAreSensible, EachRecordKeeps, WritesWhatIsCalledFor, AreBytes}
use Rattle.host_refinement.proofs.Telemetry.{terms_are_telemetry}
use Rattle.host_refinement.proofs.Whole.{agrees}
use Rattle.host_refinement.proofs.Records.{Together, record_kept}
use Rattle.host_refinement.proofs.Stays.{stays_whole}
use Rattle.host_refinement.proofs.Runs.{begins_so, runs_alike}

module _ {Image : Type 0} (images : Interpretation Image) (IsFine : Image → Type 0) (schedule : Schedule) (pairs : PairsAreSensible images IsFine) where
  pub each_record_keeps : EachRecordKeeps images IsFine schedule
  each_record_keeps moment w e input short keeps whole fine =
      let now : Together images IsFine schedule (agrees images IsFine) pairs (step_by images moment e input) (handled images schedule moment input w) =
      record_kept images IsFine schedule (agrees images IsFine) pairs moment w e input short keeps whole in
      record { keeps = now.keeps; whole = stays_whole images IsFine (agrees images IsFine) schedule moment w input whole fine; packets = now.packets }

  pub writes_what_is_called_for : WritesWhatIsCalledFor images IsFine schedule
  writes_what_is_called_for stock meanings entries short profile fine =
      let begin = begins_so images IsFine schedule stock profile in
      let world : World Image = first_world (map (λ (m : Member). m.called) stock) in
      ap concat (runs_alike images IsFine schedule (agrees images IsFine) pairs (stays_whole images IsFine (agrees images IsFine) schedule) meanings entries world (first_executive stock) short begin.0 begin.1 fine)

-- bytes of sound images are sensible
pub bytes_are_sensible : (layouts : List Layout) → PairsAreSensible (as_bytes layouts) AreBytes
bytes_are_sensible layouts = record {
  sensible = λ pair wdt adt wdt_sound adt_sound match. sound_bytes_are_sensible layouts pair wdt adt wdt_sound adt_sound match;
  telemetry = λ pair wdt adt wdt_sound adt_sound match. terms_are_telemetry layouts pair.wdt wdt wdt_sound;
}
