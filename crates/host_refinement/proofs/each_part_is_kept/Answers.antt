use Rattle.std.proofs.Common.{List, ℕ}
use Rattle.lc_model.specs.Tables.Image.{Layout}
use Rattle.lc_model.specs.Tables.HalvesAndBytes.{as_bytes}
use Rattle.lc_model.specs.Host.Schedule.{Schedule}
use Rattle.lc_model.specs.Host.World.{World}
use Rattle.lc_model.specs.Kept.Executive.{Executive}
use Rattle.host_refinement.specs.Keeping.{KeepsTo}
use Rattle.host_refinement.specs.Statements.{AreBytes}
use Rattle.host_refinement.specs.Parts.{HasSpares, HasStates, HoldsCounts, HoldsFiles, HoldsFilters, HoldsTables, PipesAreEmpty, RunsOnOneSeat, IsKept}
use Rattle.host_refinement.proofs.Laws.{each_record_keeps, bytes_are_sensible}
use Rattle.host_refinement.proofs.PartsKept.{kept}
use Rattle.host_refinement.proofs.PartsKept as parts
use Rattle.host_refinement.proofs.each_part_is_kept.Goals as goal

-- a part that all that keeps to a world has
part_kept : (layouts : List Layout) (schedule : Schedule) (Part : World (List ℕ) → Executive (List ℕ) → Type 0) →
    ((w : World (List ℕ)) (e : Executive (List ℕ)) → KeepsTo (as_bytes layouts) schedule w e → Part w e) → IsKept (as_bytes layouts) schedule AreBytes Part
part_kept layouts schedule Part has =
    kept (as_bytes layouts) AreBytes schedule Part (each_record_keeps (as_bytes layouts) AreBytes schedule (bytes_are_sensible layouts)) has

pub returns-clause-files : goal.returns-clause-files
returns-clause-files c layouts schedule = part_kept layouts schedule (HoldsFiles (as_bytes layouts) schedule) (parts.files (as_bytes layouts) schedule)

pub returns-clause-tables : goal.returns-clause-tables
returns-clause-tables c layouts schedule = part_kept layouts schedule (HoldsTables (as_bytes layouts) schedule) (parts.tables (as_bytes layouts) schedule)

pub returns-clause-filters : goal.returns-clause-filters
returns-clause-filters c layouts schedule = part_kept layouts schedule (HoldsFilters (as_bytes layouts) schedule) (parts.filters (as_bytes layouts) schedule)

pub returns-clause-counts : goal.returns-clause-counts
returns-clause-counts c layouts schedule = part_kept layouts schedule (HoldsCounts (as_bytes layouts) schedule) (parts.counts (as_bytes layouts) schedule)

pub returns-clause-seats : goal.returns-clause-seats
returns-clause-seats c layouts schedule = part_kept layouts schedule (RunsOnOneSeat (as_bytes layouts) schedule) (parts.seats (as_bytes layouts) schedule)

pub returns-clause-states : goal.returns-clause-states
returns-clause-states c layouts schedule = part_kept layouts schedule (HasStates (as_bytes layouts) schedule) (parts.states (as_bytes layouts) schedule)

pub returns-clause-spares : goal.returns-clause-spares
returns-clause-spares c layouts schedule = part_kept layouts schedule (HasSpares (as_bytes layouts) schedule) (parts.spares (as_bytes layouts) schedule)

pub returns-clause-pipes : goal.returns-clause-pipes
returns-clause-pipes c layouts schedule = part_kept layouts schedule (PipesAreEmpty (as_bytes layouts) schedule) (parts.pipes (as_bytes layouts) schedule)
