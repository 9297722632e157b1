-- The errors of a comparison. This project's own.
use Rattle.std.specs.Prelude.{⊤}
use Rattle.run_stepper.specs.declared.watch_error.WatchError.{WatchError}
use Rattle.run_stepper.specs.declared.watch_error.WatchError.TheVariants as watch
use Rattle.run_comparison.specs.declared.error.ComparisonError.{ComparisonError}
use Rattle.run_comparison.specs.declared.error.ComparisonError.TheVariants as comparison

-- a lack of memory, or a writer that fails
abbrev pub IsOwn : ComparisonError → Type 0
IsOwn comparison.Memory = ⊤
IsOwn comparison.Write = ⊤
IsOwn other = ⊥

-- the error of a run that was not watched to the end of its stream
abbrev pub of_watch : WatchError → ComparisonError
of_watch watch.Memory = comparison.Memory
of_watch watch.Read = comparison.Read
of_watch watch.Write = comparison.Write
of_watch watch.Bound = comparison.Bound
