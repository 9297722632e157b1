-- What the program says of what it has done. This project's own.
use Rattle.std.specs.Prelude.{ℕ, codes, List, ◌++◌, Option, Some, None}
use Rattle.std.specs.Fmt.{decimal}
use Rattle.flight_run.specs.declared.done.Done.{Done}
use Rattle.flight_run.specs.declared.done.Done.TheVariants.{Stored, Compiled, Flown}

-- of the stored run the requests among its packets, which is only tested
abbrev pub done_line : Done → Option (List ℕ)
done_line (Stored packets) = None
done_line (Compiled watchpoints rules) = Some (codes "compiled: " ++ (decimal watchpoints ++ (codes " watchpoints, " ++ (decimal rules ++ codes " rules\n"))))
done_line (Flown report) = Some (codes "records " ++ (decimal report.records ++ (codes ", bytes " ++ (decimal report.bytes ++ codes "\n"))))
