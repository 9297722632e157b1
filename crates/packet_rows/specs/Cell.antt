-- What stands in a column. This project's own.
use Rattle.std.specs.Prelude.{ℕ, Option, Some, None}
use Rattle.packet_rows.specs.declared.cell.Cell.{Cell}
use Rattle.packet_rows.specs.declared.cell.Cell.TheVariants.{Empty, Number}

-- a number, where there is one
abbrev pub number_cell : Option ℕ → Cell
number_cell (Some number) = Number number
number_cell None = Empty
