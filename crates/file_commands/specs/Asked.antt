-- The form of a listing that its words ask for. This project's own.
use Rattle.std.specs.Prelude.{◌≡◌, Bool, true, false, is_some, not, Option, Some, None}
use Rattle.flight_tools_args.specs.declared.plan.RowWords.{RowWords}
use Rattle.packet_rows.specs.declared.form.Form.{Form}
use Rattle.packet_rows.specs.declared.form.Form.TheVariants.{Csv, Json}
use Rattle.file_commands.specs.declared.rows.Rows.{Rows}

abbrev pub is_csv : Form → Bool
is_csv Csv = true
is_csv Json = false

-- text has no epoch; rows have one of the two forms, and the epoch that is given
abbrev pub IsAsked : RowWords → Option Rows → Type 0
IsAsked words None = (words.csv ≡ false) × (words.json ≡ false) × (is_some words.epoch ≡ false)
IsAsked words (Some rows) = (words.csv ≡ is_csv rows.form) × (words.json ≡ not (is_csv rows.form))
    × (is_some rows.epoch ≡ is_some words.epoch)
