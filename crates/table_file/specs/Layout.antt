-- The layouts in which images are written and read. This project's own.
use Rattle.std.specs.Prelude.{ℕ, Option, Some, None, if◌then◌else◌, ◌==◌}
use Rattle.lc_model.specs.Tables.Image as model
use Rattle.table_file.specs.declared.layout.Layout.{Layout}
use Rattle.table_file.specs.declared.layout.Layout.TheVariants.{Watchpoints, Actionpoints, WideActionpoints}
use Rattle.table_file.specs.declared.image.AdtVersion.{AdtVersion}
use Rattle.table_file.specs.declared.image.AdtVersion.TheVariants.{One, Two}

-- The number of bytes of an ADT entry before its equation, in both ADT layouts.
abbrev pub equation_place : ℕ
equation_place = 46

-- The program's layout as one of the model.
abbrev pub layout_of : Layout → model.Layout
layout_of Watchpoints = model.Watchpoints
layout_of Actionpoints = model.Actionpoints
layout_of WideActionpoints = model.WideActionpoints

-- The layout of an ADT of this version.
abbrev pub layout_of_version : AdtVersion → model.Layout
layout_of_version One = model.Actionpoints
layout_of_version Two = model.WideActionpoints

-- The version's number in the preamble.
abbrev pub number_of : AdtVersion → ℕ
number_of version = model.version_of (layout_of_version version)

-- The version with this number; `None` for any other.
abbrev pub version_numbered : ℕ → Option AdtVersion
version_numbered number = if number == number_of One then Some One else if number == number_of Two then Some Two else None
