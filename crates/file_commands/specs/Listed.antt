-- What a listed table file holds. This project's own.
use Rattle.std.specs.Prelude.{List, ℕ, Bool, false, Result, Ok, Err, is_some}
use Rattle.lc_model.specs.declared.kind.Kind.TheVariants.{Wdt}
use Rattle.lc_model.specs.Tables.File.{TableFile, opened}
use Rattle.lc_model.specs.Tables.Image.{layout_of}
use Rattle.lc_model.specs.Tables.InForce.{layouts}

-- the image is as long as those of watchpoints
abbrev pub has_image_of_watchpoints : Result TableFile ℕ → Bool
has_image_of_watchpoints (Ok file) = is_some (layout_of layouts Wdt file.image)
has_image_of_watchpoints (Err code) = false

-- the file opens, and its image is as long as those of watchpoints
abbrev pub holds_watchpoints : List ℕ → Bool
holds_watchpoints bytes = has_image_of_watchpoints (opened bytes)
