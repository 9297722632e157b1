use Rattle.std.proofs.Common.{◌≡◌, ◌<◌, ℕ, None}
use Rattle.lc_model.specs.Tables.Image.{entry_code}
use Rattle.table_file.specs.Layout.{layout_of}
use Rattle.table_validator.proofs.image.validate.Given as goal

abbrev pub invariant-loop-number : goal.invariant-loop-number
invariant-loop-number l = (k : ℕ) → k < l.number → entry_code (layout_of l.layout) l.image k ≡ None
