use Rattle.std.proofs.Common.{◌∙◌, ap, ◌==◌}
use Rattle.std.specs.List.{list_all}
use Rattle.table_file.specs.Layout.{layout_of}
use Rattle.table_file.proofs.Opening.{rest_is}
use Rattle.table_file.proofs.Blank.{is_blank_entry}
use Rattle.table_file.proofs.entry.is_blank.Goals as goal

pub returns-then-entry : goal.returns-then-entry
returns-then-entry c =
    c.are_zeros.ensures ∙ ap (list_all (λ b. b == 0)) (rest_is c.args.entry.now 1)
    ∙ is_blank_entry (layout_of c.args.layout) c.args.entry.now c.requires c.if-entry.true
