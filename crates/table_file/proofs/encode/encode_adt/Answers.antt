use Rattle.std.proofs.Common.{◌≡◌, ◌∙◌, ap, refl, subst, ℕ, List, length, arith}
use Rattle.lc_model.specs.Tables.Image.{Layout, TableEntry, preamble, entry_bytes, adt_image}
use Rattle.table_file.specs.Layout.{layout_of, layout_of_version}
use Rattle.table_file.proofs.Appending.{filled_up}
use Rattle.table_file.proofs.Versions.{of_actionpoints}
use Rattle.lc_model.proofs.Tables.EntryLengths.{adt_long}
use Rattle.table_file.proofs.encode.encode_adt.Goals as goal

pub returns-clause-bytes : goal.returns-clause-bytes
returns-clause-bytes c =
    let image = c.args.image.now in
    let l : Layout = layout_of c.layout-layout.result in
    subst (λ (m : Layout). c.push_blank_entries.new.out.items ≡ adt_image m image.hash image.watchpoint_count image.actionpoints.items) c.layout-layout.ensures
    (subst (λ (xs : List TableEntry). c.push_blank_entries.new.out.items ≡ adt_image l image.hash image.watchpoint_count xs) c.as_slice-entries.ensures.value
    (filled_up l (entry_bytes l) c.as_slice-entries.result.now (preamble l (length c.as_slice-entries.result.now) image.watchpoint_count image.hash) _ _ _
    (rw (c.in_ok-push_preamble.ensures, c.in_ok-out.ensures.items) refl) c.in_ok-push_actionpoints.ensures c.in_ok-push_blank_entries.ensures))

pub returns-clause-length : goal.returns-clause-length
returns-clause-length c =
    let image = c.args.image.now in
    ap (λ (s : List ℕ). length s) (returns-clause-bytes c)
    ∙ adt_long (layout_of_version image.version) (of_actionpoints image.version) image.hash image.watchpoint_count image.actionpoints.items (omega arith)
    c.requires.few c.requires.fit
