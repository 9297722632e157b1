use Rattle.std.proofs.Common.{◌≡◌, ◌∙◌, ap, refl, subst, ℕ, List, length, arith}
use Rattle.lc_model.specs.declared.field.Term.{Term}
use Rattle.lc_model.specs.Tables.Image.{Watchpoints, preamble, term_bytes, wdt_image}
use Rattle.table_file.proofs.Appending.{filled_up}
use Rattle.lc_model.proofs.Tables.EntryLengths.{wdt_long}
use Rattle.table_file.proofs.encode.encode_wdt.Goals as goal

pub returns-clause-bytes : goal.returns-clause-bytes
returns-clause-bytes c =
    subst (λ (xs : List Term). c.push_blank_entries.new.out.items ≡ wdt_image c.args.image.now.hash xs) c.as_slice-terms.ensures.value
    (filled_up Watchpoints term_bytes c.as_slice-terms.result.now
    (preamble Watchpoints (length c.as_slice-terms.result.now) (length c.as_slice-terms.result.now) c.args.image.now.hash) _ _ _
    (rw (c.in_ok-push_preamble.ensures, c.in_ok-out.ensures.items) refl) c.in_ok-push_watchpoints.ensures c.in_ok-push_blank_entries.ensures)

pub returns-clause-length : goal.returns-clause-length
returns-clause-length c =
    ap (λ (s : List ℕ). length s) (returns-clause-bytes c) ∙ wdt_long c.args.image.now.hash c.args.image.now.watchpoints.items (omega arith) c.requires.few
