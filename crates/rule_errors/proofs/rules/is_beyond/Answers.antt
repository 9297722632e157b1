use Rattle.std.proofs.Common.{◌≡◌, sym, ◌∙◌, ap, ◌+◌, ◌==◌, ◌&&◌, List, length}
use Rattle.indexmap.specs.IndexSet.{insert_key}
use Rattle.lc_model.specs.Codes.{table_entries}
use Rattle.lc_model.specs.declared.field.Term.{Term}
use Rattle.watch_sharing.specs.Numbering.{added}
use Rattle.watch_sharing.proofs.SameTerm.{one_equality}
use Rattle.rule_errors.proofs.rules.is_beyond.Goals as goal

pub returns-then-before-eq-TABLE_ENTRIES-clause-added : goal.returns-then-before-eq-TABLE_ENTRIES-clause-added
returns-then-before-eq-TABLE_ENTRIES-clause-added c =
    c.in_ok-insert_full.ensures.keys ∙ ap (λ eq. insert_key eq c.args.different.now.keys c.args.term) one_equality

pub returns-else-before-eq-TABLE_ENTRIES-clause-added : goal.returns-else-before-eq-TABLE_ENTRIES-clause-added
returns-else-before-eq-TABLE_ENTRIES-clause-added c =
    c.in_ok-insert_full.ensures.keys ∙ ap (λ eq. insert_key eq c.args.different.now.keys c.args.term) one_equality

pub returns-then-before-eq-TABLE_ENTRIES-clause-beyond : goal.returns-then-before-eq-TABLE_ENTRIES-clause-beyond
returns-then-before-eq-TABLE_ENTRIES-clause-beyond c =
    let old : List Term = c.args.different.now.keys in
    let before : length old ≡ table_entries = sym c.len-before.ensures.len ∙ c.if-before-eq-TABLE_ENTRIES.true in
    let now : c.len.result ≡ length (added old c.args.term) =
    c.len.ensures.len ∙ ap length (c.in_ok-insert_full.ensures.keys ∙ ap (λ eq. insert_key eq old c.args.term) one_equality) in
    ap (λ n. n == table_entries + 1) now ∙ ap (λ n. n == table_entries && length (added old c.args.term) == table_entries + 1) (sym before)
