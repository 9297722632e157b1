use Rattle.std.proofs.Common.{◌≡◌, sym, ◌∙◌, ap, subst, ℕ, ◌≤◌, List, length, map}
use Rattle.std.specs.List.{AllByRecursion}
use Rattle.std.proofs.lemmas.List.{length-map}
use Rattle.lc_model.specs.declared.field.Term.{Term}
use Rattle.lc_model.specs.declared.kind.Kind.TheVariants.{Wdt, Adt}
use Rattle.lc_model.specs.Rule.{NamedRule}
use Rattle.lc_model.specs.Tables.File.{file_bytes, wrapped}
use Rattle.lc_model.specs.Tables.Image.{TableEntry, FitsEntry, adt_image, wdt_image}
use Rattle.lc_model.specs.Tables.InForce.{compiled_actionpoints}
use Rattle.lc_model.specs.Tables.Half.{entry_over}
use Rattle.lc_model.specs.Tables.InForce.{arranged}
use Rattle.lc_model.specs.Tables.Lowering.{words_in}
use Rattle.rpn_compiler.proofs.EntryWords.{as_many, short_words}
use Rattle.rpn_compiler.proofs.Compiled.{fit_terms, fit_entries, tables}
use Rattle.lc_model.proofs.Tables.CompiledTables.{compiled_tables_are_halves}
use Rattle.rpn_compiler.proofs.files.files.Goals as goal

pub entries-requires-clause-as_many : goal.entries-requires-clause-as_many
entries-requires-clause-as_many c =
    let terms : List Term = c.args.lowered.terms.items in
    as_many terms c.as_slice.result.now c.args.lowered.words.items (c.requires.lowered.words ∙ ap (map (words_in arranged terms)) (sym c.as_slice.ensures))

pub entries-requires-clause-short : goal.entries-requires-clause-short
entries-requires-clause-short c =
    let rules : List NamedRule = c.args.rules.now.rules in
    let terms : List Term = c.args.lowered.terms.items in
    subst (AllByRecursion (λ (ws : List ℕ). length ws ≤ 32)) (sym c.requires.lowered.words)
    (short_words terms rules
    (fit_entries c.args.text.now rules terms c.requires.lowered.watchpoints (compiled_tables_are_halves c.args.text.now rules c.requires.compiles)))

pub wdt_file-requires-clause-fit : goal.wdt_file-requires-clause-fit
wdt_file-requires-clause-fit c =
    let rules : List NamedRule = c.args.rules.now.rules in
    fit_terms c.args.text.now rules c.args.lowered.terms.items c.requires.lowered.watchpoints
    (compiled_tables_are_halves c.args.text.now rules c.requires.compiles)

pub adt_file-requires-clause-fit : goal.adt_file-requires-clause-fit
adt_file-requires-clause-fit c =
    let rules : List NamedRule = c.args.rules.now.rules in
    let terms : List Term = c.args.lowered.terms.items in
    let known = c.requires.lowered.words ∙ ap (map (words_in arranged terms)) (sym c.as_slice.ensures) in
    let entries = c.in_ok-actionpoints.ensures terms known ∙ ap (map (entry_over arranged terms)) c.as_slice.ensures in
    subst (AllByRecursion (FitsEntry compiled_actionpoints)) (sym entries)
    (fit_entries c.args.text.now rules c.args.lowered.terms.items c.requires.lowered.watchpoints
    (compiled_tables_are_halves c.args.text.now rules c.requires.compiles))

pub returns-clause-tables : goal.returns-clause-tables
returns-clause-tables c =
    let rules : List NamedRule = c.args.rules.now.rules in
    let terms : List Term = c.args.lowered.terms.items in
    let known = c.requires.lowered.words ∙ ap (map (words_in arranged terms)) (sym c.as_slice.ensures) in
    let entries = c.in_ok-actionpoints.ensures terms known ∙ ap (map (entry_over arranged terms)) c.as_slice.ensures in
    let watchpoints : c.len-watchpoint_count.result ≡ length terms = c.len-watchpoint_count.ensures ∙ c.args.lowered.terms.ok.0 in
    tables c.args.text.now rules terms c.requires.lowered.watchpoints (compiled_tables_are_halves c.args.text.now rules c.requires.compiles) _
    (c.in_ok-wdt_file.ensures.file ∙ ap (λ (h : List ℕ). file_bytes (wrapped Wdt (wdt_image h terms))) c.digest-hash.ensures)
    (c.in_ok-adt_file.ensures.file
    ∙ (λ i. file_bytes (wrapped Adt (adt_image compiled_actionpoints (c.digest-hash.ensures i) (watchpoints i) (entries i)))))
    watchpoints
    (c.len-rule_count.ensures ∙ c.in_ok-actionpoints.actionpoints.ok.0 ∙ ap (λ (es : List TableEntry). length es) entries ∙ length-map rules (entry_over arranged terms))
