-- What is written of a text that compiles are its tables.
use Rattle.std.proofs.Common.{◌≡◌, sym, ◌∙◌, ap, subst, ℕ, List, length, map}
use Rattle.std.specs.List.{AllByRecursion}
use Rattle.sha2.specs.Sha256.{sha256}
use Rattle.lc_model.specs.declared.kind.Kind.TheVariants.{Wdt, Adt}
use Rattle.lc_model.specs.declared.field.Term.{Term}
use Rattle.lc_model.specs.Rule.{NamedRule}
use Rattle.lc_model.specs.Tables.Equation.{terms_of}
use Rattle.lc_model.specs.Tables.Image.{FitsWatchpoint, FitsEntry, wdt_image, adt_image}
use Rattle.lc_model.specs.Tables.InForce.{compiled_actionpoints}
use Rattle.lc_model.specs.Tables.Half.{entry_over}
use Rattle.lc_model.specs.Tables.InForce.{arranged}
use Rattle.lc_model.specs.Tables.File.{file_bytes, wrapped}
use Rattle.lc_model.specs.Laws.Tables.{AreTablesOf, compiled_entries, CompilesToTables}
use Rattle.rpn_compiler.specs.declared.files.TablePair.{TablePair}
use Rattle.rpn_compiler.specs.Pair.{AreTables}

module _ (text : List ℕ) (rules : List NamedRule) (terms : List Term) (same : terms ≡ terms_of rules) (compiled : CompilesToTables text rules) where
  pub fit_terms : AllByRecursion FitsWatchpoint terms
  fit_terms = subst (AllByRecursion FitsWatchpoint) (sym same) compiled.watchpoints_fit

  pub fit_entries : AllByRecursion (FitsEntry compiled_actionpoints) (map (entry_over arranged terms) rules)
  fit_entries = subst (λ (ts : List Term). AllByRecursion (FitsEntry compiled_actionpoints) (map (entry_over arranged ts) rules)) (sym same) compiled.entries_fit

  -- the files of the two images, with the counts of watchpoints and rules, are the text's
  pub tables : (pair : TablePair) → pair.wdt.items ≡ file_bytes (wrapped Wdt (wdt_image (sha256 text) terms)) →
      pair.adt.items ≡ file_bytes (wrapped Adt (adt_image compiled_actionpoints (sha256 text) (length terms) (map (entry_over arranged terms) rules))) →
      pair.watchpoints ≡ length terms → pair.rules ≡ length rules → AreTables text rules pair
  tables pair wdt adt watchpoints counted =
      let first : List ℕ = wdt_image (sha256 text) (terms_of rules) in
      let second : List ℕ = adt_image compiled_actionpoints (sha256 text) (length (terms_of rules)) (compiled_entries rules) in
      let are : AreTablesOf text rules first second = compiled.tables in
      let as_many : pair.watchpoints ≡ length (terms_of rules) = watchpoints ∙ ap (λ (ts : List Term). length ts) same in
      record {
        wdt = (first, wdt ∙ ap (λ (ts : List Term). file_bytes (wrapped Wdt (wdt_image (sha256 text) ts))) same, are.wdt_length, are.watchpoints);
        adt = (
          second,
          adt ∙ ap (λ (ts : List Term). file_bytes (wrapped Adt (adt_image compiled_actionpoints (sha256 text) (length ts) (map (entry_over arranged ts) rules)))) same,
          are.adt_length,
          are.actionpoints,
        );
        words = are.words;
        light = compiled.light;
        own_watchpoints = as_many ∙ sym are.wdt_preamble.own_is;
        own_rules = counted ∙ sym are.adt_preamble.own_is;
        watchpoints_of_text = as_many;
        rules_of_text = counted;
      }
