-- Where `compile` stops, and what it has done.
use Rattle.std.proofs.Common.{◌≡◌, ◌∙◌, refl, ℕ, true, false, List, [], ◌∷◌, ◌++◌, Option, Some, None}
use Rattle.rpn_compiler.specs.declared.files.TablePair.{TablePair}
use Rattle.rpn_compiler.specs.declared.error.CompileError.{CompileError}
use Rattle.flight_run.specs.declared.done.Done.TheVariants.{Compiled}
use Rattle.flight_run.specs.declared.fault.Fault.{Fault}
use Rattle.program_io.specs.declared.error.FileError.{FileError}
use Rattle.program_io.specs.FileCall.{FileCall, Reads, Compares, Writes, all_apart, followed_by}
use Rattle.program_io.specs.Stops.{IsOfFile}
use Rattle.program_io.proofs.Calls.{none_yet, then_more}
use Rattle.flight_run.specs.Cause.{fault_of_file, fault_of_text}
use Rattle.flight_run.specs.Commands.{IsCompileDone, compile_order}
use Rattle.flight_core.specs.Compiled.{IsCompiled}
use Rattle.flight_run.specs.Stops.{IsTextRefused, StopsIn}
use Rattle.flight_run.proofs.Stopping.{read_stops, stops_later, text_stops, write_stops}

module _ (rules wdt adt : List ℕ) (before : Option (List FileCall)) where
  -- what comes after the text, and after the comparisons
  abbrev writes : List FileCall
  writes = Writes wdt [] false ∷ Writes adt [] false ∷ []

  abbrev comparisons : List FileCall
  comparisons = Compares wdt rules false ∷ Compares adt rules false ∷ Compares adt wdt false ∷ writes

  pub at_read : (now : Option (List FileCall)) (error : FileError) → now ≡ followed_by before (Reads rules None ∷ []) → IsOfFile rules error → StopsIn (compile_order rules wdt adt) before now (fault_of_file error)
  at_read now error e of = stops_later (compile_order rules wdt adt) (Reads rules None ∷ []) comparisons [] before before now (fault_of_file error) refl (none_yet before) (read_stops rules before now error e of)

  pub at_text : (text : List ℕ) (now : Option (List FileCall)) (error : CompileError) → now ≡ followed_by before (Reads rules (Some text) ∷ []) → IsTextRefused text error → StopsIn (compile_order rules wdt adt) before now (fault_of_text error)
  at_text text now error e refused =
      stops_later (compile_order rules wdt adt) (Reads rules None ∷ []) comparisons [] before before now (fault_of_text error) refl (none_yet before) (text_stops rules text before now error e refused)

  pub at_wdt : (text : List ℕ) (mid now : Option (List FileCall)) (fault : Fault) → mid ≡ followed_by before (Reads rules (Some text) ∷ []) → StopsIn (all_apart wdt (rules ∷ [])) mid now fault → StopsIn (compile_order rules wdt adt) before now fault
  at_wdt text mid now fault e stops = stops_later (compile_order rules wdt adt) (Compares wdt rules false ∷ []) (Compares adt rules false ∷ Compares adt wdt false ∷ writes) (Reads rules (Some text) ∷ []) before mid now fault refl e stops

  pub at_adt : (text : List ℕ) (mid next now : Option (List FileCall)) (fault : Fault) → mid ≡ followed_by before (Reads rules (Some text) ∷ []) → next ≡ followed_by mid (all_apart wdt (rules ∷ [])) →
      StopsIn (all_apart adt (rules ∷ wdt ∷ [])) next now fault → StopsIn (compile_order rules wdt adt) before now fault
  at_adt text mid next now fault e f stops =
      stops_later (compile_order rules wdt adt) (Compares adt rules false ∷ Compares adt wdt false ∷ []) writes (Reads rules (Some text) ∷ Compares wdt rules false ∷ []) before next now fault refl
      (then_more before mid next (Reads rules (Some text) ∷ []) (Compares wdt rules false ∷ []) e f) stops

  -- all comparisons are made
  pub all_compared : (text : List ℕ) (mid next last : Option (List FileCall)) → mid ≡ followed_by before (Reads rules (Some text) ∷ []) → next ≡ followed_by mid (all_apart wdt (rules ∷ [])) →
      last ≡ followed_by next (all_apart adt (rules ∷ wdt ∷ [])) → last ≡ followed_by before (Reads rules (Some text) ∷ Compares wdt rules false ∷ Compares adt rules false ∷ Compares adt wdt false ∷ [])
  all_compared text mid next last e f h =
      then_more before next last (Reads rules (Some text) ∷ Compares wdt rules false ∷ []) (Compares adt rules false ∷ Compares adt wdt false ∷ [])
      (then_more before mid next (Reads rules (Some text) ∷ []) (Compares wdt rules false ∷ []) e f) h

  abbrev compared : List ℕ → List FileCall
  compared text = Reads rules (Some text) ∷ Compares wdt rules false ∷ Compares adt rules false ∷ Compares adt wdt false ∷ []

  pub at_first_write : (text bytes : List ℕ) (mid now : Option (List FileCall)) (error : FileError) → mid ≡ followed_by before (compared text) → now ≡ followed_by mid (Writes wdt bytes false ∷ []) → IsOfFile wdt error →
      StopsIn (compile_order rules wdt adt) before now (fault_of_file error)
  at_first_write text bytes mid now error e f of =
      stops_later (compile_order rules wdt adt) (Writes wdt [] false ∷ []) (Writes adt [] false ∷ []) (compared text) before mid now (fault_of_file error) refl e (write_stops wdt bytes mid now error f of)

  pub at_second_write : (text bytes others : List ℕ) (mid next now : Option (List FileCall)) (error : FileError) → mid ≡ followed_by before (compared text) → next ≡ followed_by mid (Writes wdt bytes true ∷ []) →
      now ≡ followed_by next (Writes adt others false ∷ []) → IsOfFile adt error → StopsIn (compile_order rules wdt adt) before now (fault_of_file error)
  at_second_write text bytes others mid next now error e f h of =
      stops_later (compile_order rules wdt adt) (Writes adt [] false ∷ []) [] (compared text ++ Writes wdt bytes true ∷ []) before next now (fault_of_file error) refl
      (then_more before mid next (compared text) (Writes wdt bytes true ∷ []) e f) (write_stops adt others next now error h of)

  pub all_done : (text : List ℕ) (pair : TablePair) (one other : List ℕ) (mid next now : Option (List FileCall)) → IsCompiled text pair → one ≡ pair.wdt.items → other ≡ pair.adt.items →
      mid ≡ followed_by before (compared text) → next ≡ followed_by mid (Writes wdt one true ∷ []) → now ≡ followed_by next (Writes adt other true ∷ []) →
      IsCompileDone rules wdt adt before now (Compiled pair.watchpoints pair.rules)
  all_done text pair one other mid next now of same_one same_other e f h = record {
    text = text;
    pair = pair;
    of_text = of;
    counts = refl;
    calls = then_more before next now (compared text ++ Writes wdt one true ∷ []) (Writes adt other true ∷ []) (then_more before mid next (compared text) (Writes wdt one true ∷ []) e f) h
        ∙ (λ j. followed_by before (compared text ++ (Writes wdt (same_one j) true ∷ Writes adt (same_other j) true ∷ [])));
  }
