-- The texts of a run, compiled one after the other.
use Rattle.std.proofs.Common.{◌≡◌, refl, sym, ap, subst, inl, inr, ℕ, zero, suc, ◌+◌, List, [], ◌∷◌, ◌++◌, length, take, slice_get, Some, arith}
use Rattle.lc_model.specs.declared.kind.Kind.{Kind}
use Rattle.lc_model.specs.declared.kind.Kind.TheVariants.{Wdt, Adt}
use Rattle.lc_model.specs.Tables.Compiling.{IsRefused}
use Rattle.lc_model.specs.Tables.Edition.{AreCompiledFiles, IsCompiledFile}
use Rattle.lc_model.specs.Tables.HalvesAndBytes.{Text}
use Rattle.lc_model.specs.Tables.InForce.{limits, edition}
use Rattle.lc_model.specs.Host.Promise.{AreCompiled}
use Rattle.rpn_compiler.specs.declared.error.CompileError.{CompileError}
use Rattle.rpn_compiler.specs.declared.error.CompileError.TheVariants as compiler
use Rattle.rpn_compiler.specs.declared.files.TablePair.{TablePair}
use Rattle.rpn_compiler.specs.Naming.{NamesTheNumberIn}
use Rattle.rpn_compiler.specs.Fault.{Refuses, refusal_of}
use Rattle.flight_core.specs.declared.error.RunError.{RunError}
use Rattle.flight_core.specs.Compiled.{file_in, IsCompiled, AreAllCompiled, refusal_for, IsNotCompiled}

-- ---- one text more

more : (sources : List (List ℕ)) (pairs : List TablePair) (n : ℕ) (source : List ℕ) (pair : TablePair) → slice_get sources n ≡ Some source →
    AreAllCompiled (take n sources) pairs → IsCompiled source pair → AreAllCompiled (take (suc n) sources) (pairs ++ pair ∷ [])
more [] pairs n source pair there so_far is = absurd (cc there)
more (first ∷ sources) [] zero source pair there so_far is = (let same : source ≡ first = cc there in subst (λ s. IsCompiled s pair) same is, tt)
more (first ∷ sources) (p ∷ pairs) zero source pair there so_far is = absurd so_far
more (first ∷ sources) [] (suc n) source pair there so_far is = absurd so_far
more (first ∷ sources) (p ∷ pairs) (suc n) source pair there so_far is = (so_far.0, more sources pairs n source pair there so_far.1 is)

pub one_more : (sources : List (List ℕ)) (pairs : List TablePair) (n : ℕ) (source : List ℕ) (pair : TablePair) → slice_get sources n ≡ Some source →
    AreAllCompiled (take n sources) pairs → IsCompiled source pair → AreAllCompiled (take (n + 1) sources) (pairs ++ pair ∷ [])
one_more sources pairs n source pair there so_far is =
    let next : suc n ≡ n + 1 = omega arith in
    subst (λ k. AreAllCompiled (take k sources) (pairs ++ pair ∷ [])) next (more sources pairs n source pair there so_far is)

-- ---- the texts with their rules

-- texts with the rules that they say, whose tables are in these files
pub record AreTexts (sources : List (List ℕ)) (pairs : List TablePair) : Type 0 where
  pub texts : List Text
  pub compile : AreCompiled limits sources texts
  pub files : AreCompiledFiles edition texts (file_in pairs)
  pub many : length texts ≡ length sources
  pub pairs_many : length pairs ≡ length sources

compiled_file : (kind : Kind) (source : List ℕ) (pair : TablePair) (is : IsCompiled source pair) (pairs : List TablePair) →
    IsCompiledFile edition kind (file_in (pair ∷ pairs) kind 0) (record { source = source; rules = is.rules })
compiled_file Wdt source pair is pairs = is.tables.wdt
compiled_file Adt source pair is pairs = (is.tables.adt, is.tables.words)

pub texts_of : (sources : List (List ℕ)) (pairs : List TablePair) → AreAllCompiled sources pairs → AreTexts sources pairs
texts_of [] [] all = record { texts = []; compile = tt; files = λ kind number text there. absurd (cc there); many = refl; pairs_many = refl }
texts_of [] (pair ∷ pairs) all = absurd all
texts_of (source ∷ sources) [] all = absurd all
texts_of (source ∷ sources) (pair ∷ pairs) all =
    let others : AreTexts sources pairs = texts_of sources pairs all.1 in
    record {
      texts = first ∷ others.texts;
      compile = ((refl, all.0.compiles), others.compile);
      files = files others;
      many = ap suc others.many;
      pairs_many = ap suc others.pairs_many;
    }
  where
    first : Text
    first = record { source = source; rules = all.0.rules }

    files : (others : AreTexts sources pairs) → AreCompiledFiles edition (first ∷ others.texts) (file_in (pair ∷ pairs))
    files others kind zero text there =
        let same : first ≡ text = cc there in subst (IsCompiledFile edition kind (file_in (pair ∷ pairs) kind 0)) same (compiled_file kind source pair all.0 pairs)
    files others kind (suc n) text there = others.files kind n text there

-- ---- a text that does not compile

first_refused : (sources : List (List ℕ)) (pairs : List TablePair) (n : ℕ) (source : List ℕ) (error : CompileError) → slice_get sources n ≡ Some source →
    AreAllCompiled (take n sources) pairs → Refuses (IsRefused limits source) error → NamesTheNumberIn source error → IsNotCompiled sources (refusal_for n error)
first_refused sources pairs n source error there so_far (inl memory) named = subst (λ (e : CompileError). IsNotCompiled sources (refusal_for n e)) (sym memory) tt
first_refused sources pairs n source error there so_far (inr (refusal, is, why)) named = by_error error is named
  where
    known : AreTexts (take n sources) pairs
    known = texts_of (take n sources) pairs so_far

    by_error : (e : CompileError) → refusal_of e ≡ Some refusal → NamesTheNumberIn source e → IsNotCompiled sources (refusal_for n e)
    by_error compiler.Memory is named = tt
    by_error (compiler.Lex e) is named = record { texts = known.texts; before = known.compile; source = source; there = there; why = refusal; is = is; refused = why; named = named }
    by_error (compiler.Parse e) is named = record { texts = known.texts; before = known.compile; source = source; there = there; why = refusal; is = is; refused = why; named = named }
    by_error (compiler.Check e) is named = record { texts = known.texts; before = known.compile; source = source; there = there; why = refusal; is = is; refused = why; named = named }
    by_error compiler.TooManyWatchpoints is named = record { texts = known.texts; before = known.compile; source = source; there = there; why = refusal; is = is; refused = why; named = named }
    by_error compiler.TooManyRules is named = record { texts = known.texts; before = known.compile; source = source; there = there; why = refusal; is = is; refused = why; named = named }
    by_error (compiler.EquationTooLong rule) is named = record { texts = known.texts; before = known.compile; source = source; there = there; why = refusal; is = is; refused = why; named = named }

pub refused : (sources : List (List ℕ)) (pairs : List TablePair) (n : ℕ) (source : List ℕ) (error : CompileError) → slice_get sources n ≡ Some source →
    AreAllCompiled (take n sources) pairs → Refuses (IsRefused limits source) error → NamesTheNumberIn source error → (answer : RunError) → answer ≡ refusal_for n error → IsNotCompiled sources answer
refused sources pairs n source error there so_far why named answer is =
    subst (IsNotCompiled sources) (sym is) (first_refused sources pairs n source error there so_far why named)
