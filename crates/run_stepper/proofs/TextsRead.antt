-- The texts of a run, read one after the other.
use Rattle.std.proofs.Common.{◌≡◌, refl, sym, subst, inl, inr, ℕ, zero, suc, ◌+◌, List, [], ◌∷◌, ◌++◌, take, slice_get, Some, arith}
use Rattle.std.specs.Prelude.{None}
use Rattle.std.specs.List.{AllByRecursion}
use Rattle.lc_model.specs.Text.Reading.{Reads}
use Rattle.lc_model.specs.Tables.Compiling.{IsRefused, limit_refusal}
use Rattle.lc_model.specs.Tables.HalvesAndBytes.{Text}
use Rattle.lc_model.specs.Tables.InForce.{limits}
use Rattle.lc_model.specs.Host.Promise.{AreCompiled}
use Rattle.lc_model.proofs.Tables.SaidLaws.{all_append}
use Rattle.rpn_compiler.specs.declared.error.CompileError.{CompileError}
use Rattle.rpn_compiler.specs.declared.error.CompileError.TheVariants as compiler
use Rattle.rpn_compiler.specs.declared.rule_text.RuleText.{RuleText}
use Rattle.rpn_compiler.specs.Fault.{Refuses, refusal_of}
use Rattle.rpn_compiler.specs.Naming.{NamesTheNumberIn}
use Rattle.rpn_compiler.specs.TextParts.{AreTextsOf, IsTextOf, items_in}
use Rattle.flight_core.specs.Compiled.{refusal_for}
use Rattle.run_stepper.specs.declared.error.CourseError.{CourseError}
use Rattle.run_stepper.specs.Stepping as stepping
use Rattle.run_stepper.specs.Stepping.{IsRefusal}

-- its rules keep to the limits of the tables
abbrev pub IsWithin : RuleText → Type 0
IsWithin text = limit_refusal limits text.rules.rules ≡ None

-- ---- one text more

more : (sources : List (List ℕ)) (texts : List RuleText) (n : ℕ) (source : List ℕ) (text : RuleText) → slice_get sources n ≡ Some source →
    AreTextsOf (take n sources) texts → IsTextOf source text → AreTextsOf (take (suc n) sources) (texts ++ text ∷ [])
more [] texts n source text there so_far is = absurd (cc there)
more (first ∷ sources) [] zero source text there so_far is = (let same : source ≡ first = cc there in subst (λ s. IsTextOf s text) same is, tt)
more (first ∷ sources) (t ∷ texts) zero source text there so_far is = absurd so_far
more (first ∷ sources) [] (suc n) source text there so_far is = absurd so_far
more (first ∷ sources) (t ∷ texts) (suc n) source text there so_far is = (so_far.0, more sources texts n source text there so_far.1 is)

pub one_more : (sources : List (List ℕ)) (texts after : List RuleText) (n : ℕ) (source : List ℕ) (text : RuleText) → slice_get sources n ≡ Some source →
    after ≡ texts ++ text ∷ [] → AreTextsOf (take n sources) texts → IsTextOf source text → AreTextsOf (take (n + 1) sources) after
one_more sources texts after n source text there are so_far is =
    let next : suc n ≡ n + 1 = omega arith in
    subst (AreTextsOf (take (n + 1) sources)) (sym are)
    (subst (λ k. AreTextsOf (take k sources) (texts ++ text ∷ [])) next (more sources texts n source text there so_far is))

pub all_within : (texts after : List RuleText) (text : RuleText) → after ≡ texts ++ text ∷ [] → AllByRecursion IsWithin texts → IsWithin text →
    AllByRecursion IsWithin after
all_within texts after text are so_far is = subst (AllByRecursion IsWithin) (sym are) (all_append IsWithin texts (text ∷ []) so_far (is, tt))

-- ---- a text that doesn't compile

-- texts with the rules that they say
pub record AreTexts (sources : List (List ℕ)) : Type 0 where
  pub texts : List Text
  pub compile : AreCompiled limits sources texts

reads : (source : List ℕ) (text : RuleText) → IsTextOf source text → Reads source text.rules.rules
reads source text is =
    let read = is.reads.read in
    subst (λ bytes. Reads bytes text.rules.rules) is.bytes (read.tokens, items_in text, read.splits, read.parses, read.means)

pub compiled : (sources : List (List ℕ)) (texts : List RuleText) → AreTextsOf sources texts → AllByRecursion IsWithin texts → AreTexts sources
compiled [] [] are within = record { texts = []; compile = tt }
compiled [] (text ∷ texts) are within = absurd are
compiled (source ∷ sources) [] are within = absurd are
compiled (source ∷ sources) (text ∷ texts) are within =
    let others : AreTexts sources = compiled sources texts are.1 within.1 in
    record {
      texts = (record { source = source; rules = text.rules.rules }) ∷ others.texts;
      compile = ((refl, (reads source text are.0, within.0)), others.compile);
    }

first_refused : (sources : List (List ℕ)) (n : ℕ) (source : List ℕ) (error : CompileError) → slice_get sources n ≡ Some source →
    AreTexts (take n sources) → Refuses (IsRefused limits source) error → NamesTheNumberIn source error → IsRefusal sources (stepping.refusal_of (refusal_for n error))
first_refused sources n source error there known (inl memory) named =
    subst (λ (e : CompileError). IsRefusal sources (stepping.refusal_of (refusal_for n e))) (sym memory) tt
first_refused sources n source error there known (inr (refusal, is, why)) named = by_error error is named
  where
    by_error : (e : CompileError) → refusal_of e ≡ Some refusal → NamesTheNumberIn source e → IsRefusal sources (stepping.refusal_of (refusal_for n e))
    by_error compiler.Memory is named = tt
    by_error (compiler.Lex e) is named = record { texts = known.texts; before = known.compile; source = source; there = there; why = refusal; is = is; refused = why; named = named }
    by_error (compiler.Parse e) is named = record { texts = known.texts; before = known.compile; source = source; there = there; why = refusal; is = is; refused = why; named = named }
    by_error (compiler.Check e) is named = record { texts = known.texts; before = known.compile; source = source; there = there; why = refusal; is = is; refused = why; named = named }
    by_error compiler.TooManyWatchpoints is named = record { texts = known.texts; before = known.compile; source = source; there = there; why = refusal; is = is; refused = why; named = named }
    by_error compiler.TooManyRules is named = record { texts = known.texts; before = known.compile; source = source; there = there; why = refusal; is = is; refused = why; named = named }
    by_error (compiler.EquationTooLong rule) is named = record { texts = known.texts; before = known.compile; source = source; there = there; why = refusal; is = is; refused = why; named = named }

pub refused : (sources : List (List ℕ)) (texts : List RuleText) (n : ℕ) (source : List ℕ) (error : CompileError) → slice_get sources n ≡ Some source →
    AreTextsOf (take n sources) texts → AllByRecursion IsWithin texts → Refuses (IsRefused limits source) error → NamesTheNumberIn source error →
    (answer : CourseError) → answer ≡ stepping.refusal_of (refusal_for n error) → IsRefusal sources answer
refused sources texts n source error there are within why named answer is =
    subst (IsRefusal sources) (sym is) (first_refused sources n source error there (compiled (take n sources) texts are within) why named)
