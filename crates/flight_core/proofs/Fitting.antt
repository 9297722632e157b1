-- A run refuses the texts that do not fit, and no others.
use Rattle.std.proofs.Common.{◌≡◌, refl, ◌∙◌, ap, subst, ℕ, suc, ◌+◌, ◌<◌, ◌≤◌, Bool, true, false, nat_lt, List, [], ◌∷◌, length, take, slice_get, filter_map, Option, Some, None, option_map, Result, Ok, Err, IfErr, arith}
use Rattle.std.specs.List.{enumerate_from, AllByRecursion}
use Rattle.lc_model.specs.Rule.{NamedRule}
use Rattle.lc_model.specs.Text.Reading.{Reads, TextRefusal, ForText, ForRule}
use Rattle.lc_model.specs.Tables.Equation.{terms_of, equation_length, need}
use Rattle.lc_model.specs.Tables.Compiling.{equation_fault, limit_refusal, Compiles, IsRefused}
use Rattle.lc_model.specs.Tables.HalvesAndBytes.{Text}
use Rattle.lc_model.specs.Tables.InForce.{limits, arranged}
use Rattle.lc_model.specs.Host.Outcome.{Devices, IsUntouched}
use Rattle.lc_model.specs.Host.Promise.{AreCompiled}
use Rattle.lc_model.proofs.Tables.Light.{light}
use Rattle.lc_model.proofs.Texts.OneRefusal.{at_most_one_verdict}
use Rattle.lc_model.proofs.Facts.{tested_not_less, test_not_less, tested_less, none_of_if}
use Rattle.rpn_compiler.specs.declared.error.CompileError.{CompileError}
use Rattle.rpn_compiler.specs.declared.files.TablePair.{TablePair}
use Rattle.rpn_compiler.specs.Fault.{refusal_of}
use Rattle.flight_core.specs.declared.error.Report.{Report}
use Rattle.flight_core.specs.declared.error.RunError.{RunError}
use Rattle.flight_core.specs.declared.error.RunError.TheVariants.{Compile, BadRecord, Truncated, Read, Write, ReadBound, Memory}
use Rattle.flight_core.specs.Compiled.{AreAllCompiled, IsFirstRefused, IsNotCompiled, NamesTheNumber}
use Rattle.flight_core.specs.Ending.{ending_of}
use Rattle.flight_core.specs.Fitting.{Fits, FitsWithFewWaiting, IsFirstUnfit, IsUnfit, RefusesUnfitAlone}
use Rattle.flight_core.specs.Flight.{RunHasBegun}
use Rattle.flight_core.specs.Run.{RefusesNone}

-- ---- tests

-- ---- rules by their words

abbrev AreShort : List NamedRule → Type 0
AreShort rules = AllByRecursion (λ (rule : NamedRule). equation_length rule.action.condition ≤ 32) rules

-- the first refusal of rules that are counted from n on
abbrev refused_from : ℕ → List NamedRule → Option TextRefusal
refused_from n rules =
    slice_get (filter_map (λ (m : ℕ × NamedRule). option_map (λ code. ForRule code m.0) (equation_fault limits m.1)) (enumerate_from n rules)) 0

all_short : (n : ℕ) (rules : List NamedRule) → refused_from n rules ≡ None → AreShort rules
all_short n [] none = tt
all_short n (rule ∷ rules) none = go (nat_lt 32 (equation_length rule.action.condition)) refl (all_short (n + 1) rules)
  where
    go : (b : Bool) → nat_lt 32 (equation_length rule.action.condition) ≡ b → (refused_from (n + 1) rules ≡ None → AreShort rules) → AreShort (rule ∷ rules)
    go true is others = absurd (cc (rw is at none))
    go false is others = (tested_not_less _ _ is, others (rw is at none))

none_refused : (n : ℕ) (rules : List NamedRule) → AreShort rules → refused_from n rules ≡ None
none_refused n [] short = refl
none_refused n (rule ∷ rules) short = rw (test_not_less 32 (equation_length rule.action.condition) short.0) (none_refused (n + 1) rules short.1)

-- a rule that has too many words
record IsLong (n : ℕ) (rules : List NamedRule) (why : TextRefusal) : Type 0 where
  number : ℕ
  rule : NamedRule
  there : slice_get rules number ≡ Some rule
  long : 32 < equation_length rule.action.condition
  is : ForRule 42 (n + number) ≡ why

is_long : (n : ℕ) (rules : List NamedRule) (why : TextRefusal) → refused_from n rules ≡ Some why → IsLong n rules why
is_long n [] why found = absurd (cc found)
is_long n (rule ∷ rules) why found = go (nat_lt 32 (equation_length rule.action.condition)) refl (is_long (n + 1) rules why)
  where
    go : (b : Bool) → nat_lt 32 (equation_length rule.action.condition) ≡ b → (refused_from (n + 1) rules ≡ Some why → IsLong (n + 1) rules why) → IsLong n (rule ∷ rules) why
    go true is others =
        let here : ForRule 42 n ≡ why = (let some : Some (ForRule 42 n) ≡ Some why = rw is at found in cc some) in
        let same : n + 0 ≡ n = omega arith in
        record { number = 0; rule = rule; there = refl; long = tested_less _ _ is; is = ap (ForRule 42) same ∙ here }
    go false is others =
        let later : IsLong (n + 1) rules why = others (rw is at found) in
        let same : n + suc later.number ≡ n + 1 + later.number = omega arith in
        record { number = suc later.number; rule = later.rule; there = later.there; long = later.long; is = ap (ForRule 42) same ∙ later.is }

-- ---- texts

few_waiting : (rules : List NamedRule) → AreShort rules → AllByRecursion (λ (rule : NamedRule). need (arranged rule.action.condition) ≤ 5) rules
few_waiting [] short = tt
few_waiting (rule ∷ rules) short = ((light rule.action.condition).thirty_two short.0, few_waiting rules short.1)

fits : (source : List ℕ) (rules : List NamedRule) → Compiles limits source rules → FitsWithFewWaiting source
fits source rules compiles =
    let one = none_of_if (nat_lt 176 (length (terms_of rules))) (ForText 31) _ compiles.1 in
    let two = none_of_if (nat_lt 176 (length rules)) (ForText 41) _ one.1 in
    let short : AreShort rules = all_short 0 rules two.1 in
    record {
      fits = record {
        rules = rules;
        reads = compiles.0;
        watchpoints = tested_not_less _ _ one.0;
        actionpoints = tested_not_less _ _ two.0;
        words = short;
      };
      few = few_waiting rules short;
    }

compiles : (source : List ℕ) (f : Fits source) → Compiles limits source f.rules
compiles source f = (
  f.reads,
  rw (test_not_less 176 (length (terms_of f.rules)) f.watchpoints) (rw (test_not_less 176 (length f.rules) f.actionpoints) (none_refused 0 f.rules f.words)),
)

all_fit : (sources : List (List ℕ)) (texts : List Text) → AreCompiled limits sources texts → AllByRecursion FitsWithFewWaiting sources
all_fit [] texts are = tt
all_fit (source ∷ sources) [] are = absurd are
all_fit (source ∷ sources) (text ∷ texts) are = (fits source text.rules are.0.1, all_fit sources texts are.1)

long_is_unfit : (source : List ℕ) (rules : List NamedRule) (why : TextRefusal) → Reads source rules → IsLong 0 rules why → IsUnfit source why
long_is_unfit source rules why reads found =
    let same : found.number ≡ 0 + found.number = omega arith in
    subst (IsUnfit source) (ap (ForRule 42) same ∙ found.is) (IsUnfit.words found.number found.rule reads found.there found.long)

unfit_rules : (source : List ℕ) (rules : List NamedRule) (why : TextRefusal) → Reads source rules → limit_refusal limits rules ≡ Some why → IsUnfit source why
unfit_rules source rules why reads beyond = go (nat_lt 176 (length (terms_of rules))) refl (nat_lt 176 (length rules)) refl
  where
    go : (a : Bool) → nat_lt 176 (length (terms_of rules)) ≡ a → (b : Bool) → nat_lt 176 (length rules) ≡ b → IsUnfit source why
    go true is b other =
        let same : ForText 31 ≡ why = (let some : Some (ForText 31) ≡ Some why = rw is at beyond in cc some) in
        subst (IsUnfit source) same (IsUnfit.watchpoints reads (tested_less _ _ is))
    go false is true other =
        let same : ForText 41 ≡ why = (let some : Some (ForText 41) ≡ Some why = rw other at (rw is at beyond) in cc some) in
        subst (IsUnfit source) same (IsUnfit.actionpoints reads (tested_less _ _ other))
    go false is false other =
        long_is_unfit source rules why reads (is_long 0 rules why (rw other at (rw is at beyond)))

unfit : (source : List ℕ) (why : TextRefusal) → IsRefused limits source why → IsUnfit source why
unfit source why (IsRefused.unreadable is) = IsUnfit.unreadable is
unfit source why (IsRefused.beyond_limits {rules = rules} reads beyond) = unfit_rules source rules why reads beyond

-- ---- runs

compiled_fit : (sources : List (List ℕ)) (pairs : List TablePair) → AreAllCompiled sources pairs → AllByRecursion FitsWithFewWaiting sources
compiled_fit [] pairs are = tt
compiled_fit (source ∷ sources) [] are = absurd are
compiled_fit (source ∷ sources) (pair ∷ pairs) are = (fits source are.0.rules are.0.compiles, compiled_fit sources pairs are.1)

-- a run that has begun refuses none
pub begun : (d : Devices) (result : Result Report RunError) → RunHasBegun result → RefusesNone d result
begun d (Ok report) is = tt
begun d (Err (Compile number error)) is = absurd is
begun d (Err Memory) is = absurd is
begun d (Err (BadRecord n)) is = tt
begun d (Err (Truncated n)) is = tt
begun d (Err Read) is = tt
begun d (Err (Write sent)) is = tt
begun d (Err ReadBound) is = tt

-- the number that an error names
pub named : (sources : List (List ℕ)) (error : RunError) → IsNotCompiled sources error → NamesTheNumber sources error
named sources (Compile number error) first = (first.source, first.there, first.named)
named sources Memory not = tt
named sources (BadRecord n) not = tt
named sources (Truncated n) not = tt
named sources Read not = tt
named sources (Write sent) not = tt
named sources ReadBound not = tt

module _ (sources : List (List ℕ)) (d : Devices) where
  first_unfit : (number : ℕ) (error : CompileError) → IsFirstRefused sources number error → IsFirstUnfit sources number (refusal_of error)
  first_unfit number error first = record {
    before = all_fit (take number sources) first.texts first.before;
    source = first.source;
    there = first.there;
    not = λ f. (at_most_one_verdict limits first.source).not_both f.rules first.why (compiles first.source f) first.refused;
    why = first.why;
    is = first.is;
    unfit = unfit first.source first.why first.refused;
    first = first.refused;
  }

  -- where a text does not compile, or memory is lacking before the run begins
  pub refused : IsUntouched d → (error : RunError) → IsNotCompiled sources error → RefusesUnfitAlone sources d (ending_of (Err error))
  refused untouched (Compile number error) first = (first_unfit number error first, untouched)
  refused untouched Memory not = untouched
  refused untouched (BadRecord n) not = absurd not
  refused untouched (Truncated n) not = absurd not
  refused untouched Read not = absurd not
  refused untouched (Write sent) not = absurd not
  refused untouched ReadBound not = absurd not

  -- where all compile
  pub taken : (pairs : List TablePair) → AreAllCompiled sources pairs → (result : Result Report RunError) → RefusesNone d result → RefusesUnfitAlone sources d (ending_of result)
  taken pairs are (Ok report) none = compiled_fit sources pairs are
  taken pairs are (Err (Compile number error)) none = absurd none
  taken pairs are (Err Memory) none = none
  taken pairs are (Err (BadRecord n)) none = compiled_fit sources pairs are
  taken pairs are (Err (Truncated n)) none = compiled_fit sources pairs are
  taken pairs are (Err Read) none = compiled_fit sources pairs are
  taken pairs are (Err (Write sent)) none = compiled_fit sources pairs are
  taken pairs are (Err ReadBound) none = compiled_fit sources pairs are

  -- where a run has begun it names none
  pub none_named : (result : Result Report RunError) → RefusesNone d result → IfErr result (NamesTheNumber sources)
  none_named (Ok report) none = tt
  none_named (Err (Compile number error)) none = absurd none
  none_named (Err Memory) none = tt
  none_named (Err (BadRecord n)) none = tt
  none_named (Err (Truncated n)) none = tt
  none_named (Err Read) none = tt
  none_named (Err (Write sent)) none = tt
  none_named (Err ReadBound) none = tt
