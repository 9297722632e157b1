-- Which texts `run` refuses. The limits are the cFS Limit Checker's table sizes and this project's 32 words an equation; no text
-- is refused because of the stack depth of its equations.
use Rattle.std.specs.Prelude.{◌≡◌, ℕ, ◌<◌, ◌≤◌, List, length, take, slice_get, Option, Some}
use Rattle.std.specs.List.{AllByRecursion}
use Rattle.lc_model.specs.Rule.{NamedRule}
use Rattle.lc_model.specs.Text.Reading.{Reads, TextRefusal, ForText, ForRule, IsUnreadable}
use Rattle.lc_model.specs.Tables.Equation.{terms_of, equation_length, need}
use Rattle.lc_model.specs.Tables.Compiling.{IsRefused}
use Rattle.lc_model.specs.Tables.InForce.{arranged, limits}
use Rattle.lc_model.specs.Host.Outcome.{Devices, IsUntouched, Ending, Uncompiled, NoMemory}

-- The text has a reading, with at most 176 distinct watchpoints, 176 rules and 32 words in each rule's equation, EQUAL
-- included. These are the limits of the edition in use.
pub record Fits (source : List ℕ) : Type 0 where
  pub rules : List NamedRule
  pub reads : Reads source rules
  pub watchpoints : length (terms_of rules) ≤ 176
  pub actionpoints : length rules ≤ 176
  pub words : AllByRecursion (λ (rule : NamedRule). equation_length rule.action.condition ≤ 32) rules

-- The text fits, and each of its compiled equations needs at most 5 operands on the stack.
pub record FitsWithFewWaiting (source : List ℕ) : Type 0 where
  pub fits : Fits source
  pub few : AllByRecursion (λ (rule : NamedRule). need (arranged rule.action.condition) ≤ 5) fits.rules

-- Why a text does not fit: it has no reading, over 176 watchpoints (31), over 176 rules (41), or a rule of over 32 words (42).
pub data IsUnfit (source : List ℕ) : TextRefusal → Type 0 where
  unreadable : {why : TextRefusal} → IsUnreadable source why → IsUnfit source why
  watchpoints : {rules : List NamedRule} → Reads source rules → 176 < length (terms_of rules) → IsUnfit source (ForText 31)
  actionpoints : {rules : List NamedRule} → Reads source rules → 176 < length rules → IsUnfit source (ForText 41)
  words : {rules : List NamedRule} (number : ℕ) (rule : NamedRule) → Reads source rules → slice_get rules number ≡ Some rule →
      32 < equation_length rule.action.condition → IsUnfit source (ForRule 42 number)

module _ (sources : List (List ℕ)) where
  -- Text `number` is the first that does not fit; `refusal` is its first refusal in the order of refusals.
  pub record IsFirstUnfit (number : ℕ) (refusal : Option TextRefusal) : Type 0 where
    pub before : AllByRecursion FitsWithFewWaiting (take number sources)
    pub source : List ℕ
    pub there : slice_get sources number ≡ Some source
    pub not : ¬ Fits source
    pub why : TextRefusal
    pub is : refusal ≡ Some why
    pub unfit : IsUnfit source why
    pub first : IsRefused limits source why

  -- A text is refused only if it is the first that does not fit, and then nothing was read or written, as after `NoMemory`. For
  -- any other ending all texts fit.
  abbrev pub RefusesUnfitAlone : Devices → Ending → Type 0
  RefusesUnfitAlone d (Uncompiled number refusal) = IsFirstUnfit number refusal × IsUntouched d
  RefusesUnfitAlone d NoMemory = IsUntouched d
  RefusesUnfitAlone d ending = AllByRecursion FitsWithFewWaiting sources
