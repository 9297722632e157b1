-- The numbers of rules and stale ages, with their ranges. This project's own; the ranges are those of the cFS Limit Checker's
-- tables.
use Rattle.std.specs.Prelude.{◌≡◌, ℕ, codes, ⊤, Bool, true, false, ◌&&◌, ◌||◌, ◌==◌, List, Option, Some, None, option_map, pos, int_lt}
use Rattle.std.specs.List.{Contains}
use Rattle.std.specs.Option.{option_map_or}
use Rattle.lc_model.specs.Text.Syntax.{Item, Number, Field, Rule}
use Rattle.field_checker.specs.declared.number.RuleNumber.{RuleNumber}
use Rattle.field_checker.specs.declared.number.RuleNumber.TheVariants.{Fails, Sequence, EventId, ReportPassive, ReportPassToFail, ReportFailToPass, Stale}
use Rattle.field_checker.specs.declared.error.CheckError.{CheckError}
use Rattle.field_checker.specs.declared.error.CheckError.TheVariants.{NumberRange}

-- The least and the greatest valid value of each number.
abbrev pub least_of : RuleNumber → ℕ
least_of Fails = 1
least_of Sequence = 1
least_of EventId = 1_000
least_of ReportPassive = 0
least_of ReportPassToFail = 0
least_of ReportFailToPass = 0
least_of Stale = 0

abbrev pub most_of : RuleNumber → ℕ
most_of Fails = 65_535
most_of Sequence = 65_535
most_of EventId = 65_535
most_of ReportPassive = 255
most_of ReportPassToFail = 65_535
most_of ReportFailToPass = 65_535
most_of Stale = 4_294_967_295

-- The message for a number that is out of its range.
abbrev pub number_text : RuleNumber → List ℕ
number_text Fails = codes "`fails` takes 1 to 65,535"
number_text Sequence = codes "`sequence` takes 1 to 65,535"
number_text EventId = codes "an event has a number from 1,000 to 65,535"
number_text ReportPassive = codes "the first number of `report` is 0 to 255"
number_text ReportPassToFail = codes "the second number of `report` is 0 to 65,535"
number_text ReportFailToPass = codes "the third number of `report` is 0 to 65,535"
number_text Stale = codes "`stale` takes 0 to 4,294,967,295"

-- The item's number of this kind, if it has one.
abbrev pub number_in : RuleNumber → Item → Option Number
number_in Fails (Rule r) = Some r.fails
number_in Sequence (Rule r) = Some r.sequence
number_in EventId (Rule r) = Some r.event_id
number_in ReportPassive (Rule r) = option_map (λ report. report.passive) r.report
number_in ReportPassToFail (Rule r) = option_map (λ report. report.pass_to_fail) r.report
number_in ReportFailToPass (Rule r) = option_map (λ report. report.fail_to_pass) r.report
number_in Stale (Field f) = f.stale
number_in number item = None

-- Whether the number is out of its range.
abbrev pub is_out_of_range : RuleNumber → Number → Bool
is_out_of_range number n = int_lt n.value (pos (least_of number)) || int_lt (pos (most_of number)) n.value

-- One of the items has a number of this kind at place `at`, out of its range.
pub record StandsOutside (items : List Item) (number : RuleNumber) (at : ℕ) : Type 0 where
  pub item : Item
  pub among : Contains items item
  pub written : Number
  pub has : number_in number item ≡ Some written
  pub place : written.at ≡ at
  pub outside : is_out_of_range number written ≡ true

-- Whether the item has such a number at place `at`.
abbrev pub stands_at : RuleNumber → ℕ → Item → Bool
stands_at number at item = option_map_or (λ (n : Number). n.at == at && is_out_of_range number n) (number_in number item) false

-- If the error is 28, one of the items has a number out of range at its place.
abbrev pub NamesItsNumber : List Item → CheckError → Type 0
NamesItsNumber items (NumberRange at) = (number : RuleNumber) × StandsOutside items number at
NamesItsNumber items error = ⊤
