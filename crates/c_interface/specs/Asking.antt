-- What a program in C is told of a host. This project's own.
use Rattle.std.specs.Prelude.{◌≡◌, ℕ, length, slice_get, Option, Some, None, Result, Ok, Err}
use Rattle.lc_model.specs.Codes.{mode_code, result_code, state_code}
use Rattle.lc_model.specs.Kept.Summary.{LcOwn, Tally}
use Rattle.lc_model.specs.LimitChecker.Steps.{Point}
use Rattle.app_host.specs.Delivered.{executive_in}
use Rattle.flight_core.specs.Records.{most_counted}
use Rattle.flight_profile.specs.Checkers.{engine_among}
use Rattle.flight_profile.specs.Force.{text_in_force}
use Rattle.c_interface.specs.declared.asking.RuleReading.{RuleReading}
use Rattle.c_interface.specs.declared.asking.Figures.{Figures}
use Rattle.c_interface.specs.declared.handle.Fed.{Fed}
use Rattle.c_interface.specs.Feeding.{host_in}

-- the codes: no Limit Checker runs; the tables in force have no rule of the number
abbrev pub no_checker : ℕ
no_checker = 245

abbrev pub no_rule : ℕ
no_rule = 246

-- the engine of the Limit Checker that runs, if one does
abbrev pub engine_in : Fed → Option LcOwn
engine_in fed = engine_among (host_in fed).host.seats

-- ---- a rule

-- what is told of a rule with this state and these counts
abbrev pub rule_told : Point Tally → RuleReading
rule_told point = record { state = state_code point.state; result = result_code point.past.last; fails = point.past.run; quiet = point.past.quiet }

abbrev pub told_or_none : Option (Point Tally) → Result RuleReading ℕ
told_or_none None = Err no_rule
told_or_none (Some point) = Ok (rule_told point)

-- of the rule with this number, from 0; or the code of the refusal
abbrev pub rule_in : Option LcOwn → ℕ → Result RuleReading ℕ
rule_in None number = Err no_checker
rule_in (Some own) number = told_or_none (slice_get own.points number)

-- a rule is told, with code 0, or its refusal is returned and nothing is written
abbrev pub TellsRule : Result RuleReading ℕ → (old new : RuleReading) (code : ℕ) → Type 0
TellsRule (Ok rule) old new code = (new ≡ rule) × (code ≡ 0)
TellsRule (Err why) old new code = (new ≡ old) × (code ≡ why)

-- ---- the figures

-- the number of the mode of the Limit Checker that runs, and of its rules; 0 if none runs
abbrev pub mode_in : Option LcOwn → ℕ
mode_in None = 0
mode_in (Some own) = mode_code own.mode

abbrev pub rules_in : Option LcOwn → ℕ
rules_in None = 0
rules_in (Some own) = length own.rules

-- the number of a text; 2^64 - 1, which no text has, for none
abbrev pub text_number : Option ℕ → ℕ
text_number None = most_counted
text_number (Some number) = number

-- the figures of a host
abbrev pub figures_of : Fed → Figures
figures_of fed = record {
  records = (host_in fed).held.count;
  written = fed.written;
  text = text_number (text_in_force (host_in fed).files (executive_in (host_in fed).host));
  mode = mode_in (engine_in fed);
  rules = rules_in (engine_in fed);
}
