-- The numbers of requests and events that rule texts can lead to. This project's own.
use Rattle.std.specs.Prelude.{ℕ, ◌==◌, Bool, true, false, ◌&&◌, ◌||◌, List, nat_le, Option, Some, None}
use Rattle.std.specs.List.{list_any}
use Rattle.lc_model.specs.Rule.{NamedRule}
use Rattle.rpn_compiler.specs.declared.rule_text.RuleText.{RuleText}
use Rattle.scenario_trial.specs.declared.expectation.ArrivalKind.{ArrivalKind}
use Rattle.scenario_trial.specs.declared.expectation.ArrivalKind.TheVariants.{Sequence, Event, HostEvent}
use Rattle.scenario_trial.specs.declared.expectation.What.{What}

-- events of the Limit Checker that are no rule's, which have the numbers 1 to 11, and all events of the host
abbrev pub is_own : ArrivalKind → ℕ → Bool
is_own Sequence number = false
is_own Event number = nat_le 1 number && nat_le number 11
is_own HostEvent number = true

-- a rule requests the sequence of this number, or has the event of this number
abbrev pub sends : ArrivalKind → ℕ → NamedRule → Bool
sends Sequence number rule = rule.action.sequence == number
sends Event number rule = rule.action.event_id == number
sends HostEvent number rule = false

abbrev pub text_sends : ArrivalKind → ℕ → RuleText → Bool
text_sends kind number text = list_any (sends kind number) text.rules.rules

-- something of this number comes whatever the rules are, or a rule of one of these texts sends it; without a number, something can come
abbrev pub is_known_by : List RuleText → ArrivalKind → Option ℕ → Bool
is_known_by texts kind None = true
is_known_by texts kind (Some number) = is_own kind number || list_any (text_sends kind number) texts

abbrev pub is_known : List RuleText → What → Bool
is_known texts what = is_known_by texts what.kind what.number
