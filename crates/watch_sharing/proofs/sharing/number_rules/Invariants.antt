use Rattle.std.proofs.Common.{◌≡◌, ◌≤◌, length, take}
use Rattle.lc_model.specs.Codes.{table_entries}
use Rattle.lc_model.specs.Rule.{rules_of}
use Rattle.watch_sharing.specs.Numbering.{added_all, all_mentions, numbers_by_rule, numbers_of}
use Rattle.watch_sharing.proofs.sharing.number_rules.Given as goal

abbrev pub invariant-loop-rule : goal.invariant-loop-rule
invariant-loop-rule l = record {
  numbers : numbers_of l.mentions.items ≡ numbers_by_rule l.initial.terms.keys (rules_of (take l.rule-index l.rules));
  added : l.terms.keys ≡ added_all l.initial.terms.keys (all_mentions (rules_of (take l.rule-index l.rules)));
  few : length l.terms.keys ≤ table_entries;
}
