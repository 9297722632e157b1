-- The warnings about a valid rule text. This project's own.
use Rattle.std.specs.Prelude.{◌≡◌, ℕ, Bool, not, List, [], ◌++◌, filter, is_some, length, map, Option, Some, None, option_map}
use Rattle.std.specs.List.{AllByRecursion}
use denote.Ref.{Bor}
use Rattle.lc_model.specs.Rule.{NamedRule}
use Rattle.lc_model.specs.Host.Schedule.{Schedule}
use Rattle.lc_model.specs.Tables.Image.{numbers_below}
use Rattle.lc_model.specs.Text.Syntax.{Item}
use Rattle.rpn_compiler.specs.Read.{IsRead}
use Rattle.analysis_listing.specs.Requests.{requests_of}
use Rattle.rule_analysis.specs.Findings.{AreInOrder, AreJudged, AreSettled, IsPair}
use Rattle.rule_analysis.specs.Reach.{is_sampled}
use Rattle.rule_analysis.specs.Spare.{AreOnce, AreToldOrNeeded, IsSpare}
use Rattle.diagnostics.specs.Message.{first_place}
use Rattle.diagnostics.specs.declared.message.Message.{Message}
use Rattle.rule_lints.specs.declared.judging.Judged.{Judged}
use Rattle.rule_lints.specs.declared.warning.Warning.{Warning}
use Rattle.rule_lints.specs.declared.warning.Warnings.{Warnings}
use Rattle.rule_lints.specs.Names.{name_of}
use Rattle.rule_lints.specs.Items.{declared}
use Rattle.rule_lints.specs.Judged.{grouped, judged}
use Rattle.rule_lints.specs.Quiet.{kept, known, spare_quiets}

-- the numbers of the rules that the schedule never samples; none without a schedule
abbrev pub unsampled : Option (Bor Schedule) → ℕ → List ℕ
unsampled None rules = []
unsampled (Some plan) rules = filter (λ rule. not (is_sampled (requests_of plan.now) rule)) (numbers_below rules)

-- this is judged of the rules
pub record IsJudged (rules : List NamedRule) (plan : Option (Bor Schedule)) (all : Judged) : Type 0 where
  pub judged : AreJudged rules all.rules.items
  pub sound : AllByRecursion (IsPair rules) all.pairs.items
  pub settled : AreSettled all.unsettled_pairs rules all.pairs.items
  pub needless : AllByRecursion (IsSpare rules) all.spare.items
  pub told : AreToldOrNeeded all.unsettled_comparisons rules all.spare.items
  pub pairs_once : AreInOrder all.pairs.items
  pub spare_once : AreOnce all.spare.items
  pub groups : all.groups.items ≡ grouped all.rules.items all.pairs.items
  pub never : all.unsampled.items ≡ unsampled plan (length rules)

-- all warnings, those that are kept quiet among them
abbrev pub found : List ℕ → List Item → Judged → List Warning
found text items all =
    declared items (length text)
    ++ judged items all.rules.items all.pairs.items all.groups.items all.spare.items all.unsampled.items

-- the warnings that are reported: those not kept quiet, and those of comments that are known to keep nothing quiet
abbrev pub told : Bool → List ℕ → List Item → Judged → List Warning
told has_plan text items all = kept text (found text items all) ++ known has_plan text (spare_quiets text (found text items all))

-- the name and the place of a warning, and of a message
abbrev pub named : Warning → Option (List ℕ) × Option ℕ
named w = (Some (name_of w.lint), Some w.at)

abbrev pub seen : Message → Option (List ℕ) × Option ℕ
seen message = (option_map (λ (text : Bor (List ℕ)). text.now) message.warning, first_place message)

-- the messages are those of the reported warnings, in their order, and the counts are those of the judgements
pub record AreWarned (text : List ℕ) (plan : Option (Bor Schedule)) (warnings : Warnings) : Type 0 where
  pub items : List Item
  pub rules : List NamedRule
  pub read : IsRead text items rules
  pub all : Judged
  pub are_judged : IsJudged rules plan all
  pub are_told : map seen warnings.messages.items ≡ map named (told (is_some plan) text items all)
  pub pairs : warnings.unsettled_pairs ≡ all.unsettled_pairs
  pub comparisons : warnings.unsettled_comparisons ≡ all.unsettled_comparisons
