use Rattle.std.proofs.Common.{◌≡◌, Bool, List, ap, map, refl, ◌∙◌, rules}
use Rattle.std.specs.Prelude.{is_some}
use Rattle.rule_parser.specs.declared.syntax.Item.{Item}
use Rattle.rule_parser.specs.Syntax.{items_of}
use Rattle.lc_model.specs.Text.Meaning.{faults}
use Rattle.rule_lints.specs.declared.warning.Warning.{Warning}
use Rattle.rule_lints.specs.Warned.{named, told}
use Rattle.rule_lints.proofs.warned.warnings.Goals as goal

pub reported_warnings-requires : goal.reported_warnings-requires
reported_warnings-requires c = ap (λ (items : List Item). faults (items_of items)) c.as_slice-items.ensures.value ∙ c.requires.reads.read.means.accepted

pub returns : goal.returns
returns c =
    let has_plan : c.is_some.result ≡ is_some c.args.plan = (search rules) in
    record {
      items = items_of c.args.text.now.file.items.items;
      rules = c.args.text.now.rules.rules;
      read = c.requires.reads.read;
      all = c.in_ok-all.all;
      are_judged = c.in_ok-all.ensures;
      are_told = c.in_ok-messages.ensures
          ∙ ap (λ (list : List Warning). map named list) (c.as_slice.ensures.value ∙ c.in_ok-told.ensures
          ∙ ap (λ (has : Bool). told has c.args.text.now.bytes.now (items_of c.as_slice-items.result.now) c.in_ok-all.all) has_plan
          ∙ ap (λ (items : List Item). told (is_some c.args.plan) c.args.text.now.bytes.now (items_of items) c.in_ok-all.all) c.as_slice-items.ensures.value);
      pairs = refl;
      comparisons = refl;
    }
