-- How the rules of some items are those of the first and those of the others.
use Rattle.std.proofs.Common.{◌≡◌, refl, sym, ◌∙◌, ap, List, [], ◌∷◌, ◌++◌, Option, Some, None, append_assoc, ℕ, ◌+◌, ◌<◌, length, drop, get_or}
use Rattle.std.specs.Prelude.{option_map}
use Rattle.std.proofs.lemmas.List.{drop_more, map-append}
use Rattle.lc_model.specs.Condition.{Condition}
use Rattle.lc_model.specs.declared.rule.Rule.{Rule}
use Rattle.lc_model.specs.Rule.{NamedRule, rule_of, rules_of}
use Rattle.lc_model.specs.Text.Syntax as model
use Rattle.lc_model.specs.Text.Meaning.{condition_in, named_rule, option_map_two, rules_in}
use Rattle.lc_model.proofs.Facts.{some_same}
use Rattle.rule_parser.specs.declared.syntax.Item.{Item}
use Rattle.rule_parser.specs.declared.syntax.Item.TheVariants as item
use Rattle.rule_parser.specs.declared.syntax.RuleItem.{RuleItem}
use Rattle.rule_parser.specs.Syntax.{item_of, items_of}

-- the rules before this one, this one, and those after it
pub one_meant : (items others : List model.Item) (done : List NamedRule) (r : model.RuleItem) (rule : NamedRule) →
    option_map (named_rule r) (condition_in items r.condition) ≡ Some rule →
    option_map (λ rs. done ++ rs) (rules_in items (model.Rule r ∷ others)) ≡ option_map (λ rs. (done ++ rule ∷ []) ++ rs) (rules_in items others)
one_meant items others done r rule e = joined (condition_in items r.condition) (rules_in items others) e
  where
    joined : (c : Option Condition) (rules : Option (List NamedRule)) → option_map (named_rule r) c ≡ Some rule →
        option_map (λ rs. done ++ rs) (option_map_two (λ c rs. named_rule r c ∷ rs) c rules) ≡ option_map (λ rs. (done ++ rule ∷ []) ++ rs) rules
    joined None rules e = absurd (cc e)
    joined (Some c) None e = refl
    joined (Some c) (Some rs) e =
        ap Some (ap (λ first. done ++ first ∷ rs) (some_same (named_rule r c) rule e) ∙ sym (append_assoc done (rule ∷ []) rs))

-- an item that is no rule
pub none_meant : (items others : List model.Item) (i : Item) → ((r : RuleItem) → i ≡ item.Rule r → ⊥) →
    rules_in items (item_of i ∷ others) ≡ rules_in items others
none_meant items others (item.Packet p) other = refl
none_meant items others (item.Field f) other = refl
none_meant items others (item.Rule r) other = absurd (other r refl)

-- the items from an index on
pub from_index : (xs : List Item) (i : ℕ) (x : Item) → i < length xs → x ≡ get_or xs i x →
    items_of (drop i xs) ≡ item_of x ∷ items_of (drop (i + 1) xs)
from_index xs i x lt is = ap items_of (drop_more xs i x lt) ∙ ap (λ y. item_of y ∷ items_of (drop (i + 1) xs)) (sym is)

-- the rules after a push
pub grown : (old new : List Rule) (rule : Rule) → new ≡ old ++ rule ∷ [] → rules_of old ++ rule_of rule ∷ [] ≡ rules_of new
grown old new rule e = sym (map-append rule_of old (rule ∷ [])) ∙ ap rules_of (sym e)
