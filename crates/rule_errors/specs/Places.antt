-- Where a text that can be read has more than the tables take: its rules by number, and its first comparison too many. This
-- project's own.
use Rattle.std.specs.Prelude.{◌≡◌, ℕ, ◌+◌, List, [], ◌∷◌, ◌++◌, filter_map, flat_map, length, slice_get, take, Option, Some, None, option_map}
use Rattle.lc_model.specs.declared.field.Term.{Term}
use Rattle.lc_model.specs.Codes.{table_entries}
use Rattle.lc_model.specs.Rule.{NamedRule}
use Rattle.lc_model.specs.Tables.Equation.{distinct}
use Rattle.lc_model.specs.Text.Syntax.{Expression, Compare, Not, Join, RuleItem, Item, Packet, Field, Rule}
use Rattle.rpn_compiler.specs.Read.{IsRead}
use Rattle.watch_sharing.specs.Numbering.{all_mentions}

-- ---- rules

abbrev pub rule_in : Item → Option RuleItem
rule_in (Packet p) = None
rule_in (Field f) = None
rule_in (Rule r) = Some r

abbrev pub rules_among : List Item → List RuleItem
rules_among = filter_map rule_in

-- the place of the name of the rule with this number, counted from 0
abbrev pub rule_place : List Item → ℕ → Option ℕ
rule_place items number = option_map (λ (r : RuleItem). r.name.at) (slice_get (rules_among items) number)

-- the name of the text's rule with this number stands here
pub record IsRule (text : List ℕ) (number at : ℕ) : Type 0 where
  pub items : List Item
  pub rules : List NamedRule
  pub read : IsRead text items rules
  pub named : rule_place items number ≡ Some at

-- ---- comparisons

-- the places of a condition's comparisons, from left to right: each stands where the name of its field does
abbrev pub places : Expression → List ℕ
places (Compare field op value) = field.at ∷ []
places (Not e) = places e
places (Join o a b) = places a ++ places b

-- those of all rules, in the order in which the rules mention watchpoints
abbrev pub all_places : List Item → List ℕ
all_places items = flat_map (λ (r : RuleItem). places r.condition) (rules_among items)

-- the mention with this number is the first of the watchpoint that is one too many: before it a table's entries are used up
pub record IsBeyond (mentions : List Term) (number : ℕ) : Type 0 where
  pub before : length (distinct (take number mentions)) ≡ table_entries
  pub behind : length (distinct (take (number + 1) mentions)) ≡ table_entries + 1

-- the comparison here is the first of the text's watchpoint that is one too many
pub record IsComparisonBeyond (text : List ℕ) (at : ℕ) : Type 0 where
  pub items : List Item
  pub rules : List NamedRule
  pub number : ℕ
  pub read : IsRead text items rules
  pub beyond : IsBeyond (all_mentions rules) number
  pub place : slice_get (all_places items) number ≡ Some at
