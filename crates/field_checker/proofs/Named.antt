-- Which number a fault names.
use Rattle.std.proofs.Common.{◌≡◌, refl, sym, ◌∙◌, ap, ℕ, ◌<◌, true, ◌||◌, List, Some, pos, length, get_or, arith}
use Rattle.std.specs.Prelude.{int_lt}
use Rattle.std.specs.List.{Contains}
use Rattle.std.proofs.lemmas.List.{length-map, get_or-map}
use Rattle.lc_model.specs.Text.Syntax.{Item, Number, FieldItem, RuleItem, Field, Rule}
use Rattle.rule_parser.specs.declared.syntax.Item as program
use Rattle.rule_parser.specs.Syntax.{item_of, items_of}
use Rattle.field_checker.specs.declared.number.RuleNumber.{RuleNumber}
use Rattle.field_checker.specs.declared.number.RuleNumber.TheVariants.{Stale}
use Rattle.field_checker.specs.Number.{StandsOutside, is_out_of_range, most_of, number_in}

-- an item at an index is one of them
pub among_items : (items : List program.Item) (i : ℕ) (item : program.Item) → i < length items → item ≡ get_or items i item →
    Contains (items_of items) (item_of item)
among_items items i item lt is =
    let fewer : length (items_of items) ≡ length items = length-map items item_of in
    (i, omega (arith, lt, fewer), get_or-map item_of items i item (item_of item) lt ∙ ap item_of (sym is))

-- a number of one of the rules
pub rule_names : (items : List Item) (rule : RuleItem) (number : RuleNumber) (written : Number) → Contains items (Rule rule) →
    number_in number (Rule rule) ≡ Some written → is_out_of_range number written ≡ true → StandsOutside items number written.at
rule_names items rule number written among has outside = record {
  item = Rule rule;
  among = among;
  written = written;
  has = has;
  place = refl;
  outside = outside;
}

-- a field's stale age that is negative
pub stale_named : (items : List Item) (field : FieldItem) (written : Number) → Contains items (Field field) →
    field.stale ≡ Some written → int_lt written.value (pos 0) ≡ true → StandsOutside items Stale written.at
stale_named items field written among has negative = record {
  item = Field field;
  among = among;
  written = written;
  has = has;
  place = refl;
  outside = ap (λ b. b || int_lt (pos (most_of Stale)) written.value) negative;
}
