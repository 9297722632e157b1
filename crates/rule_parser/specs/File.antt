-- Reading an item: its tokens and those after it, or the first fault. This project's own.
use Rattle.std.specs.Prelude.{◌≡◌, ℕ, List, [], ◌∷◌, ◌++◌, option_map, Some, None}
use Rattle.lc_model.specs.Text.Token.{Token}
use Rattle.lc_model.specs.Text.Syntax.{Item}
use Rattle.lc_model.specs.Text.Grammar.{DerivesItem, DerivesFile}
use Rattle.lc_model.specs.Text.Reading.{ParseFault}
use Rattle.rule_parser.specs.declared.head.RuleHead.{RuleHead}
use Rattle.rule_parser.specs.Syntax.{name_of, number_of, report_of}
use Rattle.rule_parser.specs.Left.{Left}
use Rattle.rule_parser.specs.Stack.{Symbol, outside, rule_left, fault_at}
use Rattle.rule_parser.specs.Head.{Head}

-- The program's rule head as the model's.
abbrev pub head_of : RuleHead → Head
head_of h = record {
  name = name_of h.name;
  mode = h.mode;
  fails = number_of h.fails;
  sequence = number_of h.sequence;
  event_kind = h.event_kind;
  event_id = number_of h.event_id;
  text = h.text.now;
  report = option_map report_of h.report;
}

-- The next tokens are this item. The first fault from here on is the first fault after it.
pub record TookItem (before left : Left) (item : Item) : Type 0 where
  pub front : List Token
  pub tokens : before.tokens ≡ front ++ left.tokens
  pub derives : DerivesItem front item
  pub place : left.end ≡ before.end
  pub goes_on : fault_at before.end outside [] before.tokens ≡ fault_at left.end outside [] left.tokens

-- The next tokens are the rest of a rule whose word `rule` was token `t`. The first fault from here on is the first fault after
-- it.
pub record TookRule (t : Token) (before left : Left) (item : Item) : Type 0 where
  pub front : List Token
  pub tokens : before.tokens ≡ front ++ left.tokens
  pub derives : DerivesItem (t ∷ front) item
  pub place : left.end ≡ before.end
  pub goes_on : fault_at before.end outside rule_left before.tokens ≡ fault_at left.end outside [] left.tokens

-- The first fault, if these symbols are to be read next.
abbrev pub StopsAt : List Symbol → Left → ParseFault → Type 0
StopsAt s before fault = fault_at before.end outside s before.tokens ≡ Some fault

-- All tokens are these items, and have no fault.
pub record TookAll (end : ℕ) (tokens : List Token) (items : List Item) : Type 0 where
  pub derives : DerivesFile tokens items
  pub no_fault : fault_at end outside [] tokens ≡ None

-- The first fault of all tokens.
abbrev pub StopsAll : (end : ℕ) → List Token → ParseFault → Type 0
StopsAll end tokens fault = fault_at end outside [] tokens ≡ Some fault
