-- Reading a condition: its tokens and those after it, or the first fault. This project's own.
use Rattle.std.specs.Prelude.{◌≡◌, ℕ, ◌+◌, ◌≤◌, Bool, false, ◌||◌, List, ◌∷◌, ◌++◌, Some}
use Rattle.lc_model.specs.Condition as condition
use Rattle.lc_model.specs.Text.Token.{Token}
use Rattle.lc_model.specs.Text.Syntax.{Expression}
use Rattle.lc_model.specs.Text.Class.{Class, word, Fits}
use Rattle.lc_model.specs.Text.Grammar as grammar
use Rattle.lc_model.specs.Text.Grammar.{Part, Derives}
use Rattle.lc_model.specs.Text.Reading.{ParseFault, TooNested, most_nested}
use Rattle.rule_lexer.specs.declared.token.TokenKind.{TokenKind}
use Rattle.rule_lexer.specs.declared.token.TokenKind.TheVariants as kind
use Rattle.rule_parser.specs.declared.operator.Operator.{Operator}
use Rattle.rule_parser.specs.declared.operator.Operator.TheVariants.{Or, Xor, And}
use Rattle.rule_parser.specs.Front.{begins}
use Rattle.rule_parser.specs.Left.{Left}
use Rattle.rule_parser.specs.Stack.{Symbol, operand, after, inside, fault_at}

-- ---- operators

-- The token kind of an operator.
abbrev pub kind_of_operator : Operator → TokenKind
kind_of_operator Or = kind.Or
kind_of_operator Xor = kind.Xor
kind_of_operator And = kind.And

-- The operator as the model's.
abbrev pub operator_of : Operator → condition.Operator
operator_of Or = condition.Or
operator_of Xor = condition.Xor
operator_of And = condition.And

-- The part of the grammar that the operator builds.
abbrev pub part_of : Operator → Part
part_of Or = grammar.cond
part_of Xor = grammar.xors
part_of And = grammar.ands

-- The part of the grammar that its operands are.
abbrev pub operands_of : Operator → Part
operands_of Or = grammar.xors
operands_of Xor = grammar.ands
operands_of And = grammar.nots

-- ---- nesting tokens

-- The next token is of this class, and is one nesting token too many: fault 12.
abbrev pub NoRoom : Class → Left → (room : ℕ) → ParseFault → Type 0
NoRoom wanted before room fault =
    (t : Token) × (ts : List Token) × (before.tokens ≡ t ∷ ts) × Fits wanted t × (room ≡ 0) × (fault ≡ TooNested t.at)

-- The next token is read, and one fewer may nest.
abbrev pub Nested : Class → (before left : Left) → (room rest : ℕ) → Type 0
Nested wanted before left room rest =
    (t : Token) × (before.tokens ≡ t ∷ left.tokens) × Fits wanted t × (left.end ≡ before.end) × (room ≡ rest + 1)

-- ---- parts of a condition

-- Whether the next token is an operator that continues this part.
abbrev pub is_continued : Part → List Token → Bool
is_continued grammar.nots ts = false
is_continued grammar.ands ts = begins (word "and") ts
is_continued grammar.xors ts = begins (word "xor") ts || begins (word "and") ts
is_continued grammar.cond ts = begins (word "or") ts || (begins (word "xor") ts || begins (word "and") ts)

-- The next tokens are this part of a condition, with meaning `e`, and no operator after them continues the part `other`. The
-- first fault from here on is the first fault after the part.
pub record Took (part other : Part) (before left : Left) (room rest : ℕ) (e : Expression) : Type 0 where
  pub front : List Token
  pub tokens : before.tokens ≡ front ++ left.tokens
  pub derives : Derives part front e
  pub ends : is_continued other left.tokens ≡ false
  pub place : left.end ≡ before.end
  pub less : rest ≤ room
  pub goes_on : (close : Class) (s : List Symbol) →
      fault_at before.end (inside room) (operand close ∷ s) before.tokens ≡ fault_at left.end (inside rest) (after close ∷ s) left.tokens

-- Whatever follows the condition, this is the first fault.
abbrev pub Stops : Left → (room : ℕ) → ParseFault → Type 0
Stops before room fault =
    (close : Class) (s : List Symbol) → fault_at before.end (inside room) (operand close ∷ s) before.tokens ≡ Some fault

-- A whole condition was read.
abbrev pub TookCondition : (before left : Left) → Expression → Type 0
TookCondition before left e = (rest : ℕ) × Took grammar.cond grammar.cond before left most_nested rest e
