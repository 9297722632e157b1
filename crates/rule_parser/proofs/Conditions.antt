-- Parts of a condition, put together: what is taken derives, and the first fault stays where it is.
use Rattle.std.proofs.Common.{◌≡◌, refl, sym, ◌∙◌, ap, subst, ℕ, ◌+◌, Bool, true, false, List, [], ◌∷◌, ◌++◌, Option, Some, None, Ok, Err, arith, append_assoc, codes}
use Rattle.lc_model.specs.declared.field.CmpOp.{CmpOp}
use Rattle.lc_model.specs.Text.Token.{Token}
use Rattle.lc_model.specs.Text.Syntax as syntax
use Rattle.lc_model.specs.Text.Syntax.{Expression}
use Rattle.lc_model.specs.Text.Class as class
use Rattle.lc_model.specs.Text.Class.{Class, Name, Number, word, sign, Fits, next, done, comparison}
use Rattle.lc_model.specs.Text.Grammar as grammar
use Rattle.lc_model.specs.Text.Grammar.{Derives, number_of}
use Rattle.lc_model.specs.Text.Reading.{ParseFault, Expected, TooNested}
use Rattle.lc_model.proofs.Facts.{or_first, or_second}
use Rattle.rule_lexer.specs.declared.token.TokenKind.{TokenKind}
use Rattle.rule_parser.specs.declared.error.ParseError.{ParseError}
use Rattle.rule_parser.specs.declared.error.ParseError.TheVariants as error
use Rattle.rule_parser.specs.declared.operator.Operator.{Operator}
use Rattle.rule_parser.specs.declared.operator.Operator.TheVariants.{Or, Xor, And}
use Rattle.rule_parser.specs.Fault.{Refuses}
use Rattle.rule_parser.specs.Front.{begins, class_of, place_in}
use Rattle.rule_parser.specs.Left.{Left, wanting, token_in, operand_name_in, value_in, number_in, comparison_in}
use Rattle.rule_parser.specs.Stack.{Symbol, one, operand, after, inside, joins, step, fault_at}
use Rattle.rule_parser.specs.Condition.{Took, Stops, Nested, NoRoom, kind_of_operator, operator_of, part_of, operands_of}
use Rattle.rule_parser.proofs.Runs.{on_one, on_name, on_not, on_open, on_join, and_joins, xor_joins, or_joins}
use Rattle.rule_parser.proofs.OneToken.{One, one_token, one_number, one_value}
use Rattle.rule_parser.proofs.Agrees.{Agrees, agrees_one, agrees_end}
use Rattle.rule_parser.proofs.FaultSteps.{fault_behind, fault_too_deep, fault_of_one, fault_of_operand, past_condition, steady, IsNesting, word_nests, open_nests, narrows, too_narrow}

-- ---- errors that are passed on

pub refuses_too : (P Q : ParseFault → Type 0) → ((fault : ParseFault) → P fault → Q fault) → (e : ParseError) → Refuses P e → Refuses Q e
refuses_too P Q to (error.Expected at what) r = to _ r
refuses_too P Q to (error.TooNested at) r = to _ r
refuses_too P Q to error.Memory r = tt

-- ---- one token that nests

-- a token that nests, and then what stands behind it
behind_nest : (before left : Left) (room rest : ℕ) (s m : List Symbol) (t : Token) → before.tokens ≡ t ∷ left.tokens → left.end ≡ before.end →
    room ≡ rest + 1 → IsNesting t → step s t ≡ Some m →
    fault_at before.end (inside room) s before.tokens ≡ fault_at left.end (inside rest) m left.tokens
behind_nest before left room rest s m t first same room_is nest steps =
    ap (fault_at before.end (inside room) s) first
    ∙ fault_behind before.end (inside room) (inside rest) s m t left.tokens steps (narrows room rest t nest room_is)
    ∙ ap (λ end. fault_at end (inside rest) m left.tokens) (sym same)

-- a token for which there is no room
no_room : (before : Left) (room : ℕ) (s m : List Symbol) (t : Token) (ts : List Token) → before.tokens ≡ t ∷ ts → room ≡ 0 → IsNesting t →
    step s t ≡ Some m → fault_at before.end (inside room) s before.tokens ≡ Some (TooNested t.at)
no_room before room s m t ts first none nest steps =
    ap (fault_at before.end (inside room) s) first
    ∙ fault_too_deep before.end (inside room) s m t ts steps (too_narrow room t nest none)

not_nests : (t : Token) → Fits (word "not") t → IsNesting t
not_nests t fit = word_nests (codes "not") t refl refl fit

joining : (o : Operator) (t : Token) → Fits (class_of (kind_of_operator o)) t → joins t ≡ true
joining Or t fit = or_joins t fit
joining Xor t fit = xor_joins t fit
joining And t fit = and_joins t fit

operator_nests : (o : Operator) (t : Token) → Fits (class_of (kind_of_operator o)) t → IsNesting t
operator_nests Or t fit = word_nests (codes "or") t refl refl fit
operator_nests Xor t fit = word_nests (codes "xor") t refl refl fit
operator_nests And t fit = word_nests (codes "and") t refl refl fit

-- ---- operators

one_part : (o : Operator) (ts : List Token) (e : Expression) → Derives (operands_of o) ts e → Derives (part_of o) ts e
one_part Or ts e d = grammar.cond_one d
one_part Xor ts e d = grammar.xors_one d
one_part And ts e d = grammar.ands_one d

two_parts : (o : Operator) (ts us : List Token) (t : Token) (a b : Expression) → Derives (part_of o) ts a → Fits (class_of (kind_of_operator o)) t →
    Derives (operands_of o) us b → Derives (part_of o) (ts ++ t ∷ us) (syntax.Join (operator_of o) a b)
two_parts Or ts us t a b d fit f = grammar.cond_or t d fit f
two_parts Xor ts us t a b d fit f = grammar.xors_xor t d fit f
two_parts And ts us t a b d fit f = grammar.ands_and t d fit f

-- the first part
pub begin_parts : (o : Operator) (before left : Left) (room rest : ℕ) (e : Expression) → Took (operands_of o) (operands_of o) before left room rest e →
    Took (part_of o) (operands_of o) before left room rest e
begin_parts o before left room rest e k = record {
  front = k.front;
  tokens = k.tokens;
  derives = one_part o k.front e k.derives;
  ends = k.ends;
  place = k.place;
  less = k.less;
  goes_on = k.goes_on;
}

-- an operator and one part more
pub join_parts : (o : Operator) (before l1 l2 l3 : Left) (room r1 r2 r3 : ℕ) (a b : Expression) →
    Took (part_of o) (operands_of o) before l1 room r1 a → Nested (class_of (kind_of_operator o)) l1 l2 r1 r2 →
    Took (operands_of o) (operands_of o) l2 l3 r2 r3 b → Took (part_of o) (operands_of o) before l3 room r3 (syntax.Join (operator_of o) a b)
join_parts o before l1 l2 l3 room r1 r2 r3 a b k (t, first, fit, same, room_is) n = record {
  front = k.front ++ t ∷ n.front;
  tokens = k.tokens ∙ ap (λ ts. k.front ++ ts) (first ∙ ap (λ ts. t ∷ ts) n.tokens) ∙ sym (append_assoc k.front (t ∷ n.front) l3.tokens);
  derives = two_parts o k.front n.front t a b k.derives fit n.derives;
  ends = n.ends;
  place = n.place ∙ same ∙ k.place;
  less = (let one = k.less in let other = n.less in omega (arith, one, other, room_is));
  goes_on = λ close s.
      k.goes_on close s
      ∙ behind_nest l1 l2 r1 r2 (after close ∷ s) (operand close ∷ s) t first same room_is (operator_nests o t fit) (on_join t close s (joining o t fit))
      ∙ n.goes_on close s;
}

-- no room for the operator
pub join_too_deep : (o : Operator) (before l1 : Left) (room r1 : ℕ) (a : Expression) (e : ParseError) →
    Took (part_of o) (operands_of o) before l1 room r1 a → Refuses (NoRoom (class_of (kind_of_operator o)) l1 r1) e → Refuses (Stops before room) e
join_too_deep o before l1 room r1 a e k n =
    refuses_too (NoRoom (class_of (kind_of_operator o)) l1 r1) (Stops before room) (λ fault f. λ close s.
    k.goes_on close s
    ∙ no_room l1 r1 (after close ∷ s) (operand close ∷ s) f.0 f.1 f.2 f.4 (operator_nests o f.0 f.3) (on_join f.0 close s (joining o f.0 f.3))
    ∙ ap Some (sym f.5)) e n

-- a fault behind the operator
pub join_stops : (o : Operator) (before l1 l2 : Left) (room r1 r2 : ℕ) (a : Expression) (e : ParseError) →
    Took (part_of o) (operands_of o) before l1 room r1 a → Nested (class_of (kind_of_operator o)) l1 l2 r1 r2 →
    Refuses (Stops l2 r2) e → Refuses (Stops before room) e
join_stops o before l1 l2 room r1 r2 a e k (t, first, fit, same, room_is) r =
    refuses_too (Stops l2 r2) (Stops before room) (λ fault f. λ close s.
    k.goes_on close s
    ∙ behind_nest l1 l2 r1 r2 (after close ∷ s) (operand close ∷ s) t first same room_is (operator_nests o t fit) (on_join t close s (joining o t fit))
    ∙ f close s) e r

-- ---- operands

-- `not` and an operand
pub negate : (before l1 l2 : Left) (room r1 r2 : ℕ) (e : Expression) → Nested (word "not") before l1 room r1 →
    Took grammar.nots grammar.nots l1 l2 r1 r2 e → Took grammar.nots grammar.nots before l2 room r2 (syntax.Not e)
negate before l1 l2 room r1 r2 e (t, first, fit, same, room_is) k = record {
  front = t ∷ k.front;
  tokens = first ∙ ap (λ ts. t ∷ ts) k.tokens;
  derives = grammar.nots_not fit k.derives;
  ends = refl;
  place = k.place ∙ same;
  less = (let one = k.less in omega (arith, one, room_is));
  goes_on = λ close s.
      behind_nest before l1 room r1 (operand close ∷ s) (operand close ∷ s) t first same room_is (not_nests t fit) (on_not t close s fit) ∙ k.goes_on close s;
}

pub negate_stops : (before l1 : Left) (room r1 : ℕ) (e : ParseError) → Nested (word "not") before l1 room r1 →
    Refuses (Stops l1 r1) e → Refuses (Stops before room) e
negate_stops before l1 room r1 e (t, first, fit, same, room_is) r =
    refuses_too (Stops l1 r1) (Stops before room) (λ fault f. λ close s.
    behind_nest before l1 room r1 (operand close ∷ s) (operand close ∷ s) t first same room_is (not_nests t fit) (on_not t close s fit) ∙ f close s) e r

pub not_too_deep : (before : Left) (room : ℕ) (e : ParseError) → Refuses (NoRoom (word "not") before room) e → Refuses (Stops before room) e
not_too_deep before room e n =
    refuses_too (NoRoom (word "not") before room) (Stops before room) (λ fault f. λ close s.
    no_room before room (operand close ∷ s) (operand close ∷ s) f.0 f.1 f.2 f.4 (not_nests f.0 f.3) (on_not f.0 close s f.3)
    ∙ ap Some (sym f.5)) e n

pub open_too_deep : (before : Left) (room : ℕ) (e : ParseError) → Refuses (NoRoom (sign "(") before room) e → Refuses (Stops before room) e
open_too_deep before room e n =
    refuses_too (NoRoom (sign "(") before room) (Stops before room) (λ fault f. λ close s.
    no_room before room (operand close ∷ s) (operand (sign ")") ∷ after close ∷ s) f.0 f.1 f.2 f.4 (open_nests f.0 f.3) (on_open f.0 close s f.3)
    ∙ ap Some (sym f.5)) e n

pub open_stops : (before l1 : Left) (room r1 : ℕ) (e : ParseError) → Nested (sign "(") before l1 room r1 →
    Refuses (Stops l1 r1) e → Refuses (Stops before room) e
open_stops before l1 room r1 e (t, first, fit, same, room_is) r =
    refuses_too (Stops l1 r1) (Stops before room) (λ fault f. λ close s.
    behind_nest before l1 room r1 (operand close ∷ s) (operand (sign ")") ∷ after close ∷ s) t first same room_is (open_nests t fit) (on_open t close s fit)
    ∙ f (sign ")") (after close ∷ s)) e r

-- behind a whole condition the token that closes it is wanted
pub at_close : (before left : Left) (room rest : ℕ) (e : Expression) → Took grammar.cond grammar.cond before left room rest e → (close : Class) (s : List Symbol) →
    fault_at before.end (inside room) (operand close ∷ s) before.tokens ≡ fault_at left.end (inside rest) (one close ∷ s) left.tokens
at_close before left room rest e k close s =
    let others = or_second (begins (word "or") left.tokens) _ k.ends in
    k.goes_on close s
    ∙ past_condition left.end (inside rest) close s left.tokens (or_second (begins (word "xor") left.tokens) _ others)
    (or_first (begins (word "xor") left.tokens) _ others) (or_first (begins (word "or") left.tokens) _ k.ends)

-- a step that reads one token, taken apart
pub wanting_ok : {A : Type 0} (wanted what : Class) (R : Token → A → Type 0) (left : Left) (o : Option (A × List Token)) → One wanted R left.tokens o →
    (x : A × Left) → wanting what left o ≡ Ok x → (t : Token) × (left.tokens ≡ t ∷ x.1.tokens) × Fits wanted t × (x.1.end ≡ left.end)
wanting_ok wanted what R left None is x e = absurd (cc e)
wanting_ok wanted what R left (Some y) is x e =
    let same : (y.0, record left { tokens = y.1 }) ≡ x = cc e in
    (is.0, is.1 ∙ ap (λ x. is.0 ∷ x.1.tokens) same, is.2, sym (ap (λ x. x.1.end) same))

pub wanting_err : {A : Type 0} (wanted what : Class) (R : Token → A → Type 0) (left : Left) (o : Option (A × List Token)) → One wanted R left.tokens o →
    (fault : ParseFault) → wanting what left o ≡ Err fault → (begins wanted left.tokens ≡ false) × (Expected (place_in left.end left.tokens) what ≡ fault)
wanting_err wanted what R left None is fault e = (is, cc e)
wanting_err wanted what R left (Some y) is fault e = absurd (cc e)

-- `(`, a condition and `)`
pub parenthesize : (before l1 l2 : Left) (room r1 r2 : ℕ) (e : Expression) → Nested (sign "(") before l1 room r1 →
    Took grammar.cond grammar.cond l1 l2 r1 r2 e → (x : Token × Left) → token_in (sign ")") l2 ≡ Ok x → Took grammar.nots grammar.nots before x.1 room r2 e
unfolding token_in
parenthesize before l1 l2 room r1 r2 e (t, first, fit, same, room_is) k x read =
    let close = wanting_ok (sign ")") (sign ")") (λ t u. u ≡ t) l2 _ (one_token (sign ")") l2.tokens) x read in
    record {
      front = t ∷ k.front ++ close.0 ∷ [];
      tokens = first ∙ ap (λ ts. t ∷ ts) (k.tokens ∙ ap (λ ts. k.front ++ ts) close.1) ∙ sym (append_assoc (t ∷ k.front) (close.0 ∷ []) x.1.tokens);
      derives = grammar.nots_parentheses t close.0 fit k.derives close.2;
      ends = refl;
      place = close.3 ∙ k.place ∙ same;
      less = (let other = k.less in omega (arith, other, room_is));
      goes_on = λ c s.
          behind_nest before l1 room r1 (operand c ∷ s) (operand (sign ")") ∷ after c ∷ s) t first same room_is (open_nests t fit) (on_open t c s fit)
          ∙ at_close l1 l2 r1 r2 e k (sign ")") (after c ∷ s)
          ∙ ap (fault_at l2.end (inside r2) (one (sign ")") ∷ after c ∷ s)) close.1
          ∙ fault_behind l2.end (inside r2) (inside r2) (one (sign ")") ∷ after c ∷ s) (after c ∷ s) close.0 x.1.tokens
          (on_one close.0 (sign ")") (after c ∷ s) close.2) (steady r2 (sign ")") close.0 refl refl close.2)
          ∙ ap (λ end. fault_at end (inside r2) (after c ∷ s) x.1.tokens) (sym close.3);
    }

pub close_stops : (before l1 l2 : Left) (room r1 r2 : ℕ) (e : Expression) (error : ParseError) → Nested (sign "(") before l1 room r1 →
    Took grammar.cond grammar.cond l1 l2 r1 r2 e → Refuses (λ fault. token_in (sign ")") l2 ≡ Err fault) error → Refuses (Stops before room) error
unfolding token_in
close_stops before l1 l2 room r1 r2 e error (t, first, fit, same, room_is) k r =
    refuses_too (λ fault. token_in (sign ")") l2 ≡ Err fault) (Stops before room) (λ fault f. λ c s.
    let missing = wanting_err (sign ")") (sign ")") (λ t u. u ≡ t) l2 _ (one_token (sign ")") l2.tokens) fault f in
    behind_nest before l1 room r1 (operand c ∷ s) (operand (sign ")") ∷ after c ∷ s) t first same room_is (open_nests t fit) (on_open t c s fit)
    ∙ at_close l1 l2 r1 r2 e k (sign ")") (after c ∷ s)
    ∙ fault_of_one l2.end (inside r2) (sign ")") (after c ∷ s) l2.tokens missing.0 ∙ ap Some missing.1) error r

-- ---- comparisons

-- the rest of a condition, by the token that closes it and what is left behind that
abbrev Rest : Type 0
Rest = Class × List Symbol

agrees_comparison : (room : ℕ) (before : Left) → begins (word "not") before.tokens ≡ false → begins (sign "(") before.tokens ≡ false →
    Agrees {X = Rest} {B = Expression} (inside room) (inside room) (λ x. operand x.0 ∷ x.1) (λ x. after x.0 ∷ x.1) (Derives grammar.nots) before (comparison_in before)
unfolding comparison_in operand_name_in value_in number_in
agrees_comparison room before no_not no_open =
    agrees_one {X = Rest} {A = Token} {B = Expression} (inside room) (inside room) (inside room) (λ x. operand x.0 ∷ x.1)
    (λ x. one class.Compare ∷ one Number ∷ after x.0 ∷ x.1) (λ x. after x.0 ∷ x.1) (Derives grammar.nots) Name class.Operand (λ t u. u ≡ t) before _ _
    (one_token Name before.tokens) (λ x t fit. on_name t x.0 x.1 fit) (λ t fit. steady room Name t refl refl fit)
    (λ x none. fault_of_operand before.end (inside room) x.0 x.1 before.tokens none no_not no_open)
    (λ n u left fit same.
    agrees_one {X = Rest} {A = CmpOp} {B = Expression} (inside room) (inside room) (inside room) (λ x. one class.Compare ∷ one Number ∷ after x.0 ∷ x.1)
    (λ x. one Number ∷ after x.0 ∷ x.1) (λ x. after x.0 ∷ x.1) (λ front e. Derives grammar.nots (n ∷ front) e) class.Compare class.Compare
    (λ t op. comparison t.text ≡ Some op) left _ _ (one_value class.Compare comparison (λ t fit. fit) left.tokens)
    (λ x t fit. on_one t class.Compare (one Number ∷ after x.0 ∷ x.1) fit) (λ t fit. steady room class.Compare t refl refl fit)
    (λ x none. fault_of_one left.end (inside room) class.Compare (one Number ∷ after x.0 ∷ x.1) left.tokens none)
    (λ o op left fit' is.
    agrees_one {X = Rest} {A = syntax.Number} {B = Expression} (inside room) (inside room) (inside room) (λ x. one Number ∷ after x.0 ∷ x.1)
    (λ x. after x.0 ∷ x.1) (λ x. after x.0 ∷ x.1) (λ front e. Derives grammar.nots (n ∷ o ∷ front) e) Number Number
    (λ t k. k ≡ number_of t) left _ _ (one_number left.tokens)
    (λ x t fit. on_one t Number (after x.0 ∷ x.1) fit) (λ t fit. steady room Number t refl refl fit)
    (λ x none. fault_of_one left.end (inside room) Number (after x.0 ∷ x.1) left.tokens none)
    (λ k value left fit'' reads.
    agrees_end {X = Rest} {B = Expression} (inside room) (λ x. after x.0 ∷ x.1) (λ front e. Derives grammar.nots (n ∷ o ∷ k ∷ front) e) left
    (syntax.Compare u op value)
    (subst (λ u. Derives grammar.nots (n ∷ o ∷ k ∷ []) (syntax.Compare u op value)) (sym same)
    (subst (λ value. Derives grammar.nots (n ∷ o ∷ k ∷ []) (syntax.Compare n op value)) (sym reads)
    (grammar.nots_compare (next fit (next fit' (next fit'' done))) is))))))

-- where no `not` and no `(` stands next
pub compare : (before left : Left) (room : ℕ) (e : Expression) → begins (word "not") before.tokens ≡ false → begins (sign "(") before.tokens ≡ false →
    comparison_in before ≡ Ok (e, left) → Took grammar.nots grammar.nots before left room room e
compare before left room e no_not no_open read =
    let a = subst (Agrees {X = Rest} {B = Expression} (inside room) (inside room) (λ x. operand x.0 ∷ x.1) (λ x. after x.0 ∷ x.1) (Derives grammar.nots) before) read
    (agrees_comparison room before no_not no_open) in
    record {
      front = a.0;
      tokens = a.1;
      derives = a.3;
      ends = refl;
      place = a.2;
      less = omega arith;
      goes_on = λ close s. a.4 (close, s);
    }

pub compare_stops : (before : Left) (room : ℕ) (error : ParseError) → begins (word "not") before.tokens ≡ false → begins (sign "(") before.tokens ≡ false →
    Refuses (λ fault. comparison_in before ≡ Err fault) error → Refuses (Stops before room) error
compare_stops before room error no_not no_open r =
    refuses_too (λ fault. comparison_in before ≡ Err fault) (Stops before room) (λ fault f. λ close s.
    let a = subst (Agrees {X = Rest} {B = Expression} (inside room) (inside room) (λ x. operand x.0 ∷ x.1) (λ x. after x.0 ∷ x.1) (Derives grammar.nots) before) f
    (agrees_comparison room before no_not no_open) in
    a (close, s)) error r

-- ---- as the program has them

-- the operator's tokens are of its kind
pub of_kind : (kind other : TokenKind) (tokens : List Token) (b c : Bool) → kind ≡ other → b ≡ begins (class_of kind) tokens → b ≡ c →
    begins (class_of other) tokens ≡ c
of_kind kind other tokens b c e begins_is is = ap (λ k. begins (class_of k) tokens) (sym e) ∙ sym begins_is ∙ is
