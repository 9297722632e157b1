-- Packets, fields and the heads of rules agree with the stack.
use Rattle.std.proofs.Common.{◌≡◌, refl, sym, ap, subst, ℕ, cond, List, [], ◌∷◌, ◌++◌, Option, Some, is_some, true, false, codes, append_assoc}
use Rattle.lc_model.specs.Text.Token.{Token, string_text}
use Rattle.lc_model.specs.Text.Syntax as syntax
use Rattle.lc_model.specs.Text.Syntax.{Expression}
use Rattle.lc_model.specs.Text.Class as class
use Rattle.lc_model.specs.Text.Class.{Class, Name, Number, word, sign, fits, Fits, next, done, field_type, state, event_kind}
use Rattle.lc_model.specs.Text.Grammar as grammar
use Rattle.lc_model.specs.Text.Grammar.{Derives, DerivesItem, number_of}
use Rattle.rule_parser.specs.Stack.{Symbol, Room, narrowed, outside, inside, one, operand, packet_left, field_left, rule_left}
use Rattle.rule_parser.specs.Left.{Left, Reading, ◌>>=◌, name_in, string_in, value_in, token_in}
use Rattle.rule_parser.specs.Head.{Head, packet_in, field_in, head_in, rule_with}
use Rattle.rule_parser.proofs.Runs.{on_one}
use Rattle.rule_parser.proofs.OneToken.{one_token, one_string, one_value}
use Rattle.rule_parser.proofs.FaultSteps.{fault_of_one}
use Rattle.rule_parser.proofs.Agrees.{Agrees, agrees_end, agrees_one, agrees_plain, agrees_token, agrees_number, agrees_labelled, agrees_option, agrees_report}

agrees_name : {X B : Type 0} (narrower : Room) (s to : X → List Symbol) (D : List Token → B → Type 0)
    (before : Left) (f : Token × Left → Reading B) →
    ((t : Token) (left : Left) → Fits Name t → Agrees outside narrower s to (λ front v. D (t ∷ front) v) left (f (t, left))) →
    Agrees outside narrower (λ x. one Name ∷ s x) to D before (name_in before >>= f)
unfolding name_in
agrees_name narrower s to D before f others =
    agrees_plain narrower s to D Name (λ t u. u ≡ t) before _ f (one_token Name before.tokens) refl
    (λ t u left fit same. subst (λ u. Agrees outside narrower s to (λ front v. D (t ∷ front) v) left (f (u, left))) (sym same) (others t left fit))

agrees_string : {X B : Type 0} (narrower : Room) (s to : X → List Symbol) (D : List Token → B → Type 0)
    (before : Left) (f : List ℕ × Left → Reading B) →
    ((t : Token) (left : Left) → Fits class.Text t → Agrees outside narrower s to (λ front v. D (t ∷ front) v) left (f (string_text t.text, left))) →
    Agrees outside narrower (λ x. one class.Text ∷ s x) to D before (string_in before >>= f)
unfolding string_in
agrees_string narrower s to D before f others =
    agrees_plain narrower s to D class.Text (λ t text. text ≡ string_text t.text) before _ f (one_string before.tokens) refl
    (λ t u left fit same. subst (λ u. Agrees outside narrower s to (λ front v. D (t ∷ front) v) left (f (u, left))) (sym same) (others t left fit))

agrees_value : {X A B : Type 0} (narrower : Room) (s to : X → List Symbol) (D : List Token → B → Type 0)
    (wanted : Class) (read : List ℕ → Option A) (before : Left) (f : A × Left → Reading B) → fits wanted (codes "when") ≡ false →
    ((t : Token) → Fits wanted t → is_some (read t.text) ≡ true) →
    ((t : Token) (v : A) (left : Left) → Fits wanted t → read t.text ≡ Some v → Agrees outside narrower s to (λ front v. D (t ∷ front) v) left (f (v, left))) →
    Agrees outside narrower (λ x. one wanted ∷ s x) to D before (value_in wanted read before >>= f)
unfolding value_in
agrees_value narrower s to D wanted read before f other reads others =
    agrees_plain narrower s to D wanted (λ t v. read t.text ≡ Some v) before _ f (one_value wanted read reads before.tokens) other others

pub agrees_packet : (a : Token) → Fits (word "packet") a → (before : Left) →
    Agrees {X = Unit {0}} {B = syntax.PacketItem} outside outside (λ x. packet_left) (λ x. []) (λ front p. DerivesItem (a ∷ front) (syntax.Packet p)) before (packet_in before)
unfolding packet_in
agrees_packet a fit before =
    agrees_name outside _ _ _ _ _ (λ name left f1.
    agrees_token outside _ _ _ (sign "=") _ _ refl (λ b left f2.
    agrees_labelled outside _ _ _ (word "mid") _ _ refl (λ c m left f3 g3.
    agrees_labelled outside _ _ _ (word "length") _ _ refl (λ d l left f4 g4.
    agrees_token outside _ _ _ (sign ";") _ _ refl (λ e left f5.
    agrees_end {X = Unit {0}} {B = syntax.PacketItem} outside (λ x. [])
    (λ front p. DerivesItem (a ∷ name ∷ b ∷ c ∷ m ∷ d ∷ l ∷ e ∷ front) (syntax.Packet p)) left
    (record { name = name; mid = number_of m; length = number_of l })
    (DerivesItem.packet (next fit (next f1 (next f2 (next f3 (next g3 (next f4 (next g4 (next f5 done))))))))))))))

pub agrees_field : (a : Token) → Fits (word "field") a → (before : Left) →
    Agrees {X = Unit {0}} {B = syntax.FieldItem} outside outside (λ x. field_left) (λ x. []) (λ front f. DerivesItem (a ∷ front) (syntax.Field f)) before (field_in before)
unfolding field_in
agrees_field a fit before =
    agrees_name outside _ _ _ _ _ (λ name left f1.
    agrees_token outside _ _ _ (sign "=") _ _ refl (λ b left f2.
    agrees_name outside _ _ _ _ _ (λ packet left f3.
    agrees_value outside _ _ _ class.FieldKind field_type _ _ refl (λ t fit. fit) (λ k kind left f4 is_kind.
    agrees_labelled outside _ _ _ (word "at") _ _ refl (λ c o left f5 g5.
    agrees_option outside _ _ _ (codes "mask") _ _ refl (λ masks mask left dm.
    agrees_option outside _ _ _ (codes "stale") _ _ refl (λ stales stale left ds.
    agrees_token outside _ _ _ (sign ";") _ _ refl (λ e left f6.
    agrees_end {X = Unit {0}} {B = syntax.FieldItem} outside (λ x. [])
    (λ front f. DerivesItem (a ∷ name ∷ b ∷ packet ∷ k ∷ c ∷ o ∷ masks ++ (stales ++ e ∷ front)) (syntax.Field f)) left
    (record { name = name; packet = packet; kind = kind; offset = number_of o; mask = mask; stale = stale })
    (subst (λ ts. DerivesItem ts (syntax.Field (record { name = name; packet = packet; kind = kind; offset = number_of o; mask = mask; stale = stale })))
    (append_assoc (a ∷ name ∷ b ∷ packet ∷ k ∷ c ∷ o ∷ masks) stales (e ∷ []))
    (DerivesItem.field e (next fit (next f1 (next f2 (next f3 (next f4 (next f5 (next g5 done))))))) is_kind dm ds f6))))))))))

-- the head of a rule: whatever its condition is, they derive together
abbrev pub Begins : Token → List Token → Head → Type 0
Begins a front head =
    (conditions : List Token) (e : Token) (condition : Expression) → Derives grammar.cond conditions condition → Fits (sign ";") e →
    DerivesItem (a ∷ (front ++ (conditions ++ e ∷ []))) (syntax.Rule (rule_with head condition))

-- outside of conditions `when` leads into one
when_opens : (t : Token) → Fits (word "when") t → narrowed outside t ≡ Some (inside 64)
when_opens t fit = ap (λ b. Some (cond b (inside 64) outside)) fit

pub agrees_head : (a : Token) → Fits (word "rule") a → (before : Left) →
    Agrees {X = Unit {0}} {B = Head} outside (inside 64) (λ x. rule_left) (λ x. operand (sign ";") ∷ []) (Begins a) before (head_in before)
unfolding head_in token_in
agrees_head a fit before =
    agrees_name (inside 64) _ _ _ _ _ (λ name left f1.
    agrees_value (inside 64) _ _ _ class.State state _ _ refl (λ t fit. fit) (λ s mode left f2 is_mode.
    agrees_labelled (inside 64) _ _ _ (word "fails") _ _ refl (λ b f left f3 g3.
    agrees_labelled (inside 64) _ _ _ (word "sequence") _ _ refl (λ c q left f4 g4.
    agrees_token (inside 64) _ _ _ (word "event") _ _ refl (λ d left f5.
    agrees_value (inside 64) _ _ _ class.Level event_kind _ _ refl (λ t fit. fit) (λ l kind left f6 is_kind.
    agrees_number (inside 64) _ _ _ _ _ (λ i left f7.
    agrees_string (inside 64) _ _ _ _ _ (λ t left f8.
    agrees_report (inside 64) _ _ _ _ _ (λ reports report left dr.
    agrees_one outside (inside 64) (inside 64) (λ x. one (word "when") ∷ operand (sign ";") ∷ []) (λ x. operand (sign ";") ∷ []) (λ x. operand (sign ";") ∷ [])
    _ (word "when") (word "when") (λ t u. u ≡ t) left _ _ (one_token (word "when") left.tokens)
    (λ x t fit. on_one t (word "when") (operand (sign ";") ∷ []) fit) when_opens
    (λ x none. fault_of_one left.end outside (word "when") (operand (sign ";") ∷ []) left.tokens none)
    (λ w u left f9 same.
    agrees_end {X = Unit {0}} {B = Head} (inside 64) (λ x. operand (sign ";") ∷ [])
    (λ front head. Begins a (name ∷ s ∷ b ∷ f ∷ c ∷ q ∷ d ∷ l ∷ i ∷ t ∷ reports ++ w ∷ front) head) left
    (record {
      name = name;
      mode = mode;
      fails = number_of f;
      sequence = number_of q;
      event_kind = kind;
      event_id = number_of i;
      text = string_text t.text;
      report = report;
    })
    (λ conditions e condition derives ends.
    subst (λ ts. DerivesItem ts (syntax.Rule (record {
      name = name;
      mode = mode;
      fails = number_of f;
      sequence = number_of q;
      event_kind = kind;
      event_id = number_of i;
      text = string_text t.text;
      report = report;
      condition = condition;
    })))
    (regroup (a ∷ name ∷ s ∷ b ∷ f ∷ c ∷ q ∷ d ∷ l ∷ i ∷ t ∷ []) reports conditions w e)
    (DerivesItem.rule w e (next fit (next f1 (next f2 (next f3 (next g3 (next f4 (next g4 (next f5 (next f6 (next f7 (next f8 done))))))))))) is_mode is_kind
    dr f9 derives ends))))))))))))
  where
    regroup : (xs rs cs : List Token) (w e : Token) → xs ++ rs ++ w ∷ cs ++ e ∷ [] ≡ (xs ++ (rs ++ w ∷ [])) ++ (cs ++ e ∷ [])
    regroup xs rs cs w e = simp append_assoc
