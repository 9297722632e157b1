-- Rules, items and whole texts: what is taken derives, and the first fault stays where it is.
use Rattle.std.proofs.Common.{◌≡◌, refl, sym, ◌∙◌, ap, subst, ℕ, Bool, true, false, cond, List, [], ◌∷◌, ◌++◌, Some, None, Ok, Err, append_assoc, append-nil, codes}
use Rattle.lc_model.specs.Text.Token.{Token}
use Rattle.lc_model.specs.Text.Syntax as syntax
use Rattle.lc_model.specs.Text.Syntax.{Expression, Item}
use Rattle.lc_model.specs.Text.Class as class
use Rattle.lc_model.specs.Text.Class.{Class, word, sign, fits, Fits}
use Rattle.lc_model.specs.Text.Grammar.{DerivesItem, DerivesFile}
use Rattle.lc_model.specs.Text.Reading.{Expected, nests}
use Rattle.rule_parser.specs.declared.error.ParseError.{ParseError}
use Rattle.rule_parser.specs.Fault.{Refuses}
use Rattle.rule_parser.specs.Front.{begins, is_empty, place_in}
use Rattle.rule_parser.specs.Left.{Left, Takes, place, token_in}
use Rattle.rule_parser.specs.Condition.{TookCondition, Stops}
use Rattle.rule_parser.specs.Head.{Head, packet_in, field_in, head_in, rule_with}
use Rattle.rule_parser.specs.Stack.{Symbol, outside, inside, less, one, operand, packet_left, field_left, rule_left, step, narrowed, fault_at}
use Rattle.rule_parser.specs.File.{TookItem, TookRule, TookAll, StopsAt}
use Rattle.rule_parser.proofs.Runs.{on_one, on_packet, on_field, on_rule}
use Rattle.rule_parser.proofs.OneToken.{one_token}
use Rattle.rule_parser.proofs.Agrees.{Agrees}
use Rattle.rule_parser.proofs.FaultSteps.{fault_behind, fault_here, fault_of_one, steady_outside}
use Rattle.rule_parser.proofs.Conditions.{refuses_too, at_close, wanting_ok, wanting_err}
use Rattle.rule_parser.proofs.Heads.{Begins, agrees_packet, agrees_field, agrees_head}

-- ---- rules

-- `;` leads out of a condition
end_closes : (left : ℕ) (t : Token) → Fits (sign ";") t → narrowed (inside left) t ≡ Some outside
end_closes left t fit = ap (λ b. cond b (Some outside) (cond (nests t) (less left) (Some (inside left)))) fit

pub rule_took : (t : Token) → Fits (word "rule") t → (before l1 l2 : Left) (head : Head) (e : Expression) (x : Token × Left) →
    head_in before ≡ Ok (head, l1) → TookCondition l1 l2 e → token_in (sign ";") l2 ≡ Ok x → TookRule t before x.1 (syntax.Rule (rule_with head e))
unfolding token_in
rule_took t fit before l1 l2 head e x read (rest, k) ends =
    let a = subst (Agrees {X = Unit {0}} {B = Head} outside (inside 64) (λ x. rule_left) (λ x. operand (sign ";") ∷ []) (Begins t) before) read (agrees_head t fit before) in
    let close = wanting_ok (sign ";") (sign ";") (λ t u. u ≡ t) l2 _ (one_token (sign ";") l2.tokens) x ends in
    record {
      front = a.0 ++ (k.front ++ close.0 ∷ []);
      tokens =
          a.1 ∙ ap (λ ts. a.0 ++ ts) (k.tokens ∙ ap (λ ts. k.front ++ ts) close.1 ∙ sym (append_assoc k.front (close.0 ∷ []) x.1.tokens))
          ∙ sym (append_assoc a.0 (k.front ++ close.0 ∷ []) x.1.tokens);
      derives = a.3 k.front close.0 e k.derives close.2;
      place = close.3 ∙ k.place ∙ a.2;
      goes_on =
          a.4 tt
          ∙ at_close l1 l2 64 rest e k (sign ";") []
          ∙ ap (fault_at l2.end (inside rest) (one (sign ";") ∷ [])) close.1
          ∙ fault_behind l2.end (inside rest) outside (one (sign ";") ∷ []) [] close.0 x.1.tokens (on_one close.0 (sign ";") [] close.2) (end_closes rest close.0 close.2)
          ∙ ap (λ end. fault_at end outside [] x.1.tokens) (sym close.3);
    }

abbrev rule_token : Token
rule_token = record { at = 0; text = codes "rule" }

-- the head of a rule, whatever stands before it
head_goes : (before l1 : Left) (head : Head) → head_in before ≡ Ok (head, l1) →
    fault_at before.end outside rule_left before.tokens ≡ fault_at l1.end (inside 64) (operand (sign ";") ∷ []) l1.tokens
head_goes before l1 head read =
    let a = subst (Agrees {X = Unit {0}} {B = Head} outside (inside 64) (λ x. rule_left) (λ x. operand (sign ";") ∷ []) (Begins rule_token) before) read
    (agrees_head rule_token refl before) in
    a.4 tt

pub head_stops : (before : Left) (error : ParseError) → Refuses (λ fault. head_in before ≡ Err fault) error → Refuses (StopsAt rule_left before) error
head_stops before error r =
    refuses_too (λ fault. head_in before ≡ Err fault) (StopsAt rule_left before) (λ fault f.
    subst (Agrees {X = Unit {0}} {B = Head} outside (inside 64) (λ x. rule_left) (λ x. operand (sign ";") ∷ []) (Begins rule_token) before) f
    (agrees_head rule_token refl before) tt) error r

pub condition_stops : (before l1 : Left) (head : Head) (error : ParseError) → head_in before ≡ Ok (head, l1) → Refuses (Stops l1 64) error →
    Refuses (StopsAt rule_left before) error
condition_stops before l1 head error read r =
    refuses_too (Stops l1 64) (StopsAt rule_left before) (λ fault f. head_goes before l1 head read ∙ f (sign ";") []) error r

pub end_stops : (before l1 l2 : Left) (head : Head) (e : Expression) (error : ParseError) → head_in before ≡ Ok (head, l1) → TookCondition l1 l2 e →
    Refuses (λ fault. token_in (sign ";") l2 ≡ Err fault) error → Refuses (StopsAt rule_left before) error
unfolding token_in
end_stops before l1 l2 head e error read (rest, k) r =
    refuses_too (λ fault. token_in (sign ";") l2 ≡ Err fault) (StopsAt rule_left before) (λ fault f.
    let missing = wanting_err (sign ";") (sign ";") (λ t u. u ≡ t) l2 _ (one_token (sign ";") l2.tokens) fault f in
    head_goes before l1 head read ∙ at_close l1 l2 64 rest e k (sign ";") []
    ∙ fault_of_one l2.end (inside rest) (sign ";") [] l2.tokens missing.0 ∙ ap Some missing.1) error r

-- ---- items

-- behind the word that begins an item
behind_word : (before l1 : Left) (s : List Symbol) (letters : List ℕ) (t : Token) → before.tokens ≡ t ∷ l1.tokens → l1.end ≡ before.end →
    fits (class.Word letters) (codes "when") ≡ false → Fits (class.Word letters) t → step [] t ≡ Some s →
    fault_at before.end outside [] before.tokens ≡ fault_at l1.end outside s l1.tokens
behind_word before l1 s letters t first same other fit steps =
    ap (fault_at before.end outside []) first
    ∙ fault_behind before.end outside outside [] s t l1.tokens steps (steady_outside (class.Word letters) t other fit)
    ∙ ap (λ end. fault_at end outside s l1.tokens) (sym same)

pub packet_took : (before l1 l2 : Left) (p : syntax.PacketItem) → Takes (word "packet") before l1 true → packet_in l1 ≡ Ok (p, l2) → TookItem before l2 (syntax.Packet p)
packet_took before l1 l2 p (t, first, fit, same) read =
    let a = subst (Agrees {X = Unit {0}} {B = syntax.PacketItem} outside outside (λ x. packet_left) (λ x. []) (λ front p. DerivesItem (t ∷ front) (syntax.Packet p)) l1) read
    (agrees_packet t fit l1) in
    record {
      front = t ∷ a.0;
      tokens = first ∙ ap (λ ts. t ∷ ts) a.1;
      derives = a.3;
      place = a.2 ∙ same;
      goes_on = behind_word before l1 packet_left (codes "packet") t first same refl fit (on_packet t fit) ∙ a.4 tt;
    }

pub packet_stops : (before l1 : Left) (error : ParseError) → Takes (word "packet") before l1 true → Refuses (λ fault. packet_in l1 ≡ Err fault) error →
    Refuses (StopsAt [] before) error
packet_stops before l1 error (t, first, fit, same) r =
    refuses_too (λ fault. packet_in l1 ≡ Err fault) (StopsAt [] before) (λ fault f.
    behind_word before l1 packet_left (codes "packet") t first same refl fit (on_packet t fit)
    ∙ subst (Agrees {X = Unit {0}} {B = syntax.PacketItem} outside outside (λ x. packet_left) (λ x. []) (λ front p. DerivesItem (t ∷ front) (syntax.Packet p)) l1) f
    (agrees_packet t fit l1) tt) error r

pub field_took : (before l1 l2 : Left) (d : syntax.FieldItem) → Takes (word "field") before l1 true → field_in l1 ≡ Ok (d, l2) → TookItem before l2 (syntax.Field d)
field_took before l1 l2 d (t, first, fit, same) read =
    let a = subst (Agrees {X = Unit {0}} {B = syntax.FieldItem} outside outside (λ x. field_left) (λ x. []) (λ front d. DerivesItem (t ∷ front) (syntax.Field d)) l1) read
    (agrees_field t fit l1) in
    record {
      front = t ∷ a.0;
      tokens = first ∙ ap (λ ts. t ∷ ts) a.1;
      derives = a.3;
      place = a.2 ∙ same;
      goes_on = behind_word before l1 field_left (codes "field") t first same refl fit (on_field t fit) ∙ a.4 tt;
    }

pub field_stops : (before l1 : Left) (error : ParseError) → Takes (word "field") before l1 true → Refuses (λ fault. field_in l1 ≡ Err fault) error →
    Refuses (StopsAt [] before) error
field_stops before l1 error (t, first, fit, same) r =
    refuses_too (λ fault. field_in l1 ≡ Err fault) (StopsAt [] before) (λ fault f.
    behind_word before l1 field_left (codes "field") t first same refl fit (on_field t fit)
    ∙ subst (Agrees {X = Unit {0}} {B = syntax.FieldItem} outside outside (λ x. field_left) (λ x. []) (λ front d. DerivesItem (t ∷ front) (syntax.Field d)) l1) f
    (agrees_field t fit l1) tt) error r

pub rule_first : (before l1 l2 : Left) (item : Item) → Takes (word "rule") before l1 true →
    ((t : Token) → Fits (word "rule") t → TookRule t l1 l2 item) → TookItem before l2 item
rule_first before l1 l2 item (t, first, fit, same) took =
    let k = took t fit in
    record {
      front = t ∷ k.front;
      tokens = first ∙ ap (λ ts. t ∷ ts) k.tokens;
      derives = k.derives;
      place = k.place ∙ same;
      goes_on = behind_word before l1 rule_left (codes "rule") t first same refl fit (on_rule t fit) ∙ k.goes_on;
    }

pub rule_stops : (before l1 : Left) (error : ParseError) → Takes (word "rule") before l1 true → Refuses (StopsAt rule_left l1) error →
    Refuses (StopsAt [] before) error
rule_stops before l1 error (t, first, fit, same) r =
    refuses_too (StopsAt rule_left l1) (StopsAt [] before) (λ fault f.
    behind_word before l1 rule_left (codes "rule") t first same refl fit (on_rule t fit) ∙ f) error r

pub takes_is : (wanted : Class) (before left : Left) (b c : Bool) → b ≡ c → Takes wanted before left b → Takes wanted before left c
takes_is wanted before left b c e t = subst (Takes wanted before left) e t

-- what comes behind a first test, said of what came before it
pub takes_past : (wanted other : Class) (before l1 l2 : Left) (b : Bool) → Takes wanted before l1 false → Takes other l1 l2 b → Takes other before l2 b
takes_past wanted other before l1 l2 b (same, none) t = subst (λ l. Takes other l l2 b) same t

-- where no item begins
pub no_item : (before : Left) → is_empty before.tokens ≡ false → begins (word "packet") before.tokens ≡ false → begins (word "field") before.tokens ≡ false →
    begins (word "rule") before.tokens ≡ false → StopsAt [] before (Expected (place before) class.Item)
unfolding begins
no_item before some a b c = go before.tokens some a b c
  where
    go : (ts : List Token) → is_empty ts ≡ false → begins (word "packet") ts ≡ false → begins (word "field") ts ≡ false → begins (word "rule") ts ≡ false →
        fault_at before.end outside [] ts ≡ Some (Expected (place_in before.end ts) class.Item)
    go [] some a b c = absurd (cc some)
    go (t ∷ ts) some a b c =
        fault_here before.end outside [] t ts
        (ap (λ x. cond x (Some packet_left) (cond (fits (word "field") t.text) (Some field_left) (cond (fits (word "rule") t.text) (Some rule_left) None))) a
        ∙ ap (λ x. cond x (Some field_left) (cond (fits (word "rule") t.text) (Some rule_left) None)) b
        ∙ ap (λ x. cond x (Some rule_left) None) c)

-- ---- all items

-- what was read so far
pub record SoFar (end : ℕ) (tokens : List Token) (left : Left) (items : List Item) : Type 0 where
  pub front : List Token
  pub parts : tokens ≡ front ++ left.tokens
  pub derives : DerivesFile front items
  pub place : left.end ≡ end
  pub goes_on : fault_at end outside [] tokens ≡ fault_at left.end outside [] left.tokens

pub none_yet : (end : ℕ) (tokens : List Token) → SoFar end tokens (record { tokens = tokens; end = end }) []
none_yet end tokens = record { front = []; parts = refl; derives = DerivesFile.done; place = refl; goes_on = refl }

one_more : {ts us : List Token} {items : List Item} {item : Item} → DerivesFile ts items → DerivesItem us item → DerivesFile (ts ++ us) (items ++ item ∷ [])
one_more {us = us} {item = item} DerivesFile.done d = subst (λ us. DerivesFile us (item ∷ [])) (append-nil us) (DerivesFile.next d DerivesFile.done)
one_more {us = vs} {item = i} (DerivesFile.next {ts = ts} {us = us} {item = j} {items = js} first others) d =
    subst (λ ts. DerivesFile ts (j ∷ (js ++ i ∷ []))) (sym (append_assoc ts us vs)) (DerivesFile.next first (one_more others d))

pub with_item : (end : ℕ) (tokens : List Token) (left more : Left) (items : List Item) (item : Item) → SoFar end tokens left items → TookItem left more item →
    SoFar end tokens more (items ++ item ∷ [])
with_item end tokens left more items item s k = record {
  front = s.front ++ k.front;
  parts = s.parts ∙ ap (λ ts. s.front ++ ts) k.tokens ∙ sym (append_assoc s.front k.front more.tokens);
  derives = one_more s.derives k.derives;
  place = k.place ∙ s.place;
  goes_on = s.goes_on ∙ k.goes_on;
}

pub all_taken : (end : ℕ) (tokens : List Token) (left : Left) (items : List Item) → SoFar end tokens left items → is_empty left.tokens ≡ true → TookAll end tokens items
unfolding fault_at
all_taken end tokens left items s e = record {
  derives = subst (λ ts. DerivesFile ts items) (sym (s.parts ∙ ap (λ ts. s.front ++ ts) (none left.tokens e) ∙ append-nil s.front)) s.derives;
  no_fault = s.goes_on ∙ ap (fault_at left.end outside []) (none left.tokens e);
}
  where
    none : (ts : List Token) → is_empty ts ≡ true → ts ≡ []
    none [] e = refl
    none (t ∷ ts) e = absurd (cc e)
