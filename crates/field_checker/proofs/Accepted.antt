-- What is known of items of which nothing is refused.
use Rattle.std.proofs.Common.{◌≡◌, sym, ◌∙◌, ap, subst, ◌^◌, ℕ, zero, suc, ◌+◌, ◌*◌, ◌<◌, ◌≤◌, Bool, true, false, cond, ◌||◌, List, [], ◌∷◌, ◌++◌, Option, Some, ℤ, pos, negsuc, bytes_eq, length, get_or, arith}
use Rattle.std.specs.Prelude.{nat_abs, int_lt, is_none, flat_map}
use Rattle.std.proofs.lemmas.Bool.Decides.{nat_tests}
use Rattle.lc_model.specs.Condition.{Operator}
use Rattle.lc_model.specs.Text.Token.{Token}
use Rattle.lc_model.specs.Text.Syntax as model
use Rattle.lc_model.specs.Text.Meaning.{TextFault, fault_outside, faults, faults_of, name_faults, packet_faults, field_faults, condition_faults, packet_named, field_named}
use Rattle.lc_model.proofs.Facts.{append_none_first, append_none_second, some_same}
use Rattle.lc_model.proofs.Texts.ItemsInRange.{not_refused}

-- ---- lists of faults

-- nothing of the item at an index is refused
pub clean_at : {A : Type 0} (f : A → List TextFault) (xs : List A) (i : ℕ) (d : A) → i < length xs → flat_map f xs ≡ [] → f (get_or xs i d) ≡ []
clean_at f [] i d lt e = absurd (omega (arith, lt))
clean_at f (x ∷ xs) zero d lt e = append_none_first (f x) (flat_map f xs) e
clean_at f (x ∷ xs) (suc i) d lt e = clean_at f xs i d (omega (arith, lt)) (append_none_second (f x) (flat_map f xs) e)

-- ---- numbers

at_most : (low high : ℕ) (z : ℤ) → (int_lt z (pos low) || int_lt (pos high) z) ≡ false → nat_abs z ≤ high
at_most low high (pos n) e = grind (arith, nat_tests, e)
at_most low high (negsuc n) e = absurd (cc e)

pub at_most_outside : (low high code : ℕ) (n : model.Number) → fault_outside low high code n ≡ [] → nat_abs n.value ≤ high
at_most_outside low high code n e = at_most low high n.value (not_refused _ code n.at e)

-- ---- names

-- the first that passes, or one behind it
found : {A : Type 0} (P : A → Type 0) (b : Bool) (x y : A) (behind : Option A) → P x → (behind ≡ Some y → P y) → cond b (Some x) behind ≡ Some y → P y
found P true x y behind here there e = subst P (some_same x y e) here
found P false x y behind here there e = there e

-- nothing is refused of the packet, and of the field, that a name names
packet_among : (items others : List model.Item) (name : Token) (p : model.PacketItem) → flat_map (faults_of items) others ≡ [] →
    packet_named others name ≡ Some p → packet_faults p ≡ []
packet_among items [] name p clean e = absurd (cc e)
packet_among items (model.Packet q ∷ others) name p clean e =
    found (λ p. packet_faults p ≡ []) (bytes_eq q.name.text name.text) q p (packet_named others name)
    (append_none_second (name_faults items (model.Packet q)) (packet_faults q)
    (append_none_first (faults_of items (model.Packet q)) (flat_map (faults_of items) others) clean))
    (packet_among items others name p (append_none_second (faults_of items (model.Packet q)) (flat_map (faults_of items) others) clean)) e
packet_among items (model.Field f ∷ others) name p clean e =
    packet_among items others name p (append_none_second (faults_of items (model.Field f)) (flat_map (faults_of items) others) clean) e
packet_among items (model.Rule r ∷ others) name p clean e =
    packet_among items others name p (append_none_second (faults_of items (model.Rule r)) (flat_map (faults_of items) others) clean) e

field_among : (items others : List model.Item) (name : Token) (f : model.FieldItem) → flat_map (faults_of items) others ≡ [] →
    field_named others name ≡ Some f → field_faults items f ≡ []
field_among items [] name f clean e = absurd (cc e)
field_among items (model.Field g ∷ others) name f clean e =
    found (λ f. field_faults items f ≡ []) (bytes_eq g.name.text name.text) g f (field_named others name)
    (append_none_second (name_faults items (model.Field g)) (field_faults items g)
    (append_none_first (faults_of items (model.Field g)) (flat_map (faults_of items) others) clean))
    (field_among items others name f (append_none_second (faults_of items (model.Field g)) (flat_map (faults_of items) others) clean)) e
field_among items (model.Packet p ∷ others) name f clean e =
    field_among items others name f (append_none_second (faults_of items (model.Packet p)) (flat_map (faults_of items) others) clean) e
field_among items (model.Rule r ∷ others) name f clean e =
    field_among items others name f (append_none_second (faults_of items (model.Rule r)) (flat_map (faults_of items) others) clean) e

-- the packet of a field is there, and its message id has 16 bits
pub packet_is_there : (items : List model.Item) (name : Token) (f : model.FieldItem) → faults items ≡ [] → field_named items name ≡ Some f →
    is_none (packet_named items f.packet) ≡ false
packet_is_there items name f clean e =
    not_refused _ 22 f.packet.at (append_none_first _ _ (append_none_first _ _ (append_none_first _ _ (field_among items items name f clean e))))

pub mid_is_short : (items : List model.Item) (name : Token) (p : model.PacketItem) → faults items ≡ [] → packet_named items name ≡ Some p →
    nat_abs p.mid.value < 2 ^ 16
mid_is_short items name p clean e =
    let most = at_most_outside 0x0800 0x0FFF 23 p.mid (append_none_first _ _ (append_none_first _ _ (packet_among items items name p clean e))) in omega arith

-- ---- conditions

-- how many operators and comparisons
abbrev pub size : model.Expression → ℕ
size (model.Compare name op n) = 1
size (model.Not e) = size e + 1
size (model.Join o a b) = size a + size b + 1

-- operands are smaller, and nothing of them is refused
pub record AreCleanOperands (items : List model.Item) (whole first second : model.Expression) : Type 0 where
  pub smaller : 2 * (size first + size second) + 1 < 2 * size whole
  pub first_clean : condition_faults items first ≡ []
  pub second_clean : condition_faults items second ≡ []

pub operands_clean : (items : List model.Item) (o : Operator) (a b whole first second : model.Expression) → whole ≡ model.Join o a b → first ≡ a → second ≡ b →
    condition_faults items whole ≡ [] → AreCleanOperands items whole first second
operands_clean items o a b whole first second is one two clean =
    let sizes : size whole ≡ size a + size b + 1 = ap size is in
    let size_one : size first ≡ size a = ap size one in
    let size_two : size second ≡ size b = ap size two in
    let none : condition_faults items a ++ condition_faults items b ≡ [] = sym (ap (condition_faults items) is) ∙ clean in record {
      smaller = omega arith;
      first_clean = ap (condition_faults items) one ∙ append_none_first (condition_faults items a) (condition_faults items b) none;
      second_clean = ap (condition_faults items) two ∙ append_none_second (condition_faults items a) (condition_faults items b) none;
    }
