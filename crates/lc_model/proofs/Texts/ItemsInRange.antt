-- The numbers of a text's packets and fields, where nothing is refused.
use Rattle.std.proofs.Common.{◌≡◌, refl, sym, ◌∙◌, ap, subst, true≢false, ℕ, zero, suc, ◌<◌, ◌≤◌, ◌^◌, Bool, true, false, cond, ◌||◌, ◌==◌, if◌then◌else◌, nat_lt, List, [], ◌∷◌, ◌++◌, flat_map, filter_map, find, Option, Some, None, option_map, unwrap_or, ℤ, pos, negsuc, int_lt, nat_abs, arith}
use Rattle.std.specs.List.{AllByRecursion, list_any}
use Rattle.std.specs.Ordering.{int_eq}
use Rattle.std.specs.Option.{option_map_or}
use Rattle.std.proofs.lemmas.Bool.Decides.{Decides-int_eq}
use Rattle.lc_model.specs.declared.field.FieldType.{FieldType}
use Rattle.lc_model.specs.Packet.{reserved_mids, first_telemetry_mid, last_telemetry_mid}
use Rattle.lc_model.specs.Field.{full_mask}
use Rattle.lc_model.specs.Text.Token.{Token, at_most_32_bits, with_sign, magnitude, magnitude_text}
use Rattle.lc_model.specs.Text.Syntax.{Number, PacketItem, FieldItem, Item, Packet, Field, Rule}
use Rattle.lc_model.specs.Text.Class.{Class}
use Rattle.lc_model.specs.Text.Grammar as grammar
use Rattle.lc_model.specs.Text.Grammar.{number_of, DerivesOption, DerivesItem, DerivesFile}
use Rattle.lc_model.specs.Text.Meaning.{fault_if, fault_outside, name_faults, packet_faults, field_faults, faults_of, field_of, packet_of}
use Rattle.lc_model.proofs.Facts.{or_neither, or_second, or_first, append_none_first, append_none_second, tested_equal}
use Rattle.lc_model.proofs.FieldTypes.{some_bit}

-- ---- nothing is refused

pub not_refused : (b : Bool) (code at : ℕ) → fault_if b code at ≡ [] → b ≡ false
not_refused true code at e = absurd (cc e)
not_refused false code at e = refl

-- ---- numbers that are read

small : (n : ℕ) → nat_lt n 4294967296 ≡ true → n < 2 ^ 32
small n e = grind (arith, e)

size_of : (negative : Bool) (n : ℕ) → n < 2 ^ 32 → nat_abs (with_sign negative n) < 2 ^ 32
size_of true zero h = h
size_of true (suc n) h = h
size_of false n h = h

read_fits : (negative : Bool) (m : Option ℕ) → nat_abs (unwrap_or (option_map (with_sign negative) (at_most_32_bits m)) (pos 0)) < 2 ^ 32
read_fits negative None = omega arith
read_fits negative (Some n) = by_test (nat_lt n 4294967296) refl
  where
    by_test : (b : Bool) → nat_lt n 4294967296 ≡ b → nat_abs (unwrap_or (option_map (with_sign negative) (if b then Some n else None)) (pos 0)) < 2 ^ 32
    by_test true e = size_of negative n (small n e)
    by_test false e = omega arith

number_small : (t : Token) → nat_abs (number_of t).value < 2 ^ 32
number_small t = read_fits _ (magnitude (magnitude_text t.text))

-- ---- numbers in a range

at_least : (m n : ℕ) → nat_lt n m ≡ false → m ≤ n
at_least m n e = grind (arith, e)

pub record IsBetween (low high : ℕ) (v : ℤ) : Type 0 where
  pub least : low ≤ nat_abs v
  pub most : nat_abs v ≤ high

between : (low high : ℕ) (v : ℤ) → (int_lt v (pos low) || int_lt (pos high) v) ≡ false → IsBetween low high v
between low high (pos n) e = record {
  least = at_least low n (or_first (int_lt (pos n) (pos low)) (int_lt (pos high) (pos n)) e);
  most = at_least n high (or_second (int_lt (pos n) (pos low)) (int_lt (pos high) (pos n)) e);
}
between low high (negsuc n) e = absurd (cc e)

pub number_fits : (low high code : ℕ) (n : Number) → fault_outside low high code n ≡ [] → IsBetween low high n.value
number_fits low high code n e = between low high n.value (not_refused _ code n.at e)

not_same : (m n : ℕ) → int_eq (pos m) (pos n) ≡ false → (m == n) ≡ false
not_same m n e = go (m == n) refl
  where
    go : (b : Bool) → (m == n) ≡ b → (m == n) ≡ false
    go true is = absurd (true≢false (sym ((Decides-int_eq (pos m) (pos n)).1 (ap pos (tested_equal m n is))) ∙ e))
    go false is = is

none_of : (n : ℕ) (ms : List ℕ) → list_any (λ m. int_eq (pos n) (pos m)) ms ≡ false → list_any (◌==◌ n) ms ≡ false
none_of n [] e = refl
none_of n (m ∷ ms) e =
    let others : Bool = list_any (λ m. int_eq (pos n) (pos m)) ms in
    or_neither (n == m) (list_any (◌==◌ n) ms) (not_same n m (or_first (int_eq (pos n) (pos m)) others e)) (none_of n ms (or_second (int_eq (pos n) (pos m)) others e))

not_reserved : (v : ℤ) → 1 ≤ nat_abs v → (int_lt v (pos 0x0800) || int_lt (pos 0x0FFF) v) ≡ false →
    list_any (λ mid. int_eq v (pos mid)) reserved_mids ≡ false → list_any (◌==◌ (nat_abs v)) reserved_mids ≡ false
not_reserved (pos n) some range e = none_of n reserved_mids e
not_reserved (negsuc n) some range e = absurd (cc range)

-- ---- fields

-- the offset and the stale age have 32 bits
pub record FitsField (f : FieldItem) : Type 0 where
  pub offset : nat_abs f.offset.value < 2 ^ 32
  pub stale : option_map_or (λ (s : Number). nat_abs s.value) f.stale 0 < 2 ^ 32

-- the mask is some of the type's bits
abbrev pub HasMask : FieldItem → Type 0
HasMask f = (1 ≤ option_map_or (λ (m : Number). nat_abs m.value) f.mask (full_mask f.kind))
    × (option_map_or (λ (m : Number). nat_abs m.value) f.mask (full_mask f.kind) ≤ full_mask f.kind)

-- what holds of an item that is a field, or a packet
abbrev pub OfField : (FieldItem → Type 0) → Item → Type 0
OfField P (Packet p) = Unit {0}
OfField P (Field f) = P f
OfField P (Rule r) = Unit {0}

abbrev pub OfPacket : (PacketItem → Type 0) → Item → Type 0
OfPacket P (Packet p) = P p
OfPacket P (Field f) = Unit {0}
OfPacket P (Rule r) = Unit {0}

option_small : {word : Class} {ts : List Token} {o : Option Number} → DerivesOption word ts o → option_map_or (λ (m : Number). nat_abs m.value) o 0 < 2 ^ 32
option_small grammar.DerivesOption.absent = omega arith
option_small (grammar.DerivesOption.present {n = n} phrase) = number_small n

item_fits : {ts : List Token} {item : Item} → DerivesItem ts item → OfField FitsField item
item_fits (grammar.DerivesItem.packet phrase) = tt
item_fits (grammar.DerivesItem.field {o = o} e phrase type masks stales end) = record { offset = number_small o; stale = option_small stales }
item_fits (grammar.DerivesItem.rule w e phrase a b c d f g) = tt

pub fields_fit : {ts : List Token} {items : List Item} → DerivesFile ts items → AllByRecursion (OfField FitsField) items
fields_fit grammar.DerivesFile.done = tt
fields_fit (grammar.DerivesFile.next item others) = (item_fits item, fields_fit others)

mask_in_range : (k : FieldType) (o : Option Number) → option_map_or (fault_outside 1 (full_mask k) 26) o [] ≡ [] →
    (1 ≤ option_map_or (λ (m : Number). nat_abs m.value) o (full_mask k)) × (option_map_or (λ (m : Number). nat_abs m.value) o (full_mask k) ≤ full_mask k)
mask_in_range k None e = (some_bit k, omega arith)
mask_in_range k (Some m) e = let is : IsBetween 1 (full_mask k) m.value = number_fits 1 (full_mask k) 26 m e in (is.least, is.most)

masked : (items : List Item) (item : Item) → faults_of items item ≡ [] → OfField HasMask item
masked items (Packet p) e = tt
masked items (Field f) e =
    let own : field_faults items f ≡ [] = append_none_second (name_faults items (Field f)) (field_faults items f) e in
    let masks = option_map_or (fault_outside 1 (full_mask f.kind) 26) f.mask [] in
    mask_in_range f.kind f.mask (append_none_second _ masks (append_none_first _ _ own))
masked items (Rule r) e = tt

-- ---- packets

-- a message id of telemetry that isn't the host's own
pub record HasMid (p : PacketItem) : Type 0 where
  pub range : (0x0800 ≤ nat_abs p.mid.value) × (nat_abs p.mid.value ≤ 0x0FFF)
  pub free : list_any (◌==◌ (nat_abs p.mid.value)) reserved_mids ≡ false

mid_in_range : (p : PacketItem) → packet_faults p ≡ [] → HasMid p
mid_in_range p e =
    let outside = fault_outside first_telemetry_mid last_telemetry_mid 23 p.mid in
    let reserved = fault_if (list_any (λ mid. int_eq p.mid.value (pos mid)) reserved_mids) 24 p.mid.at in
    let both : outside ++ reserved ≡ [] = append_none_first (outside ++ reserved) (fault_outside 12 2048 29 p.length) e in
    let range : IsBetween 0x0800 0x0FFF p.mid.value = number_fits 0x0800 0x0FFF 23 p.mid (append_none_first outside reserved both) in
    record {
      range = (range.least, range.most);
      free = not_reserved p.mid.value (omega (arith, range.least)) (not_refused _ 23 p.mid.at (append_none_first outside reserved both))
          (not_refused _ 24 p.mid.at (append_none_second outside reserved both));
    }

identified : (items : List Item) (item : Item) → faults_of items item ≡ [] → OfPacket HasMid item
identified items (Packet p) e = mid_in_range p (append_none_second (name_faults items (Packet p)) (packet_faults p) e)
identified items (Field f) e = tt
identified items (Rule r) e = tt

-- ---- all items

each_item : (P : Item → Type 0) (items others : List Item) → ((item : Item) → faults_of items item ≡ [] → P item) →
    flat_map (faults_of items) others ≡ [] → AllByRecursion P others
each_item P items [] holds e = tt
each_item P items (item ∷ others) holds e = (
  holds item (append_none_first (faults_of items item) (flat_map (faults_of items) others) e),
  each_item P items others holds (append_none_second (faults_of items item) (flat_map (faults_of items) others) e),
)

pub all_masked : (items : List Item) → flat_map (faults_of items) items ≡ [] → AllByRecursion (OfField HasMask) items
all_masked items e = each_item (OfField HasMask) items items (masked items) e

pub all_identified : (items : List Item) → flat_map (faults_of items) items ≡ [] → AllByRecursion (OfPacket HasMid) items
all_identified items e = each_item (OfPacket HasMid) items items (identified items) e

pub field_found : (P : FieldItem → Type 0) (test : FieldItem → Bool) (items : List Item) → AllByRecursion (OfField P) items → (f : FieldItem) →
    find test (filter_map field_of items) ≡ Some f → P f
field_found P test [] all f e = absurd (cc e)
field_found P test (Packet p ∷ items) all f e = field_found P test items all.1 f e
field_found P test (Rule r ∷ items) all f e = field_found P test items all.1 f e
field_found P test (Field g ∷ items) all f e = by_test (test g) (field_found P test items all.1 f) e
  where
    by_test : (b : Bool) → (find test (filter_map field_of items) ≡ Some f → P f) → cond b (Some g) (find test (filter_map field_of items)) ≡ Some f → P f
    by_test true others same = let is : g ≡ f = cc same in subst P is all.0
    by_test false others other = others other

pub packet_found : (P : PacketItem → Type 0) (test : PacketItem → Bool) (items : List Item) → AllByRecursion (OfPacket P) items → (p : PacketItem) →
    find test (filter_map packet_of items) ≡ Some p → P p
packet_found P test [] all p e = absurd (cc e)
packet_found P test (Field f ∷ items) all p e = packet_found P test items all.1 p e
packet_found P test (Rule r ∷ items) all p e = packet_found P test items all.1 p e
packet_found P test (Packet q ∷ items) all p e = by_test (test q) (packet_found P test items all.1 p) e
  where
    by_test : (b : Bool) → (find test (filter_map packet_of items) ≡ Some p → P p) → cond b (Some q) (find test (filter_map packet_of items)) ≡ Some p → P p
    by_test true others same = let is : q ≡ p = cc same in subst P is all.0
    by_test false others other = others other
