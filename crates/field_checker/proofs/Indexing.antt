-- How an index takes in one more item.
use Rattle.std.proofs.Common.{◌≡◌, refl, sym, ◌∙◌, ap, ℕ, Bool, true, false, cond, ◌&&◌, ◌||◌, List, [], ◌∷◌, ◌++◌, Option, Some, None, bytes_eq, nat_lt, arith}
use Rattle.std.specs.Prelude.{min, option_map, option_and_then, find, filter_map}
use Rattle.std.specs.Option.{option_or}
use Rattle.std.specs.List.{list_any}
use Rattle.std.proofs.lemmas.Bool.Decides.{nat_tests}
use Rattle.std.proofs.lemmas.List.Folds.{find-append, list_any-append}
use Rattle.std.proofs.lemmas.List.Elements.{filter_map-append}
use Rattle.std.proofs.lemmas.Slice.Eq.{bytes_eq-Decides}
use Rattle.lc_model.proofs.Facts.{or_false}
use Rattle.lc_model.specs.Text.Token.{Token}
use Rattle.lc_model.specs.Text.Syntax as model
use Rattle.lc_model.specs.Text.Meaning.{name_of, packet_of, field_of, is_earlier, packet_named, field_named}
use Rattle.rule_parser.specs.Syntax as syntax
use Rattle.field_checker.specs.declared.index.Declared.{Declared}
use Rattle.field_checker.specs.declared.index.Index.{Index}
use Rattle.field_checker.specs.Index.{at_name, both, is_before, is_named_before, is_rule_before, joined, Declares, IsIndexOf}

-- ---- one name

joined_none : (o : Option Declared) → o ≡ joined o None
joined_none None = refl
joined_none (Some d) = refl

-- what is declared at a name where nothing stood
pub new_put : (old : List ℕ → Option Declared) (name text : List ℕ) (d : Declared) → old name ≡ None →
    cond (bytes_eq name text) (Some d) (old text) ≡ joined (old text) (cond (bytes_eq name text) (Some d) None)
new_put old name text d none = by_test (bytes_eq name text) refl
  where
    empty : (o : Option Declared) → o ≡ None → Some d ≡ joined o (Some d)
    empty None e = refl
    empty (Some x) e = absurd (cc e)

    by_test : (b : Bool) → bytes_eq name text ≡ b → cond b (Some d) (old text) ≡ joined (old text) (cond b (Some d) None)
    by_test true e = empty (old text) (ap old (sym ((bytes_eq-Decides name text).0 e)) ∙ none)
    by_test false e = joined_none (old text)

-- what is declared in the place of what stood at its name, and then both
pub both_put : (old middle new : List ℕ → Option Declared) (name text : List ℕ) (d before after : Declared) → old name ≡ Some before → after ≡ both before d →
    middle text ≡ cond (bytes_eq name text) (Some d) (old text) → new text ≡ cond (bytes_eq name text) (Some after) (middle text) →
    new text ≡ joined (old text) (cond (bytes_eq name text) (Some d) None)
both_put old middle new name text d before after was is put back =
    back ∙ (ap (cond (bytes_eq name text) (Some after)) put ∙ by_test (bytes_eq name text) refl)
  where
    stood : (o : Option Declared) → o ≡ Some before → Some after ≡ joined o (Some d)
    stood None e = absurd (cc e)
    stood (Some x) e = ap Some is ∙ ap (λ o. joined o (Some d)) (sym e)

    by_test : (b : Bool) → bytes_eq name text ≡ b → cond b (Some after) (cond b (Some d) (old text)) ≡ joined (old text) (cond b (Some d) None)
    by_test true e = stood (old text) (ap old (sym ((bytes_eq-Decides name text).0 e)) ∙ was)
    by_test false e = joined_none (old text)

-- a place at a name where none stood
pub least_put : (old : List ℕ → Option ℕ) (name text : List ℕ) (place at : ℕ) → old name ≡ None →
    is_before (cond (bytes_eq name text) (Some place) (old text)) at ≡ (is_before (old text) at || (bytes_eq name text && nat_lt place at))
least_put old name text place at none = by_test (bytes_eq name text) refl
  where
    empty : (o : Option ℕ) → o ≡ None → nat_lt place at ≡ (is_before o at || nat_lt place at)
    empty None e = refl
    empty (Some least) e = absurd (cc e)

    by_test : (b : Bool) → bytes_eq name text ≡ b → is_before (cond b (Some place) (old text)) at ≡ (is_before (old text) at || (b && nat_lt place at))
    by_test true e = empty (old text) (ap old (sym ((bytes_eq-Decides name text).0 e)) ∙ none)
    by_test false e = sym (or_false (is_before (old text) at))

-- the lesser of the place and the one that stood at its name
pub least_kept : (old middle new : List ℕ → Option ℕ) (name text : List ℕ) (place least lesser at : ℕ) → old name ≡ Some least → lesser ≡ min least place →
    middle text ≡ cond (bytes_eq name text) (Some place) (old text) → new text ≡ cond (bytes_eq name text) (Some lesser) (middle text) →
    is_before (new text) at ≡ (is_before (old text) at || (bytes_eq name text && nat_lt place at))
least_kept old middle new name text place least lesser at was is put back =
    ap (λ o. is_before o at) (back ∙ ap (cond (bytes_eq name text) (Some lesser)) put) ∙ by_test (bytes_eq name text) refl
  where
    below : nat_lt lesser at ≡ (nat_lt least at || nat_lt place at)
    below = grind (arith, nat_tests, is)

    stood : (o : Option ℕ) → o ≡ Some least → nat_lt lesser at ≡ (is_before o at || nat_lt place at)
    stood None e = absurd (cc e)
    stood (Some x) e = below ∙ ap (λ o. is_before o at || nat_lt place at) (sym e)

    by_test : (b : Bool) → bytes_eq name text ≡ b →
        is_before (cond b (Some lesser) (cond b (Some place) (old text))) at ≡ (is_before (old text) at || (b && nat_lt place at))
    by_test true e = stood (old text) (ap old (sym ((bytes_eq-Decides name text).0 e)) ∙ was)
    by_test false e = sym (or_false (is_before (old text) at))

-- ---- the parts of what is declared

or_none : {A : Type 0} (a : Option A) → a ≡ option_or a None
or_none None = refl
or_none (Some x) = refl

cond_same : {A : Type 0} (b : Bool) (a : A) → a ≡ cond b a a
cond_same true a = refl
cond_same false a = refl

map_or : {A B : Type 0} (f : A → B) (a b : Option A) → option_map f (option_or a b) ≡ option_or (option_map f a) (option_map f b)
map_or f None b = refl
map_or f (Some x) b = refl

places_joined : (o : Option Declared) (b : Bool) (d : Declared) (at : ℕ) →
    is_before (option_map (λ d. d.least) (joined o (cond b (Some d) None))) at ≡ (is_before (option_map (λ d. d.least) o) at || (b && nat_lt d.least at))
places_joined None true d at = refl
places_joined None false d at = refl
places_joined (Some x) true d at = lesser x.least d.least
  where
    lesser : (m n : ℕ) → nat_lt (min m n) at ≡ (nat_lt m at || nat_lt n at)
    lesser m n = grind (arith, nat_tests)
places_joined (Some x) false d at = sym (or_false (nat_lt x.least at))

-- what stands first, seen by a function
part_joined : {A B : Type 0} (f : A → B) (part : Declared → Option A) → ((x y : Declared) → part (both x y) ≡ option_or (part x) (part y)) →
    (o : Option Declared) (b : Bool) (d : Declared) →
    option_map f (option_and_then part (joined o (cond b (Some d) None))) ≡ option_or (option_map f (option_and_then part o)) (cond b (option_map f (part d)) None)
part_joined f part first None true d = refl
part_joined f part first None false d = refl
part_joined f part first (Some x) true d = ap (option_map f) (first x d) ∙ map_or f (part x) (part d)
part_joined f part first (Some x) false d = or_none (option_map f (part x))

-- ---- one item

-- what is found among some items and one more
packet_alone : (item : model.Item) (name : Token) → packet_named (item ∷ []) name ≡ cond (bytes_eq (name_of item).text name.text) (packet_of item) None
packet_alone (model.Packet p) name = refl
packet_alone (model.Field f) name = cond_same (bytes_eq f.name.text name.text) None
packet_alone (model.Rule r) name = cond_same (bytes_eq r.name.text name.text) None

packet_more : (items : List model.Item) (item : model.Item) (name : Token) →
    packet_named (items ++ item ∷ []) name ≡ option_or (packet_named items name) (cond (bytes_eq (name_of item).text name.text) (packet_of item) None)
packet_more items item name =
    ap (find (λ p. bytes_eq p.name.text name.text)) (filter_map-append packet_of items (item ∷ []))
    ∙ (find-append (λ p. bytes_eq p.name.text name.text) (filter_map packet_of items) (filter_map packet_of (item ∷ []))
    ∙ ap (option_or (packet_named items name)) (packet_alone item name))

field_alone : (item : model.Item) (name : Token) → field_named (item ∷ []) name ≡ cond (bytes_eq (name_of item).text name.text) (field_of item) None
field_alone (model.Packet p) name = cond_same (bytes_eq p.name.text name.text) None
field_alone (model.Field f) name = refl
field_alone (model.Rule r) name = cond_same (bytes_eq r.name.text name.text) None

field_more : (items : List model.Item) (item : model.Item) (name : Token) →
    field_named (items ++ item ∷ []) name ≡ option_or (field_named items name) (cond (bytes_eq (name_of item).text name.text) (field_of item) None)
field_more items item name =
    ap (find (λ f. bytes_eq f.name.text name.text)) (filter_map-append field_of items (item ∷ []))
    ∙ (find-append (λ f. bytes_eq f.name.text name.text) (filter_map field_of items) (filter_map field_of (item ∷ []))
    ∙ ap (option_or (field_named items name)) (field_alone item name))

earlier_more : (items : List model.Item) (item : model.Item) (name : Token) →
    list_any (λ other. is_earlier (name_of other) name) (items ++ item ∷ [])
    ≡ (list_any (λ other. is_earlier (name_of other) name) items || is_earlier (name_of item) name)
earlier_more items item name =
    list_any-append (λ other. is_earlier (name_of other) name) items (item ∷ [])
    ∙ ap (λ b. list_any (λ other. is_earlier (name_of other) name) items || b) (or_false (is_earlier (name_of item) name))

-- an index with one packet or field more
pub declared : (old new : Index) (items : List model.Item) (item : model.Item) (d : Declared) → IsIndexOf old items → Declares item d → new.rules ≡ old.rules →
    ((text : List ℕ) → at_name new.named text ≡ joined (at_name old.named text) (cond (bytes_eq (name_of item).text text) (Some d) None)) →
    IsIndexOf new (items ++ item ∷ [])
declared old new items item d index is same put = record {
  places = λ text at.
      let test = bytes_eq (name_of item).text text in
      ap (λ o. is_before (option_map (λ d. d.least) o) at || is_before (at_name new.rules text) at) (put text)
      ∙ (ap (λ b. b || is_before (at_name new.rules text) at) (places_joined (at_name old.named text) test d at)
      ∙ (ap (λ rules. (is_named_before old text at || (test && nat_lt d.least at)) || is_before (at_name rules text) at) same
      ∙ (ap (λ least. (is_named_before old text at || (test && nat_lt least at)) || is_rule_before old text at) is.least
      ∙ (last_of_three (is_named_before old text at) (test && nat_lt (name_of item).at at) (is_rule_before old text at)
      ∙ (ap (λ b. b || (test && nat_lt (name_of item).at at)) (index.places text at)
      ∙ sym (earlier_more items item (record { at = at; text = text })))))));
  packets = λ text at.
      let test = bytes_eq (name_of item).text text in
      ap (λ o. option_map (λ p. syntax.packet_of p.now) (option_and_then (λ d. d.packet) o)) (put text)
      ∙ (part_joined (λ p. syntax.packet_of p.now) (λ d. d.packet) (λ x y. refl) (at_name old.named text) test d
      ∙ (ap (λ o. option_or (option_map (λ p. syntax.packet_of p.now) (option_and_then (λ d. d.packet) (at_name old.named text))) (cond test o None)) is.packet
      ∙ (ap (λ o. option_or o (cond test (packet_of item) None)) (index.packets text at)
      ∙ sym (packet_more items item (record { at = at; text = text })))));
  fields = λ text at.
      let test = bytes_eq (name_of item).text text in
      ap (λ o. option_map (λ f. syntax.field_of f.now) (option_and_then (λ d. d.field) o)) (put text)
      ∙ (part_joined (λ f. syntax.field_of f.now) (λ d. d.field) (λ x y. refl) (at_name old.named text) test d
      ∙ (ap (λ o. option_or (option_map (λ f. syntax.field_of f.now) (option_and_then (λ d. d.field) (at_name old.named text))) (cond test o None)) is.field
      ∙ (ap (λ o. option_or o (cond test (field_of item) None)) (index.fields text at)
      ∙ sym (field_more items item (record { at = at; text = text })))));
}
  where
    last_of_three : (a b c : Bool) → ((a || b) || c) ≡ ((a || c) || b)
    last_of_three true b c = refl
    last_of_three false true true = refl
    last_of_three false true false = refl
    last_of_three false false true = refl
    last_of_three false false false = refl

-- an index with one rule more
pub rule_declared : (old new : Index) (items : List model.Item) (r : model.RuleItem) → IsIndexOf old items → new.named ≡ old.named →
    ((text : List ℕ) (at : ℕ) → is_rule_before new text at ≡ (is_rule_before old text at || (bytes_eq r.name.text text && nat_lt r.name.at at))) →
    IsIndexOf new (items ++ model.Rule r ∷ [])
rule_declared old new items r index same put = record {
  places = λ text at.
      let test = bytes_eq r.name.text text && nat_lt r.name.at at in
      ap (λ b. is_named_before new text at || b) (put text at)
      ∙ (ap (λ named. is_before (option_map (λ d. d.least) (at_name named text)) at || (is_rule_before old text at || test)) same
      ∙ (or_assoc (is_named_before old text at) (is_rule_before old text at) test
      ∙ (ap (λ b. b || test) (index.places text at) ∙ sym (earlier_more items (model.Rule r) (record { at = at; text = text })))));
  packets = λ text at.
      ap (λ named. option_map (λ p. syntax.packet_of p.now) (option_and_then (λ d. d.packet) (at_name named text))) same
      ∙ (index.packets text at ∙ (or_none (packet_named items (record { at = at; text = text }))
      ∙ (ap (option_or (packet_named items (record { at = at; text = text }))) (cond_same (bytes_eq r.name.text text) None)
      ∙ sym (packet_more items (model.Rule r) (record { at = at; text = text })))));
  fields = λ text at.
      ap (λ named. option_map (λ f. syntax.field_of f.now) (option_and_then (λ d. d.field) (at_name named text))) same
      ∙ (index.fields text at ∙ (or_none (field_named items (record { at = at; text = text }))
      ∙ (ap (option_or (field_named items (record { at = at; text = text }))) (cond_same (bytes_eq r.name.text text) None)
      ∙ sym (field_more items (model.Rule r) (record { at = at; text = text })))));
}
  where
    or_assoc : (a b c : Bool) → (a || (b || c)) ≡ ((a || b) || c)
    or_assoc true b c = refl
    or_assoc false b c = refl
