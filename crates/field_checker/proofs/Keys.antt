-- A map by the keys of names, with another value at one name.
use Rattle.std.proofs.Common.{◌≡◌, refl, sym, ap, subst, ◌∙◌, ℕ, Bool, true, false, cond, List, Option, bytes_eq, true≢false}
use Rattle.std.specs.declared.cmp.Ordering.{Ordering}
use Rattle.std.specs.declared.cmp.Ordering.TheVariants.{Less, Equal, Greater}
use Rattle.std.specs.Ordering.{is_eq, nat_cmp, ordering_then, eq_by_cmp}
use Rattle.std.specs.Cmp.{IsTotalOrder, nat_cmp_total, on_total, then_total, eq_by_cmp_equiv}
use Rattle.std.specs.Cmp.Lexicographic.{slice_cmp, nat_list_cmp_total}
use Rattle.std.specs.BTreeMap.{BTreeMap, UpdatesBy, get_by}
use Rattle.std.specs.Map.{KeepsOthers, IsKeyTest, AreApart, lookup}
use Rattle.std.proofs.lemmas.Map.Text.{is_eq-slice_cmp}
use Rattle.std.proofs.lemmas.Slice.Eq.{bytes_eq-Decides}
use denote.Ref.{Bor}
use Rattle.field_checker.specs.Index.{spread, compared, at_name}

-- how two keys compare
abbrev pub keys_compared : ℕ × Bor (List ℕ) → ℕ × Bor (List ℕ) → Ordering
keys_compared x y = ordering_then (nat_cmp x.0 y.0) (slice_cmp nat_cmp x.1.now y.1.now)

-- numbers and bytes are in a total order
in_order : IsTotalOrder (λ (x y : ℕ × List ℕ). ordering_then (nat_cmp x.0 y.0) (slice_cmp nat_cmp x.1 y.1))
in_order = then_total (on_total (λ (t : ℕ × List ℕ). t.0) nat_cmp_total) (on_total (λ (t : ℕ × List ℕ). t.1) nat_list_cmp_total)

second_equal : (a b : Ordering) → is_eq (ordering_then a b) ≡ true → is_eq b ≡ true
second_equal Less b e = absurd (true≢false (sym e))
second_equal Equal b e = e
second_equal Greater b e = absurd (true≢false (sym e))

-- a key that is a name's has its bytes
bytes_are : (text : List ℕ) (key : ℕ × Bor (List ℕ)) → is_eq (compared text key) ≡ true → text ≡ key.1.now
bytes_are text key e =
    (bytes_eq-Decides text key.1.now).0 (sym (is_eq-slice_cmp text key.1.now) ∙ second_equal (nat_cmp (spread text) key.0) (slice_cmp nat_cmp text key.1.now) e)

-- so it is no other name's
apart : (text other : List ℕ) (key : ℕ × Bor (List ℕ)) → bytes_eq text other ≡ false → is_eq (compared text key) ≡ true → is_eq (compared other key) ≡ false
apart text other key differ e = by_test (is_eq (compared other key)) refl
  where
    by_test : (b : Bool) → is_eq (compared other key) ≡ b → b ≡ false
    by_test true is = absurd (true≢false (sym ((bytes_eq-Decides text other).1 (bytes_are text key e ∙ sym (bytes_are other key is))) ∙ differ))
    by_test false is = refl

other_entries : {X : Type 0} (eq : ℕ × Bor (List ℕ) → ℕ × Bor (List ℕ) → Bool) (test other : ℕ × Bor (List ℕ) → Bool) (old new : List ((ℕ × Bor (List ℕ)) × X)) →
    KeepsOthers eq test old new → IsKeyTest eq other → AreApart test other → lookup other new ≡ lookup other old
unfolding KeepsOthers
other_entries eq test other old new keeps is_test are_apart = keeps other is_test are_apart

-- the value at this name, and what was there at any other
updated : {X : Type 0} (name : List ℕ) (old new : BTreeMap (ℕ × Bor (List ℕ)) X) (value : Option X) → UpdatesBy keys_compared (compared name) old new value →
    (text : List ℕ) → at_name new text ≡ cond (bytes_eq name text) value (at_name old text)
updated {X} name old new value updates text = by_test (bytes_eq name text) refl
  where
    by_test : (b : Bool) → bytes_eq name text ≡ b → at_name new text ≡ cond b value (at_name old text)
    by_test true same = ap (at_name new) (sym ((bytes_eq-Decides name text).0 same)) ∙ updates.1
    by_test false differ =
        other_entries (eq_by_cmp keys_compared) (λ key. is_eq (compared name key)) (λ key. is_eq (compared text key)) old.entries new.entries updates.3
        (λ x y. (eq_by_cmp_equiv in_order).congr (spread text, text) (x.0, x.1.now) (y.0, y.1.now))
        (λ key. apart name text key differ)

-- a key compares as the name that it is of
pub compares_as : (name : List ℕ) (key : ℕ × Bor (List ℕ)) → key.0 ≡ spread name → key.1.now ≡ name → keys_compared key ≡ compared name
compares_as name key number bytes = λ i other. ordering_then (nat_cmp (number i) other.0) (slice_cmp nat_cmp (bytes i) other.1.now)

-- what is found at a name where the change is at the name's key
pub updated_at : {X : Type 0} (name : List ℕ) (key : ℕ × Bor (List ℕ)) (old new : BTreeMap (ℕ × Bor (List ℕ)) X) (value : Option X) → key.0 ≡ spread name → key.1.now ≡ name →
    UpdatesBy keys_compared (keys_compared key) old new value → (text : List ℕ) → at_name new text ≡ cond (bytes_eq name text) value (at_name old text)
updated_at {X} name key old new value number bytes updates =
    updated name old new value (subst (λ compare. UpdatesBy keys_compared compare old new value) (compares_as name key number bytes) updates)

-- what stood at the name of a key
pub stood_at : {X : Type 0} (name : List ℕ) (key : ℕ × Bor (List ℕ)) (map : BTreeMap (ℕ × Bor (List ℕ)) X) (found : Option X) → key.0 ≡ spread name → key.1.now ≡ name →
    found ≡ get_by (keys_compared key) map → at_name map name ≡ found
stood_at name key map found number bytes is = sym (is ∙ ap (λ compare. get_by compare map) (compares_as name key number bytes))
