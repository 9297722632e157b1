-- A name that no seat has is unused.
use Rattle.std.proofs.Common.{◌≡◌, ◌≢◌, refl, ap, sym, ◌∙◌, subst, ℕ, suc, ◌+◌, Bool, true, false, List, [], ◌∷◌, ◌++◌, length, take, arith, Option, Some, None}
use Rattle.std.specs.Prelude.{IfSome, IsTrue, IsFalse, slice_index_or, if◌then◌else◌}
use Rattle.std.specs.List.{AllByRecursion}
use Rattle.std.proofs.lemmas.Slice.Eq.{bytes_eq-Decides}
use Rattle.lc_model.specs.Name.{Name, is_named}
use Rattle.lc_model.specs.Services.Events.{Sender, events_among, sender_at}
use Rattle.lc_model.specs.Services.Tables.{Table, tables_at}
use Rattle.lc_model.specs.Services.Interface.{dot, IsApplicationName, is_table_of, IsUnusedName}
use Rattle.app_host.specs.declared.services.Services.{Services}
use Rattle.app_host.specs.Shared.{held_by}
use Rattle.app_host.specs.Hosted.{Object, object_at}
use Rattle.app_host.specs.Whole.{IsRunning, AreSeated}

-- ---- a table's name begins with one application's name alone

abbrev Plain : List ℕ → Type 0
Plain name = AllByRecursion (λ (byte : ℕ). (byte ≢ 0) × (byte ≢ dot)) name

abbrev begun : List ℕ → List ℕ → Type 0
begun name table = take (suc (length name)) table ≡ name ++ dot ∷ []

first_of : (x y : ℕ) (xs ys : List ℕ) → x ∷ xs ≡ y ∷ ys → x ≡ y
first_of x y xs ys e = cc

rest_of : (x y : ℕ) (xs ys : List ℕ) → x ∷ xs ≡ y ∷ ys → xs ≡ ys
rest_of x y xs ys e = cc

same_front : (a b table : List ℕ) → Plain a → Plain b → begun a table → begun b table → a ≡ b
same_front [] [] table of_a of_b by_a by_b = refl
same_front [] (y ∷ b) [] of_a of_b by_a by_b = cc
same_front [] (y ∷ b) (x ∷ table) of_a of_b by_a by_b = absurd (of_b.0.1 (sym (first_of x y _ _ by_b) ∙ first_of x dot _ _ by_a))
same_front (z ∷ a) [] [] of_a of_b by_a by_b = cc
same_front (z ∷ a) [] (x ∷ table) of_a of_b by_a by_b = absurd (of_a.0.1 (sym (first_of x z _ _ by_a) ∙ first_of x dot _ _ by_b))
same_front (z ∷ a) (y ∷ b) [] of_a of_b by_a by_b = cc
same_front (z ∷ a) (y ∷ b) (x ∷ table) of_a of_b by_a by_b =
    let heads : z ≡ y = sym (first_of x z _ _ by_a) ∙ first_of x y _ _ by_b in
    let tails : a ≡ b = same_front a b table of_a.1 of_b.1 (rest_of x z _ _ by_a) (rest_of x y _ _ by_b) in
    λ i. heads i ∷ tails i

begins : (name table : List ℕ) → IsTrue (is_table_of name table) → begun name table
begins name table is =
    let next : length name + 1 ≡ suc (length name) = omega arith in
    ap (λ n. take n table) (sym next) ∙ (bytes_eq-Decides (take (length name + 1) table) (name ++ dot ∷ [])).0 is

not_of : (name other table : Name) → IsApplicationName name → IsApplicationName other → (other ≡ name → ⊥) → IsTrue (is_table_of other table) → IsFalse (is_table_of name table)
not_of name other table plain plain' differ is = by_test (is_table_of name table) refl
  where
    by_test : (b : Bool) → is_table_of name table ≡ b → b ≡ false
    by_test true both = absurd (differ (same_front other name table plain'.bytes plain.bytes (begins other table is) (begins name table both)))
    by_test false both = refl

none_of : (name other : Name) (tables : List Table) → IsApplicationName name → IsApplicationName other → (other ≡ name → ⊥) →
    AllByRecursion (λ (table : Table). IsTrue (is_table_of other table.name)) tables → AllByRecursion (λ (table : Table). IsFalse (is_table_of name table.name)) tables
none_of name other [] plain plain' differ all = tt
none_of name other (table ∷ tables) plain plain' differ all = (not_of name other table.name plain plain' differ all.0, none_of name other tables plain plain' differ all.1)

-- ---- all seats

pub each_of : {A : Type 0} (P : A → Type 0) (xs : List A) (d : A) → ((i : ℕ) → P (slice_index_or xs i d)) → AllByRecursion P xs
each_of P [] d each = tt
each_of P (x ∷ xs) d each = (each 0, each_of P xs d (λ i. each (suc i)))

nobody : (name : Name) (places : List (Option Sender)) → ((i : ℕ) → IfSome (slice_index_or places i None) (λ (sender : Sender). is_named name sender.name ≡ false)) → events_among places name ≡ None
nobody name [] each = refl
nobody name (None ∷ places) each = nobody name places (λ i. each (suc i))
nobody name (Some sender ∷ places) each = ap (λ b. if b then Some sender.events else events_among places name) (each 0) ∙ nobody name places (λ i. each (suc i))

module _ (seats : List (Option Object)) (s : Services) (seated : AreSeated seats s) (name : Name) (plain : IsApplicationName name)
    (absent : (seat : ℕ) → IfSome (object_at seat seats) (λ (o : Object). is_named name o.called ≡ false)) where
  differs : (o : Object) → is_named name o.called ≡ false → o.called ≡ name → ⊥
  differs o unlike same = let itself : is_named name o.called ≡ true = (bytes_eq-Decides name o.called).1 (sym same) in cc

  sender_at_seat : (seat : ℕ) (place : Option Object) → object_at seat seats ≡ place → IfSome place (IsRunning s seat) → IfSome place (λ (o : Object). is_named name o.called ≡ false) →
      IfSome (sender_at (Some seat) s.events) (λ (sender : Sender). is_named name sender.name ≡ false)
  sender_at_seat seat None at running unlike = subst (λ (x : Option Sender). IfSome x (λ (sender : Sender). is_named name sender.name ≡ false)) (sym (seated.free seat at).sender) tt
  sender_at_seat seat (Some o) at running unlike = by_sender (sender_at (Some seat) s.events) running.home.belongs.sender
    where
      by_sender : (x : Option Sender) → IfSome x (λ (sender : Sender). sender.name ≡ o.called) → IfSome x (λ (sender : Sender). is_named name sender.name ≡ false)
      by_sender None e = tt
      by_sender (Some sender) e = ap (is_named name) e ∙ unlike

  tables_at_seat : (seat : ℕ) (place : Option Object) → object_at seat seats ≡ place → IfSome place (IsRunning s seat) → IfSome place (λ (o : Object). is_named name o.called ≡ false) →
      AllByRecursion (λ (table : Table). IsFalse (is_table_of name table.name)) (tables_at seat s.tables.places)
  tables_at_seat seat None at running unlike = rw (seated.free seat at).tables tt
  tables_at_seat seat (Some o) at running unlike = none_of name o.called (tables_at seat s.tables.places) plain running.named (differs o unlike) running.home.belongs.tables

  -- a start of this name may take a free seat
  pub is_unused : IsUnusedName name (held_by s)
  is_unused = record {
    sender =
        ap (λ b. if b then Some s.events.host else events_among s.events.places name) plain.own
        ∙ nobody name s.events.places (λ i. sender_at_seat i (object_at i seats) refl (seated.running i) (absent i));
    tables = each_of (λ (tables : List Table). AllByRecursion (λ (table : Table). IsFalse (is_table_of name table.name)) tables) s.tables.places []
        (λ i. tables_at_seat i (object_at i seats) refl (seated.running i) (absent i));
  }
