-- The four senders by name, and what is held under names.
use Rattle.std.proofs.Common.{◌≡◌, Bool, true, false, refl, sym, ◌∙◌, subst, if◌then◌else◌, IsFalse}
use Rattle.std.proofs.lemmas.Slice.Eq.{bytes_eq-Decides}
use Rattle.lc_model.specs.Name.{Name, is_named, host_name, lc_name, sch_name, counter_name}
use Rattle.lc_model.specs.Kept.Call.{with_at}

-- a fact about all names, where it stands of the four and of all that are none of them
pub by_names : (P : Name → Type 0) (name : Name) → P host_name → P lc_name → P sch_name → P counter_name →
    (IsFalse (is_named name host_name) → IsFalse (is_named name lc_name) → IsFalse (is_named name sch_name) → IsFalse (is_named name counter_name) → P name) →
    P name
by_names P name host lc sch counter other = by_host (is_named name host_name) refl
  where
    moved : (known : Name) → P known → is_named name known ≡ true → P name
    moved known at e = subst P (sym ((bytes_eq-Decides name known).0 e)) at

    by_counter : (b : Bool) → is_named name counter_name ≡ b → IsFalse (is_named name host_name) → IsFalse (is_named name lc_name) → IsFalse (is_named name sch_name) → P name
    by_counter true e x y z = moved counter_name counter e
    by_counter false e x y z = other x y z e

    by_sch : (b : Bool) → is_named name sch_name ≡ b → IsFalse (is_named name host_name) → IsFalse (is_named name lc_name) → P name
    by_sch true e x y = moved sch_name sch e
    by_sch false e x y = by_counter (is_named name counter_name) refl x y e

    by_lc : (b : Bool) → is_named name lc_name ≡ b → IsFalse (is_named name host_name) → P name
    by_lc true e x = moved lc_name lc e
    by_lc false e x = by_sch (is_named name sch_name) refl x e

    by_host : (b : Bool) → is_named name host_name ≡ b → P name
    by_host true e = moved host_name host e
    by_host false e = by_lc (is_named name lc_name) refl e

-- what is held under the four names
abbrev pub four : {X : Type 0} → X → X → X → X → X → Name → X
four h l s c n name =
    if is_named name host_name then h else if is_named name lc_name then l
    else if is_named name sch_name then s else if is_named name counter_name then c else n

-- one of five by four tests
abbrev by_tests : {X : Type 0} → X → X → X → X → X → Bool → Bool → Bool → Bool → X
by_tests h l s c n a b d e = if a then h else if b then l else if d then s else if e then c else n

module _ {X : Type 0} (h l s c n x : X) where
  pub host_changed : (name : Name) → four x l s c n name ≡ with_at host_name x (four h l s c n) name
  host_changed name = either (is_named name host_name)
    where
      either : (a : Bool) → (if a then x else by_tests h l s c n false (is_named name lc_name) (is_named name sch_name) (is_named name counter_name))
          ≡ (if a then x else by_tests h l s c n a (is_named name lc_name) (is_named name sch_name) (is_named name counter_name))
      either true = refl
      either false = refl

  pub lc_changed : (name : Name) → four h x s c n name ≡ with_at lc_name x (four h l s c n) name
  lc_changed name = by_names (λ name. four h x s c n name ≡ with_at lc_name x (four h l s c n) name) name refl refl refl refl
      (λ p q r t. (λ i. by_tests h x s c n (p i) (q i) (r i) (t i)) ∙ sym (λ i. if q i then x else by_tests h l s c n (p i) (q i) (r i) (t i)))

  pub sch_changed : (name : Name) → four h l x c n name ≡ with_at sch_name x (four h l s c n) name
  sch_changed name = by_names (λ name. four h l x c n name ≡ with_at sch_name x (four h l s c n) name) name refl refl refl refl
      (λ p q r t. (λ i. by_tests h l x c n (p i) (q i) (r i) (t i)) ∙ sym (λ i. if r i then x else by_tests h l s c n (p i) (q i) (r i) (t i)))

  pub counter_changed : (name : Name) → four h l s x n name ≡ with_at counter_name x (four h l s c n) name
  counter_changed name = by_names (λ name. four h l s x n name ≡ with_at counter_name x (four h l s c n) name) name refl refl refl refl
      (λ p q r t. (λ i. by_tests h l s x n (p i) (q i) (r i) (t i)) ∙ sym (λ i. if t i then x else by_tests h l s c n (p i) (q i) (r i) (t i)))

-- a function of a choice
pub pushed : {X Y : Type 0} (f : X → Y) (x y : X) (test : Bool) → f (if test then x else y) ≡ (if test then f x else f y)
pushed f x y true = refl
pushed f x y false = refl
