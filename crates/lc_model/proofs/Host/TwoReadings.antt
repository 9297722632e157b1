-- Steps of two readings, one after the other, stay alike.
use Rattle.std.proofs.Common.{◌≡◌, ℕ, Bool, true, false, List, [], ◌∷◌, refl, subst, Option, Some, None, option_map, is_none, is_some, Result, Ok, Err, if◌then◌else◌}
use Rattle.std.specs.Option.{option_map_or, option_or}
use Rattle.std.specs.List.{AllZip}
use Rattle.lc_model.specs.Refusal.{Refusal, ◌>>=◌, found, provided}
use Rattle.lc_model.specs.Name.{Name, is_named, value_under, put}
use Rattle.lc_model.specs.Laws.Correspondence.{BothOrNone}

-- both done, and alike; or both refused for one reason
abbrev pub SameAnswers : {A B : Type 0} → (A → B → Type 0) → Result A Refusal → Result B Refusal → Type 0
SameAnswers R (Ok a) (Ok b) = R a b
SameAnswers R (Err r) (Err s) = r ≡ s
SameAnswers R r s = ⊥

pub branch : {A B : Type 0} (R : A → B → Type 0) (test : Bool) (x x' : A) (y y' : B) → R x y → R x' y' →
    R (if test then x else x') (if test then y else y')
branch R true x x' y y' at_true at_false = at_true
branch R false x x' y y' at_true at_false = at_false

pub both_map_or : {A B C D : Type 0} (R : A → B → Type 0) (S : C → D → Type 0) (f : A → C) (g : B → D) (o : Option A) (p : Option B) (c : C) (d : D) →
    BothOrNone R o p → ((a : A) (b : B) → R a b → S (f a) (g b)) → S c d → S (option_map_or f o c) (option_map_or g p d)
both_map_or R S f g None None c d h each other = other
both_map_or R S f g None (Some b) c d h each other = absurd h
both_map_or R S f g (Some a) None c d h each other = absurd h
both_map_or R S f g (Some a) (Some b) c d h each other = each a b h

pub both_map : {A B C D : Type 0} (R : A → B → Type 0) (S : C → D → Type 0) (f : A → C) (g : B → D) (o : Option A) (p : Option B) →
    BothOrNone R o p → ((a : A) (b : B) → R a b → S (f a) (g b)) → BothOrNone S (option_map f o) (option_map g p)
both_map R S f g None None h each = tt
both_map R S f g None (Some b) h each = absurd h
both_map R S f g (Some a) None h each = absurd h
both_map R S f g (Some a) (Some b) h each = each a b h

-- of the same option
pub same_map_or : {X C D : Type 0} (S : C → D → Type 0) (f : X → C) (g : X → D) (o : Option X) (c : C) (d : D) →
    ((x : X) → S (f x) (g x)) → S c d → S (option_map_or f o c) (option_map_or g o d)
same_map_or S f g None c d each other = other
same_map_or S f g (Some x) c d each other = each x

pub both_or : {A B : Type 0} (R : A → B → Type 0) (o o' : Option A) (p p' : Option B) → BothOrNone R o p → BothOrNone R o' p' →
    BothOrNone R (option_or o o') (option_or p p')
both_or R None o' None p' h h' = h'
both_or R None o' (Some b) p' h h' = absurd h
both_or R (Some a) o' None p' h h' = absurd h
both_or R (Some a) o' (Some b) p' h h' = h

pub both_none : {A B : Type 0} (R : A → B → Type 0) (o : Option A) (p : Option B) → BothOrNone R o p → is_none o ≡ is_none p
both_none R None None h = refl
both_none R None (Some b) h = absurd h
both_none R (Some a) None h = absurd h
both_none R (Some a) (Some b) h = refl

pub both_some : {A B : Type 0} (R : A → B → Type 0) (o : Option A) (p : Option B) → BothOrNone R o p → is_some o ≡ is_some p
both_some R None None h = refl
both_some R None (Some b) h = absurd h
both_some R (Some a) None h = absurd h
both_some R (Some a) (Some b) h = refl

pub after : {A B C D : Type 0} (R : A → B → Type 0) (S : C → D → Type 0) (r : Result A Refusal) (s : Result B Refusal)
    (f : A → Result C Refusal) (g : B → Result D Refusal) →
    SameAnswers R r s → ((a : A) (b : B) → R a b → SameAnswers S (f a) (g b)) → SameAnswers S (r >>= f) (s >>= g)
after R S (Ok a) (Ok b) f g h each = each a b h
after R S (Ok a) (Err s) f g h each = absurd h
after R S (Err r) (Ok b) f g h each = absurd h
after R S (Err r) (Err s) f g h each = h

-- after the same step
pub after_same : {X C D : Type 0} (S : C → D → Type 0) (r : Result X Refusal) (f : X → Result C Refusal) (g : X → Result D Refusal) →
    ((x : X) → SameAnswers S (f x) (g x)) → SameAnswers S (r >>= f) (r >>= g)
after_same S (Ok x) f g each = each x
after_same S (Err r) f g each = refl

pub found_alike : {A B : Type 0} (R : A → B → Type 0) (o : Option A) (p : Option B) (code : ℕ) → BothOrNone R o p → SameAnswers R (found o code) (found p code)
found_alike R None None code h = refl
found_alike R None (Some b) code h = absurd h
found_alike R (Some a) None code h = absurd h
found_alike R (Some a) (Some b) code h = h

pub provided_alike : {A B : Type 0} (R : A → B → Type 0) (test : Bool) (code : ℕ) (a : A) (b : B) → R a b → SameAnswers R (provided test code a) (provided test code b)
provided_alike R true code a b h = h
provided_alike R false code a b h = refl

-- ---- what is held under names

-- the same name, with what is alike
abbrev pub Entry : {A B : Type 0} → (A → B → Type 0) → Name × A → Name × B → Type 0
Entry R f g = (f.0 ≡ g.0) × R f.1 g.1

module _ {A B : Type 0} (R : A → B → Type 0) where
  pub value_alike : (name : Name) (fs : List (Name × A)) (gs : List (Name × B)) → AllZip (Entry R) fs gs → BothOrNone R (value_under name fs) (value_under name gs)
  value_alike name [] [] h = tt
  value_alike name [] (g ∷ gs) h = absurd h
  value_alike name (f ∷ fs) [] h = absurd h
  value_alike name (f ∷ fs) (g ∷ gs) h =
      subst (λ n. BothOrNone R (if is_named name f.0 then Some f.1 else value_under name fs) (if is_named name n then Some g.1 else value_under name gs)) h.0.0
      (branch (BothOrNone R) (is_named name f.0) (Some f.1) (value_under name fs) (Some g.1) (value_under name gs) h.0.1 (value_alike name fs gs h.1))

  pub put_alike : (name : Name) (a : A) (b : B) (fs : List (Name × A)) (gs : List (Name × B)) → R a b → AllZip (Entry R) fs gs →
      AllZip (Entry R) (put name a fs) (put name b gs)
  put_alike name a b [] [] new h = ((refl, new), tt)
  put_alike name a b [] (g ∷ gs) new h = absurd h
  put_alike name a b (f ∷ fs) [] new h = absurd h
  put_alike name a b (f ∷ fs) (g ∷ gs) new h =
      subst (λ n. AllZip (Entry R) (if is_named name f.0 then (name, a) ∷ fs else f ∷ put name a fs) (if is_named name n then (name, b) ∷ gs else g ∷ put name b gs)) h.0.0
      (branch (AllZip (Entry R)) (is_named name f.0) ((name, a) ∷ fs) (f ∷ put name a fs) ((name, b) ∷ gs) (g ∷ put name b gs) ((refl, new), h.1)
      (h.0, put_alike name a b fs gs new h.1))
