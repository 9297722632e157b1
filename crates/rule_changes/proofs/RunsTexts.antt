-- Two texts in two runs: their halves stand beside each other, every other image beside itself.
use Rattle.std.proofs.Common.{◌≡◌, ℕ, zero, suc, Bool, true, false, List, [], ◌∷◌, length, bytes_eq, refl, ap, ap₂, sym, ◌∙◌, subst, arith, Contains, Option, Some, None, Result, Ok, Err, if◌then◌else◌, IsTrue, inl, inr}
use Rattle.std.specs.Prelude.{◌⊎◌, ⊤, find, slice_get}
use Rattle.std.specs.Option.{option_map_or}
use Rattle.std.specs.List.{AllByRecursion}
use Rattle.std.proofs.lemmas.Slice.Eq.{bytes_eq-Decides}
use Rattle.sha2.specs.Sha256.{sha256}
use Rattle.lc_model.specs.declared.kind.Kind.{Kind}
use Rattle.lc_model.specs.Rule.{Actionpoint, actions}
use Rattle.lc_model.specs.Tables.Image.{Layout, ImageFault, fault_of, hash_of}
use Rattle.lc_model.specs.Tables.File.{TableFile, opened}
use Rattle.lc_model.specs.Tables.Interpretation.{Pair, kind_of_size}
use Rattle.lc_model.specs.Tables.HalvesAndBytes.{Text, TextImage, HalfOf, Faulty, Foreign, half_fault, is_of_one_text, rules_of_half, as_halves, half_of_one, image_of_kind, text_image, half_numbered, text_meanings, meaning_by}
use Rattle.lc_model.specs.Host.Stream.{Contents, Packet, Tick, File, Half}
use Rattle.lc_model.specs.Host.Run.{input_of}
use Rattle.lc_model.specs.Laws.Correspondence.{Agrees, SoundAlike, MeaningAlike, InputAlike}
use Rattle.lc_model.specs.Laws.Reworded.{IsApart, IsNotOf}
use Rattle.rule_changes.proofs.RunsSeats.{fresh_seats}
use Rattle.rule_changes.proofs.RunsComparison.{Comparison, Seats}
use Rattle.rule_changes.proofs.RunsOneChecker.{shape}

find_among : {A : Type 0} (p : A → Bool) (xs : List A) (x : A) → find p xs ≡ Some x → Contains xs x
find_among p [] x e = cc
find_among p (y ∷ xs) x e = by_test (find_among p xs x) (p y) e
  where
    by_test : (find p xs ≡ Some x → Contains xs x) → (test : Bool) → (if test then Some y else find p xs) ≡ Some x → Contains (y ∷ xs) x
    by_test later true e = let same : y ≡ x = cc in (0, omega arith, same)
    by_test later false e = let there = later e in (suc there.0, omega (arith, there.1), there.2)

get_among : {A : Type 0} (xs : List A) (n : ℕ) (x : A) → slice_get xs n ≡ Some x → Contains xs x
get_among [] n x e = absurd (cc e)
get_among (y ∷ xs) zero x e = let same : y ≡ x = cc e in (0, omega arith, same)
get_among (y ∷ xs) (suc n) x e = let there = get_among xs n x e in (suc there.0, omega (arith, there.1), there.2)

of_one : {A : Type 0} (P : A → Type 0) (xs : List A) (x : A) → AllByRecursion P xs → Contains xs x → P x
of_one P [] x all among = absurd (omega (arith, among.1))
of_one P (y ∷ xs) x all (zero, below, is) = subst P is all.0
of_one P (y ∷ xs) x all (suc k, below, is) = of_one P xs x all.1 (k, omega (arith, below), is)

own_source : (source : List ℕ) → bytes_eq source source ≡ true
own_source source = (bytes_eq-Decides source source).1 refl

module _ (layouts : List Layout) (old new : Text) (others : List Text) (apart : IsApart old others) (apart' : IsApart new others) where
  -- the old text's and the new text's half, or one and the same of another text
  abbrev pub Twins : Text → Text → Type 0
  Twins a b = ((a ≡ old) × (b ≡ new)) ⊎ ((a ≡ b) × Contains others b)

  abbrev pub Twin : TextImage → TextImage → Type 0
  Twin (HalfOf kind a) (HalfOf kind' b) = (kind ≡ kind') × Twins a b
  Twin (Faulty kind fault) (Faulty kind' fault') = (kind ≡ kind') × (fault ≡ fault')
  Twin Foreign Foreign = ⊤
  Twin image other = ⊥

  -- ---- read alike

  faults : (kind : Kind) (a b : TextImage) → Twin a b → half_fault kind a ≡ half_fault kind b
  faults kind (HalfOf own a) (HalfOf own' b) h = ap (λ k. half_fault kind (HalfOf k a)) h.0
  faults kind (HalfOf own a) (Faulty own' fault) h = absurd h
  faults kind (HalfOf own a) Foreign h = absurd h
  faults kind (Faulty own fault) (HalfOf own' b) h = absurd h
  faults kind (Faulty own fault) (Faulty own' fault') h = ap₂ (λ k f. half_fault kind (Faulty k f)) h.0 h.1
  faults kind (Faulty own fault) Foreign h = absurd h
  faults kind Foreign (HalfOf own' b) h = absurd h
  faults kind Foreign (Faulty own' fault') h = absurd h
  faults kind Foreign Foreign h = refl

  one_text : (a b c d : Text) → Twins a b → Twins c d → bytes_eq a.source c.source ≡ bytes_eq b.source d.source
  one_text a b c d (inl x) (inl y) =
      ap₂ (λ (s t : Text). bytes_eq s.source t.source) x.0 y.0 ∙ own_source old.source ∙ sym (own_source new.source)
      ∙ sym (ap₂ (λ (s t : Text). bytes_eq s.source t.source) x.1 y.1)
  one_text a b c d (inl x) (inr y) =
      ap₂ (λ (s t : Text). bytes_eq s.source t.source) x.0 y.0 ∙ (of_one _ others d apart y.1).0 ∙ sym (of_one _ others d apart' y.1).0
      ∙ sym (ap (λ (s : Text). bytes_eq s.source d.source) x.1)
  one_text a b c d (inr x) (inl y) =
      ap₂ (λ (s t : Text). bytes_eq s.source t.source) x.0 y.0 ∙ (of_one _ others b apart x.1).1 ∙ sym (of_one _ others b apart' x.1).1
      ∙ sym (ap (λ (t : Text). bytes_eq b.source t.source) y.1)
  one_text a b c d (inr x) (inr y) = ap₂ (λ (s t : Text). bytes_eq s.source t.source) x.0 y.0

  one_pair : (a b c d : TextImage) → Twin a b → Twin c d → is_of_one_text a c ≡ is_of_one_text b d
  one_pair (HalfOf ks s) (HalfOf ks1 s1) (HalfOf kt t) (HalfOf kt1 t1) h h1 = one_text s s1 t t1 h.1 h1.1
  one_pair (HalfOf ks s) (HalfOf ks1 s1) (HalfOf kt t) (Faulty kt1 ft1) h h1 = absurd h1
  one_pair (HalfOf ks s) (HalfOf ks1 s1) (HalfOf kt t) Foreign h h1 = absurd h1
  one_pair (HalfOf ks s) (HalfOf ks1 s1) (Faulty kt ft) (HalfOf kt1 t1) h h1 = absurd h1
  one_pair (HalfOf ks s) (HalfOf ks1 s1) (Faulty kt ft) (Faulty kt1 ft1) h h1 = refl
  one_pair (HalfOf ks s) (HalfOf ks1 s1) (Faulty kt ft) Foreign h h1 = absurd h1
  one_pair (HalfOf ks s) (HalfOf ks1 s1) Foreign (HalfOf kt1 t1) h h1 = absurd h1
  one_pair (HalfOf ks s) (HalfOf ks1 s1) Foreign (Faulty kt1 ft1) h h1 = absurd h1
  one_pair (HalfOf ks s) (HalfOf ks1 s1) Foreign Foreign h h1 = refl
  one_pair (HalfOf ks s) (Faulty ks1 fs1) c d h h1 = absurd h
  one_pair (HalfOf ks s) Foreign c d h h1 = absurd h
  one_pair (Faulty ks fs) (HalfOf ks1 s1) c d h h1 = absurd h
  one_pair (Faulty ks fs) (Faulty ks1 fs1) c d h h1 = refl
  one_pair (Faulty ks fs) Foreign c d h h1 = absurd h
  one_pair Foreign (HalfOf ks1 s1) c d h h1 = absurd h
  one_pair Foreign (Faulty ks1 fs1) c d h h1 = absurd h
  one_pair Foreign Foreign c d h h1 = refl

  pub agree : Agrees Twin (shape (as_halves layouts)) (shape (as_halves layouts))
  agree = record {
    sizes = λ kind size. refl;
    faults = faults;
    matches = λ p q h. one_pair p.wdt q.wdt p.adt q.adt h.wdt h.adt;
    short = λ p q h matching packet. refl;
    rules = λ p q h matching. tt;
  }

  -- ---- rules

  module _ (c : Comparison) (fresh : Seats c 0 (fresh_seats (actions old.rules)) (fresh_seats (actions new.rules)))
      (itself : (rules : List Actionpoint) → Seats c 0 (fresh_seats rules) (fresh_seats rules)) where
    rules_beside : (a b : TextImage) → Twin a b → Seats c 0 (fresh_seats (actions (rules_of_half a))) (fresh_seats (actions (rules_of_half b)))
    rules_beside (HalfOf kind a) (HalfOf kind' b) h = by_text h.1
      where
        by_text : Twins a b → Seats c 0 (fresh_seats (actions a.rules)) (fresh_seats (actions b.rules))
        by_text (inl x) =
            subst (λ (s : Text). Seats c 0 (fresh_seats (actions s.rules)) (fresh_seats (actions b.rules))) (sym x.0)
            (subst (λ (t : Text). Seats c 0 (fresh_seats (actions old.rules)) (fresh_seats (actions t.rules))) (sym x.1) fresh)
        by_text (inr x) = subst (λ (t : Text). Seats c 0 (fresh_seats (actions a.rules)) (fresh_seats (actions t.rules))) x.0 (itself (actions a.rules))
    rules_beside (HalfOf kind a) (Faulty kind' fault) h = absurd h
    rules_beside (HalfOf kind a) Foreign h = absurd h
    rules_beside (Faulty kind fault) (HalfOf kind' b) h = absurd h
    rules_beside (Faulty kind fault) (Faulty kind' fault') h = itself []
    rules_beside (Faulty kind fault) Foreign h = absurd h
    rules_beside Foreign (HalfOf kind' b) h = absurd h
    rules_beside Foreign (Faulty kind' fault') h = absurd h
    rules_beside Foreign Foreign h = itself []

    pub kin : (p q : Pair TextImage) → SoundAlike Twin (shape (as_halves layouts)) (shape (as_halves layouts)) p q → IsTrue ((as_halves layouts).matches p) →
        Seats c 0 (fresh_seats ((as_halves layouts).rules p)) (fresh_seats ((as_halves layouts).rules q))
    kin p q h matching = rules_beside p.wdt q.wdt h.wdt

  -- ---- records

  own_half : (kind : Kind) (o : Option Text) → ((text : Text) → o ≡ Some text → Contains others text) →
      Twin (option_map_or (HalfOf kind) o Foreign) (option_map_or (HalfOf kind) o Foreign)
  own_half kind None among = tt
  own_half kind (Some text) among = (refl, inr (refl, among text refl))

  found_half : (kind : Kind) (image : List ℕ) → bytes_eq (sha256 old.source) (hash_of image) ≡ false → bytes_eq (sha256 new.source) (hash_of image) ≡ false →
      Twin (half_of_one layouts (old ∷ others) kind image) (half_of_one layouts (new ∷ others) kind image)
  found_half kind image free free' =
      let rest : Option Text = find (λ (text : Text). bytes_eq (sha256 text.source) (hash_of image)) others in
      subst (λ test. Twin (option_map_or (HalfOf kind) (if test then Some old else rest) Foreign) (half_of_one layouts (new ∷ others) kind image)) (sym free)
      (subst (λ test. Twin (option_map_or (HalfOf kind) rest Foreign) (option_map_or (HalfOf kind) (if test then Some new else rest) Foreign)) (sym free')
      (own_half kind rest (find_among (λ (text : Text). bytes_eq (sha256 text.source) (hash_of image)) others)))

  image_twin : (image : List ℕ) → bytes_eq (sha256 old.source) (hash_of image) ≡ false → bytes_eq (sha256 new.source) (hash_of image) ≡ false →
      Twin (text_image layouts (old ∷ others) image) (text_image layouts (new ∷ others) image)
  image_twin image free free' = by_size (kind_of_size layouts (length image))
    where
      by_fault : (kind : Kind) (o : Option ImageFault) →
          Twin (option_map_or (Faulty kind) o (half_of_one layouts (old ∷ others) kind image)) (option_map_or (Faulty kind) o (half_of_one layouts (new ∷ others) kind image))
      by_fault kind (Some fault) = (refl, refl)
      by_fault kind None = found_half kind image free free'

      by_size : (o : Option Kind) →
          Twin (option_map_or (image_of_kind layouts (old ∷ others) image) o Foreign) (option_map_or (image_of_kind layouts (new ∷ others) image) o Foreign)
      by_size None = tt
      by_size (Some kind) = by_fault kind (fault_of layouts kind image)

  numbered_half : (kind : Kind) (number : ℕ) → Twin (half_numbered layouts (old ∷ others) kind number) (half_numbered layouts (new ∷ others) kind number)
  numbered_half kind zero = (refl, inl (refl, refl))
  numbered_half kind (suc number) = own_half kind (slice_get others number) (get_among others number)

  pub brings_alike : (contents : Contents) → IsNotOf old contents → IsNotOf new contents →
      InputAlike Twin (shape (as_halves layouts)) (shape (as_halves layouts)) (input_of (text_meanings layouts (old ∷ others)) contents) (input_of (text_meanings layouts (new ∷ others)) contents)
  brings_alike (Packet bytes) free free' = refl
  brings_alike Tick free free' = tt
  brings_alike (File name bytes) free free' = (refl, refl, by_opened (opened bytes) (free name bytes) (free' name bytes))
    where
      by_opened : (r : Result TableFile ℕ) →
          ((file : TableFile) → File name bytes ≡ File name bytes → r ≡ Ok file → bytes_eq (sha256 old.source) (hash_of file.image) ≡ false) →
          ((file : TableFile) → File name bytes ≡ File name bytes → r ≡ Ok file → bytes_eq (sha256 new.source) (hash_of file.image) ≡ false) →
          MeaningAlike Twin (shape (as_halves layouts)) (shape (as_halves layouts)) (meaning_by (text_image layouts (old ∷ others)) r) (meaning_by (text_image layouts (new ∷ others)) r)
      by_opened (Ok file) free free' = (refl, refl, image_twin file.image (free file refl refl) (free' file refl refl))
      by_opened (Err fault) free free' = refl
  brings_alike (Half name kind number) free free' = (refl, refl, (refl, refl, numbered_half kind number))
